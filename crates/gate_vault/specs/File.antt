-- The format of a vault file, and what a file stands for.
use Rattle.std.specs.Prelude.{◌≡◌, ◌≢◌, ◌⊎◌, ⊤, ℕ, ◌+◌, ◌*◌, ◌/◌, ◌%◌, ◌<◌, ◌≤◌, List, [], ◌∷◌, ◌++◌, length, Option, slice_get, take}

-- the letters BELVAULT
abbrev pub head : List ℕ
head = 66 ∷ 69 ∷ 76 ∷ 86 ∷ 65 ∷ 85 ∷ 76 ∷ 84 ∷ []

-- the length of a payload in two bytes, the higher first, and its bytes
abbrev pub payload : List ℕ → List ℕ
payload entry = (length entry / 256) ∷ (length entry % 256) ∷ entry

-- an open gate before each entry's payload
abbrev pub frames : List (List ℕ) → List ℕ
frames [] = []
frames (entry ∷ entries) = 1 ∷ payload entry ++ frames entries

-- where the gate after these entries stands
abbrev pub gate_after : List (List ℕ) → ℕ
gate_after entries = 8 + length (frames entries)

-- the end of the file, or a byte other than 01
abbrev pub IsClosed : List ℕ → Type 0
IsClosed [] = ⊤
IsClosed (gate ∷ rest) = gate ≢ 1

-- the file is the head, a frame for each entry, and then it ends or has a closed gate
pub record StandsFor (file : List ℕ) (entries : List (List ℕ)) : Type 0 where
  pub rest : List ℕ
  pub split : file ≡ head ++ frames entries ++ rest
  pub closed : IsClosed rest

-- it stands for the entries, and the byte of its last gate is there
pub record StandsWithGate (file : List ℕ) (entries : List (List ℕ)) : Type 0 where
  pub gate : ℕ
  pub rest : List ℕ
  pub split : file ≡ head ++ frames entries ++ gate ∷ rest
  pub closed : gate ≢ 1

-- it stands for the entries, and the byte of its last gate is 00, as a vault writes it
pub record StandsClosed (file : List ℕ) (entries : List (List ℕ)) : Type 0 where
  pub rest : List ℕ
  pub split : file ≡ head ++ frames entries ++ 0 ∷ rest

-- each entry has at most 4,096 bytes
abbrev pub AreShort : List (List ℕ) → Type 0
AreShort [] = ⊤
AreShort (entry ∷ entries) = (length entry ≤ 4096) × AreShort entries

-- the file and the head are the same before `at`, where the head has a byte, and the file has `byte` there, or ends
pub record HeadDiffers (file : List ℕ) (at : ℕ) (byte : Option ℕ) : Type 0 where
  pub within : at < 8
  pub same : take at file ≡ take at head
  pub there : slice_get file at ≡ byte
  pub differs : byte ≢ slice_get head at

-- what follows an open gate is no frame: the length is cut short or above the limit, or the bytes are too few
abbrev pub IsNoPayload : List ℕ → Type 0
IsNoPayload [] = ⊤
IsNoPayload (high ∷ []) = ⊤
IsNoPayload (high ∷ low ∷ bytes) = (4096 < 256 * high + low) ⊎ (length bytes < 256 * high + low)

-- after the head and these entries, within the limit, an open gate stands at `at` with no frame behind it
pub record IsDamagedAt (file : List ℕ) (at : ℕ) : Type 0 where
  pub entries : List (List ℕ)
  pub rest : List ℕ
  pub split : file ≡ head ++ frames entries ++ 1 ∷ rest
  pub short : AreShort entries
  pub place : at ≡ gate_after entries
  pub no_payload : IsNoPayload rest

-- the file stands for the entries, or for these and one more, and the byte of its last gate is there
abbrev pub IsBeforeOrAfter : List (List ℕ) → List ℕ → List ℕ → Type 0
IsBeforeOrAfter entries entry file = StandsWithGate file entries ⊎ StandsWithGate file (entries ++ entry ∷ [])
