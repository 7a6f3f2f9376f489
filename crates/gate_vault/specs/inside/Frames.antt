-- What the reading of a frame answers.
use Rattle.std.specs.Prelude.{◌≡◌, ◌≢◌, ⊤, ℕ, ◌+◌, ◌*◌, ◌<◌, ◌≤◌, List, [], ◌∷◌, ◌++◌, length, take, drop, slice_get, Option, Some, None, Result, Ok, Err}
use Rattle.gate_vault.specs.declared.errors.VaultError.{VaultError}
use Rattle.gate_vault.specs.declared.errors.VaultError.TheVariants.{DiskFault, NotAVault, Damaged, OutOfMemory}
use Rattle.gate_vault.specs.declared.start.FrameStart.{FrameStart}
use Rattle.gate_vault.specs.declared.start.FrameStart.TheVariants.{Closed, Cut, Payload}
use Rattle.gate_vault.specs.File.{head, payload, gate_after, IsClosed, IsNoPayload, StandsFor, AreShort, HeadDiffers}
use Rattle.gate_vault.specs.Stops.{RefusesFile}

-- an open gate with no frame behind it
abbrev pub IsBadFrame : List ℕ → Type 0
IsBadFrame bytes = (rest : List ℕ) × (bytes ≡ 1 ∷ rest) × IsNoPayload rest

-- an open gate and the two bytes of a length
pub record HasLength (start : List ℕ) (len : ℕ) : Type 0 where
  pub high : ℕ
  pub low : ℕ
  pub is : start ≡ 1 ∷ high ∷ low ∷ []
  pub value : len ≡ 256 * high + low
  pub high_byte : high < 256
  pub low_byte : low < 256

-- what the first three bytes of a frame say
abbrev pub IsFrameStart : List ℕ → FrameStart → Type 0
IsFrameStart start Closed = IsClosed start
IsFrameStart start Cut = (rest : List ℕ) × (start ≡ 1 ∷ rest) × (length rest < 2)
IsFrameStart start (Payload len) = HasLength start len

-- at an offset stands a closed gate, a whole frame, or an open gate with no frame behind it
abbrev pub FrameRead : ℕ → List ℕ → Result (Option (List ℕ)) VaultError → Type 0
FrameRead at file (Ok None) = IsClosed (drop at file)
FrameRead at file (Ok (Some entry)) = (length entry ≤ 4096) × (drop at file ≡ 1 ∷ payload entry ++ drop (at + 3 + length entry) file)
FrameRead at file (Err (Damaged place)) = (place ≡ at) × IsBadFrame (drop at file)
FrameRead at file (Err DiskFault) = ⊤
FrameRead at file (Err OutOfMemory) = ⊤
FrameRead at file (Err _) = ⊥

-- the bytes first differ from the head at this place
pub record DiffersFirst (bytes : List ℕ) (at : ℕ) : Type 0 where
  pub within : at < 8
  pub same : take at bytes ≡ take at head
  pub differs : slice_get bytes at ≢ slice_get head at

-- the file begins with the head, or first differs from it
abbrev pub HeadRead : {T : Type 0} → List ℕ → Result T VaultError → Type 0
HeadRead file (Ok _) = take 8 file ≡ head
HeadRead file (Err (NotAVault at byte)) = HeadDiffers file at byte
HeadRead file (Err DiskFault) = ⊤
HeadRead file (Err OutOfMemory) = ⊤
HeadRead file (Err _) = ⊥

-- the file stands for the entries, within the limit, or is refused
abbrev pub FileRead : List ℕ → Result (List (List ℕ) × ℕ) VaultError → Type 0
FileRead file (Ok read) = StandsFor file read.0 × AreShort read.0 × (read.1 ≡ gate_after read.0)
FileRead file (Err e) = RefusesFile file e
