-- Reading fields from left to right, with the first fault that is met.
use Rattle.std.specs.Prelude.{ℕ, ◌+◌, ◌-◌, ◌&&◌, nat_lt, nat_le, if◌then◌else◌, List, length, take, drop, get_or, Option, Some, None, Result, Ok, Err}
use Rattle.std.specs.Int.{Width, w16, w32, w64, byte_len, from_be_bytes}

-- From bytes and a place: what stands there and the place after it, or a fault.
abbrev pub Reader : Type 0 → Type 0 → Type 0
Reader A E = List ℕ → ℕ → Result (A × ℕ) E

infixl 10 ◌>>=◌
abbrev pub ◌>>=◌ : {A B E : Type 0} → Result A E → (A → Result B E) → Result B E
(Ok x) >>= f = f x
(Err e) >>= f = Err e

-- the byte at a place, and the place after it; none at the end
unfoldable pub byte_at : List ℕ → ℕ → Option (ℕ × ℕ)
byte_at bytes at = if nat_lt (length bytes - at) 1 then None else Some (get_or bytes at 0, at + 1)

-- the number in the bytes at a place, and the place after it; none where the bytes end before that
abbrev pub number_at : Width → List ℕ → ℕ → Option (ℕ × ℕ)
number_at w bytes at = if nat_lt (length bytes - at) (byte_len w) then None else Some (from_be_bytes w (take (byte_len w) (drop at bytes)), at + byte_len w)

unfoldable pub two_at : List ℕ → ℕ → Option (ℕ × ℕ)
two_at = number_at w16

unfoldable pub four_at : List ℕ → ℕ → Option (ℕ × ℕ)
four_at = number_at w32

unfoldable pub eight_at : List ℕ → ℕ → Option (ℕ × ℕ)
eight_at = number_at w64

-- a field that has to be there, and in its range
abbrev pub field : {E : Type 0} → E → (ℕ → E) → ℕ → ℕ → Option (ℕ × ℕ) → Result (ℕ × ℕ) E
field short wrong least most None = Err short
field short wrong least most (Some n) = if nat_le least n.0 && nat_le n.0 most then Ok n else Err (wrong n.0)

-- as many bytes as were announced
abbrev pub piece : {E : Type 0} → E → ℕ → Reader (List ℕ) E
piece short count bytes at = if nat_lt (length bytes - at) count then Err short else Ok (take count (drop at bytes), at + count)

-- a length, and that many bytes
abbrev pub announced : {E : Type 0} → E → Reader ℕ E → Reader (List ℕ) E
announced short r bytes at = do
  len ← r bytes at
  piece short len.0 bytes len.1

-- one field, and what it makes
abbrev pub one : {A D E : Type 0} → Reader A E → (A → D) → Reader D E
one r make bytes at = do
  a ← r bytes at
  Ok (make a.0, a.1)

-- two fields one after the other, and what they make
abbrev pub two_of : {A B D E : Type 0} → Reader A E → Reader B E → (A → B → D) → Reader D E
two_of r s make bytes at = do
  a ← r bytes at
  b ← s bytes a.1
  Ok (make a.0 b.0, b.1)

-- three fields one after the other, and what they make
abbrev pub three_of : {A B C D E : Type 0} → Reader A E → Reader B E → Reader C E → (A → B → C → D) → Reader D E
three_of r s t make bytes at = do
  a ← r bytes at
  b ← s bytes a.1
  c ← t bytes b.1
  Ok (make a.0 b.0 c.0, c.1)
