-- Numbers as bytes, the high ones first.
use Rattle.std.specs.Prelude.{ℕ, List, ◌++◌, length}
use Rattle.std.specs.Int.{w16, w32, w64, to_be_bytes}

-- a number in two bytes
unfoldable pub two : ℕ → List ℕ
two n = to_be_bytes w16 n

-- a number in four bytes
unfoldable pub four : ℕ → List ℕ
four n = to_be_bytes w32 n

-- a number in eight bytes
unfoldable pub eight : ℕ → List ℕ
eight n = to_be_bytes w64 n

-- a body: its length in two bytes, and then its own
abbrev pub sized : List ℕ → List ℕ
sized body = two (length body) ++ body
