-- Chains of blocks, by the number of the block that comes next.
use Rattle.std.specs.Prelude.{ℕ, zero, suc, ◌+◌, List, [], ◌∷◌, get_or, set}

-- the chain of `count` blocks that begins at a block
abbrev pub chain : List ℕ → ℕ → ℕ → List ℕ
chain next first zero = []
chain next first (suc count) = first ∷ chain next (get_or next first 0) count

-- the block that comes `steps` after a block
abbrev pub walk : List ℕ → ℕ → ℕ → ℕ
walk next first zero = first
walk next first (suc steps) = walk next (get_or next first 0) steps

-- what the blocks of these numbers have
abbrev pub contents : List (List ℕ) → List ℕ → List (List ℕ)
contents blocks [] = []
contents blocks (n ∷ ns) = get_or blocks n [] ∷ contents blocks ns

-- the blocks, where each of these numbers has got its bytes, in turn
abbrev pub put_all : List (List ℕ) → List ℕ → List (List ℕ) → List (List ℕ)
put_all blocks [] _ = blocks
put_all blocks (n ∷ ns) [] = blocks
put_all blocks (n ∷ ns) (bytes ∷ rest) = put_all (set blocks n bytes) ns rest

-- so many numbers, from this one on
abbrev pub numbers_from : ℕ → ℕ → List ℕ
numbers_from n zero = []
numbers_from n (suc count) = n ∷ numbers_from (n + 1) count
