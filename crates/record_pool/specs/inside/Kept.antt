-- How the chains of a pool lie in its blocks.
use Rattle.std.specs.Prelude.{◌≡◌, ◌≢◌, ℕ, zero, suc, ◌+◌, ◌^◌, ◌<◌, List, [], ◌∷◌, length, get_or, sum}
use Rattle.std.specs.List.{AllByRecursion}
use Rattle.record_pool.specs.Chains.{chain, contents}

-- a number that is none of these
abbrev pub Misses : ℕ → List ℕ → Type 0
Misses n = AllByRecursion (λ (m : ℕ). m ≢ n)

-- no number is one of the others
abbrev pub Apart : List ℕ → List ℕ → Type 0
Apart [] ns = Unit {0}
Apart (m ∷ ms) ns = Misses m ns × Apart ms ns

-- no number stands twice
abbrev pub Differ : List ℕ → Type 0
Differ [] = Unit {0}
Differ (n ∷ ns) = Misses n ns × Differ ns

-- each number is below a limit
abbrev pub Below : ℕ → List ℕ → Type 0
Below limit = AllByRecursion (λ (n : ℕ). n < limit)

-- the chain of the reference that begins at a block, empty where none does
abbrev pub chain_from : List ℕ → List ℕ → ℕ → List ℕ
chain_from next counts n = chain next n (get_or counts n 0)

-- what the chains have that begin at this block and the ones after it
abbrev pub chains_from : List (List ℕ) → List ℕ → ℕ → List ℕ → List (List (List ℕ))
chains_from blocks next n [] = []
chains_from blocks next n (count ∷ counts) = contents blocks (chain next n count) ∷ chains_from blocks next (n + 1) counts

-- the chains of the references and the free chain have no block in common or twice, and together have all of them
pub record IsWhole (next counts : List ℕ) (head free total : ℕ) : Type 0 where
  pub small : total < 2 ^ 32
  pub links : length next ≡ total
  pub counted : length counts ≡ total
  pub free_below : Below total (chain next head free)
  pub free_differ : Differ (chain next head free)
  pub below : (n : ℕ) → Below total (chain_from next counts n)
  pub differ : (n : ℕ) → Differ (chain_from next counts n)
  pub apart : (n m : ℕ) → n ≢ m → Apart (chain_from next counts n) (chain_from next counts m)
  pub free_apart : (n : ℕ) → Apart (chain_from next counts n) (chain next head free)
  pub all : free + sum counts ≡ total
