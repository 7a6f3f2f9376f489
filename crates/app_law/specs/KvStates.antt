-- The store's state: a map from keys to values.
use Rattle.std.specs.Prelude.{◌≡◌, ℕ, List, [], ◌∷◌, None}
use Rattle.std.specs.Ordering.{nat_cmp}
use Rattle.std.specs.Cmp.Lexicographic.{slice_cmp}
use Rattle.std.specs.FinMap as entries

-- a value for each of some keys, both bytes
abbrev pub KvState : Type 0
KvState = entries.FinMap (slice_cmp nat_cmp) (List ℕ)

-- no key stands in two entries
abbrev pub IsKeyed : List (List ℕ × List ℕ) → Type 0
IsKeyed [] = Unit {0}
IsKeyed (e ∷ es) = (entries.find (slice_cmp nat_cmp) e.0 es ≡ None) × IsKeyed es
