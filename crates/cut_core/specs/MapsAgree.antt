-- The laws of more entries: maps agree below the removals, and what is covered stays.
use Rattle.std.specs.Prelude.{ℕ, ◌<◌, ◌≤◌, ◌≡◌, ◌+◌, List, [], ◌∷◌, ◌++◌, length}
use Rattle.std.specs.List.{AllByRecursion}
use Rattle.quota_table.specs.declared.entry.Entry.{Entry}
use Rattle.quota_table.specs.declared.rows.Row.{Row}
use Rattle.quota_table.specs.Rows.{IsTable}
use Rattle.fix_ante.specs.Windows.{Window, first_of}
use Rattle.cut_core.specs.declared.effects.Effect.{Effect}
use Rattle.cut_core.specs.declared.effects.Effect.TheVariants.{Still, Covered, Opened, Granted, Removed, Void}
use Rattle.cut_core.specs.Agreements.{Agreement, agreement_from}
use Rattle.cut_core.specs.Fold.{applied, applied_all, fold_of, HasValidTable}
use Rattle.cut_core.specs.Effects.{effect_of}
use Rattle.cut_core.specs.Map.{map_of, mapped, located}

-- a position is below the first that an effect moves
abbrev pub IsBelowFirst : Effect → ℕ → Type 0
IsBelowFirst Still position = Unit {0}
IsBelowFirst (Covered rounds) position = Unit {0}
IsBelowFirst (Opened window) position = Unit {0}
IsBelowFirst (Granted window) position = Unit {0}
IsBelowFirst (Removed shard first) position = position < first
IsBelowFirst (Void reason) position = Unit {0}

-- a position is below the first position of every removal among entries that follow
abbrev pub IsBelowFirsts : Agreement → List Entry → ℕ → Type 0
IsBelowFirsts a [] position = Unit {0}
IsBelowFirsts a (entry ∷ entries) position = IsBelowFirst (effect_of a entry) position × IsBelowFirsts (applied a entry) entries position

-- after more entries the map agrees at each position that it had, below the first of every removal between
abbrev pub MapsAgree : Type 0
MapsAgree =
    (rounds : ℕ) (rows : List Row) (entries more : List Entry) (position : ℕ) →
    1 ≤ rounds → rounds ≤ 1024 → IsTable rows →
    length entries + length more ≤ 1000000 → AllByRecursion HasValidTable entries → AllByRecursion HasValidTable more →
    (let before : Agreement = fold_of (first_of rounds rows) entries in
    position < length (map_of before) → IsBelowFirsts before more position →
    (position < length (map_of (applied_all before more))) × (mapped (applied_all before more) position ≡ mapped before position))

-- after more entries a covered position is covered still, by the same owner
abbrev pub CoveredStays : Type 0
CoveredStays =
    (first : Agreement) (more : List Entry) (position : ℕ) →
    position < length first.covered →
    (position < length (applied_all first more).covered) × (located (applied_all first more) position ≡ located first position)

-- the state after a list of entries is made entry by entry, from the first window on
pub record FoldsByEntry (first : Window) : Type 0 where
  pub none : fold_of first [] ≡ agreement_from first
  pub more : (entries : List Entry) (entry : Entry) → fold_of first (entries ++ entry ∷ []) ≡ applied (fold_of first entries) entry
