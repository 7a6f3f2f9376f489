use Rattle.std.proofs.Common.{◌≡◌, ℕ, ◌<◌, length, slice_get}
use Rattle.majority.specs.Journals.{value_told}
use Rattle.majority.proofs.journal.told_values.Given as goal

abbrev pub invariant-loop-slot : goal.invariant-loop-slot
invariant-loop-slot g l =
    (length l.values ≡ l.slot) × ((k : ℕ) → k < l.slot → value_told k l.journals ≡ slice_get l.values k)
