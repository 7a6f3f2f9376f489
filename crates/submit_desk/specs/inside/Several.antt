-- Passes of two and of four submitters, with numbers one after another.
use Rattle.std.specs.Prelude.{ℕ, ◌+◌}
use Rattle.atomic_table.specs.Seated.{TableId}
use Rattle.submit_desk.specs.Passes.{PassView, IsSubmitting, IsFresh}

abbrev pub TwoAreFresh : TableId → ℕ → PassView × PassView → Type 0
TwoAreFresh desk first two = IsFresh desk first two.0 × IsFresh desk (first + 1) two.1

abbrev pub FourAreFresh : TableId → ℕ → (PassView × PassView) × (PassView × PassView) → Type 0
FourAreFresh desk first four = TwoAreFresh desk first four.0 × TwoAreFresh desk (first + 2) four.1

abbrev pub TwoSubmit : TableId → PassView × PassView → Type 0
TwoSubmit desk two = IsSubmitting desk two.0 × IsSubmitting desk two.1

abbrev pub FourSubmit : TableId → (PassView × PassView) × (PassView × PassView) → Type 0
FourSubmit desk four = TwoSubmit desk four.0 × TwoSubmit desk four.1
