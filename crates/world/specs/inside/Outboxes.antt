-- The messages of a history by number: of each whether it was delivered or is to be passed over.
use Rattle.std.specs.Prelude.{◌≡◌, ℕ, ◌<◌, Bool, true, List, Some}
use Rattle.std.specs.List.{slice_get}

-- all below a number are settled
abbrev pub AreSettledBelow : ℕ → List Bool → Type 0
AreSettledBelow next settled = (number : ℕ) → number < next → slice_get settled number ≡ Some true
