-- What is so of every reader.
use Rattle.std.specs.Prelude.{◌≡◌, ℕ, ◌≤◌, List, [], Option, None, Some}
use Rattle.std.specs.List.{All, Contains}
use Rattle.view_cell.specs.declared.look.Look.{Look}
use Rattle.view_cell.specs.Looks.{last_number}
use Rattle.cluster_users.specs.declared.notes.Notes.{Notes}
use Rattle.cluster_users.specs.Noting.{RiseStrictly}
use Rattle.cluster_users.specs.Reading.{Reading}

-- no look was before, and none is kept; or the numbers of those that are kept are up to that of the look before, and that is up to a number
abbrev pub IsUpToBefore : Option ℕ → List Look → ℕ → Type 0
IsUpToBefore None kept number = kept ≡ []
IsUpToBefore (Some before) kept number = (last_number 0 kept ≤ before) × (before ≤ number)

abbrev pub IsUpTo : Notes → ℕ → Type 0
IsUpTo notes number = IsUpToBefore notes.before notes.kept number

-- what is so of every reader: the numbers of the looks that it keeps rise strictly, each look stands in the beginning of the published
-- looks that its pass has seen, and none has a number above that of the look before
pub record IsReading (r : Reading) : Type 0 where
  pub rise : RiseStrictly r.notes.kept
  pub stand : All (Contains r.pass.seen) r.notes.kept
  pub up_to : IsUpTo r.notes r.pass.last.ops
