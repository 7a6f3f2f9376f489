-- What marks tell: a marked record stands at its position in the map that its node knew then, in the log of the position's owner.
use Rattle.std.specs.Prelude.{ℕ, ◌<◌, List, length, Contains, Some}
use Rattle.net_model.specs.Pasts.{Past}
use Rattle.runs.specs.Names.{Config, Entry, Record, Mark}
use Rattle.runs.specs.Names.marks
use Rattle.runs.specs.Known.{agreed_after}
use Rattle.safety_frame.specs.Gathered.{ToldMark, all_told}
use Rattle.safety_consumers.specs.Owned.{held_logs, IsOwned, MarkIsTrue}

-- by these entries the position has an owner, in whose log that counts the record stands
abbrev pub StandsAt : Config → Past → List Entry → ℕ → Record → Type 0
StandsAt cfg past known position rec = IsOwned (held_logs cfg past) (agreed_after cfg known) position (Some rec)

-- by these entries the position is covered
abbrev pub IsCovered : Config → List Entry → ℕ → Type 0
IsCovered cfg known position = position < length (agreed_after cfg known).covered

-- what is promised stands, as what a consumer applies does; what is confirmed stands at a covered position
abbrev pub MarkTells : Config → Past → List Entry → Mark → Type 0
MarkTells cfg past known (marks.Promise position rec) = StandsAt cfg past known position rec
MarkTells cfg past known mark = MarkIsTrue (held_logs cfg past) (agreed_after cfg known) mark

-- of each mark, by what its node knew as it showed it
abbrev pub MarksTell : Config → Past → Type 0
MarksTell cfg past = (told : ToldMark) → Contains (all_told cfg past) told → MarkTells cfg past told.known told.mark
