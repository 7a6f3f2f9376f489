-- Of a client's covered records the numbers compare as the positions do, and along the positions they are 0, 1, 2 and so on.
use Rattle.std.specs.Prelude.{◌≡◌, ℕ, List, slice_get, Some}
use Rattle.std.specs.Ordering.{nat_cmp}
use Rattle.fix_ante.specs.declared.spots.Owner.{Owner}
use Rattle.cut_core.specs.Map.{located}
use Rattle.net_model.specs.Pasts.{Past}
use Rattle.runs.specs.Names.{Config, Record}
use Rattle.runs.specs.Names.records
use Rattle.runs.specs.Known.{agreed_after}
use Rattle.runs.specs.Marks.{IsCounted, numbers_of_client}
use Rattle.safety_frame.specs.AgreedList.{agreed_list}
use Rattle.safety_logs.specs.Counting.{held_log}

-- the position is covered by the agreed list, and its owner's local has this record in the log that counts
pub record StandsAt (cfg : Config) (past : Past) (position : ℕ) (rec : Record) : Type 0 where
  pub owner : Owner
  pub covered : located (agreed_after cfg (agreed_list cfg past)) position ≡ Some owner
  pub held : slice_get (held_log cfg owner.shard past) owner.local ≡ Some rec

-- records of the first covered positions, in order
abbrev pub AreCovered : Config → Past → List Record → Type 0
AreCovered cfg past recs = (position : ℕ) (rec : Record) → slice_get recs position ≡ Some rec → StandsAt cfg past position rec

pub record NumbersAreInOrder (cfg : Config) (past : Past) : Type 0 where
  pub in_order : (client position number : ℕ) (body : List ℕ) (place other : ℕ) (text : List ℕ) → StandsAt cfg past position (records.Data client number body)
      → StandsAt cfg past place (records.Data client other text)
      → nat_cmp number other ≡ nat_cmp position place
  pub whole : (client : ℕ) (recs : List Record) → AreCovered cfg past recs → IsCounted (numbers_of_client client recs)
