-- What a consumer holds, confirms and applies are the records of shards' logs that count, each at the local that owns its position.
use Rattle.std.specs.Prelude.{◌≡◌, ℕ, ◌<◌, ◌≤◌, List, length, slice_get, Option, Some, Contains}
use Rattle.std.specs.List.{AllByRecursion}
use Rattle.fix_ante.specs.declared.spots.Owner.{Owner}
use Rattle.cut_core.specs.Agreements.{Agreement}
use Rattle.cut_core.specs.Map.{mapped}
use Rattle.spec_delivery.specs.Lanes.{LaneState}
use Rattle.spec_delivery.specs.Buffers.{lane_of}
use Rattle.net_model.specs.Pasts.{Past}
use Rattle.runs.specs.Names.{NodeId, Config, Entry, Record, Mark}
use Rattle.runs.specs.Names.nodes
use Rattle.runs.specs.Names.marks
use Rattle.runs.specs.Kinds.{consumer_after}
use Rattle.runs.specs.Known.{agreed_after, agreed_at}
use Rattle.runs.specs.Marks.{confirmed_list, applied_log}
use Rattle.runs.specs.Consumers.{confirmed_count, applied_count}
use Rattle.safety_frame.specs.Gathered.{ToldMark, all_told}
use Rattle.safety_logs.specs.Counting.{held_log}

-- ---- what is held

-- each record that is held of a shard stands at its local in the shard's log
abbrev pub AreOfLogs : (ℕ → List Record) → List LaneState → Type 0
AreOfLogs logs lanes = (shard : ℕ) → AllByRecursion (λ (held : ℕ × Record). slice_get (logs shard) held.0 ≡ Some held.1) (lane_of lanes shard).held

abbrev pub held_logs : Config → Past → ℕ → List Record
held_logs cfg past shard = held_log cfg shard past

abbrev pub HeldIsTrue : Config → Past → Type 0
HeldIsTrue cfg past = (consumer : ℕ) → AreOfLogs (held_logs cfg past) (consumer_after cfg consumer past).own.lanes

-- ---- what is applied and confirmed

-- a position has an owner, and this stands at the owner's local in its shard's log
pub record IsOwned (logs : ℕ → List Record) (agreed : Agreement) (position : ℕ) (found : Option Record) : Type 0 where
  pub owner : Owner
  pub there : mapped agreed position ≡ Some owner
  pub stands : slice_get (logs owner.shard) owner.local ≡ found

-- in the map of what a consumer knows
abbrev pub IsOwnedAt : Config → ℕ → Past → ℕ → Option Record → Type 0
IsOwnedAt cfg consumer past = IsOwned (held_logs cfg past) (agreed_at cfg (nodes.Consumer consumer) past)

-- of each confirmed position
abbrev pub ConfirmedIsThePrefix : Config → Past → Type 0
ConfirmedIsThePrefix cfg past =
    (consumer position : ℕ) → position < confirmed_count consumer past
    → IsOwnedAt cfg consumer past position (slice_get (confirmed_list consumer past) position)

-- of each position that is applied and not confirmed
abbrev pub AppliedIsHeld : Config → Past → Type 0
AppliedIsHeld cfg past =
    (consumer position : ℕ) → confirmed_count consumer past ≤ position → position < applied_count consumer past
    → IsOwnedAt cfg consumer past position (slice_get (applied_log consumer past) position)

-- ---- marks, with what their node knew

-- the record of a covered position
pub record IsSettled (logs : ℕ → List Record) (agreed : Agreement) (position : ℕ) (rec : Record) : Type 0 where
  pub covered : position < length agreed.covered
  pub owned : IsOwned logs agreed position (Some rec)

-- what is applied is owned, and what is confirmed is settled
abbrev pub MarkIsTrue : (ℕ → List Record) → Agreement → Mark → Type 0
MarkIsTrue logs agreed (marks.Apply position rec) = IsOwned logs agreed position (Some rec)
MarkIsTrue logs agreed (marks.Confirm position rec) = IsSettled logs agreed position rec
MarkIsTrue logs agreed _ = Unit {0}

-- of a consumer's mark
abbrev pub ConsumersMarkTells : Config → Past → NodeId → List Entry → Mark → Type 0
ConsumersMarkTells cfg past (nodes.Consumer number) known mark = MarkIsTrue (held_logs cfg past) (agreed_after cfg known) mark
ConsumersMarkTells cfg past _ known mark = Unit {0}

abbrev pub ConsumersMarksTell : Config → Past → Type 0
ConsumersMarksTell cfg past = (x : ToldMark) → Contains (all_told cfg past) x → ConsumersMarkTells cfg past x.node x.known x.mark
