-- What holds of every consumer, whatever valid events it took.
use Rattle.std.specs.Prelude.{◌≡◌, ℕ, ◌+◌, ◌<◌, ◌≤◌, length, take, Option}
use Rattle.std.specs.List.{AllByRecursion, slice_get}
use Rattle.std.specs.List.Sorted.{IsStrictlySortedBy}
use Rattle.std.specs.Map.{keys_of}
use Rattle.std.specs.Option.{option_and_then}
use Rattle.std.specs.Ordering.{nat_cmp}
use Rattle.record_codec.specs.Records.{IsValidRecord}
use Rattle.cut_core.specs.Agreements.{Agreement, count_of}
use Rattle.cut_core.specs.Map.{mapped, gone_end}
use Rattle.spec_delivery.specs.Lanes.{LaneState, HoldsInReach}
use Rattle.spec_delivery.specs.Buffers.{lane_of}
use Rattle.node_rules.specs.Names.{Record}
use Rattle.node_rules.specs.Nodes.{Node, agreed_by}
use Rattle.node_rules.specs.Sound.{IsBase}
use Rattle.consumer_node.specs.States.{ConsumerState}
use Rattle.consumer_node.specs.Speculation.{held_of}

-- the records that are held of a shard are valid and in reach, and stand in the order of their locals
pub record IsLane (lane : LaneState) : Type 0 where
  pub reach : HoldsInReach lane
  pub order : IsStrictlySortedBy nat_cmp (keys_of lane.held)
  pub records : AllByRecursion (λ e. IsValidRecord e.1) lane.held

-- a shard's floor is the number of its positions among the confirmed ones
abbrev pub FloorsAreConfirmed : {A : Type 0} → Agreement → ConsumerState A → Type 0
FloorsAreConfirmed a s = (shard : ℕ) → shard < 6 → (lane_of s.lanes shard).floor ≡ count_of shard (take s.confirmed a.covered)

-- a shard that is gone ends at its end, and no other ends
abbrev pub EndsAreGone : {A : Type 0} → Agreement → ConsumerState A → Type 0
EndsAreGone a s = (shard : ℕ) → shard < 6 → (lane_of s.lanes shard).end ≡ gone_end a shard

-- the record that is held of a position's owner
abbrev pub held_for : {A : Type 0} → Agreement → ConsumerState A → ℕ → Option Record
held_for a s position = option_and_then (held_of s.lanes) (mapped a position)

-- each record that is applied beyond the confirmed ones is the one that is held of its position's owner
abbrev pub AppliedIsHeld : {A : Type 0} → Agreement → ConsumerState A → Type 0
AppliedIsHeld a s = (i : ℕ) → i < length s.pending → held_for a s (s.confirmed + i) ≡ slice_get s.pending i

-- what a consumer has, given what is agreed
pub record IsOwn {A : Type 0} (a : Agreement) (s : ConsumerState A) : Type 0 where
  pub shards : length s.lanes ≡ 6
  pub lanes : AllByRecursion IsLane s.lanes
  pub confirmed : s.confirmed ≤ length a.covered
  pub floors : FloorsAreConfirmed a s
  pub ends : EndsAreGone a s
  pub applied : AppliedIsHeld a s

pub record IsConsumer {A : Type 0} (n : Node (ConsumerState A)) : Type 0 where
  pub base : IsBase n.base
  pub own : IsOwn (agreed_by n.base) n.own
