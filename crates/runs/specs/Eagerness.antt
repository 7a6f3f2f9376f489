-- Speculation happens: what is handed in order is applied, and what is durable is promised.
use Rattle.std.specs.Prelude.{◌≡◌, ◌⊎◌, ℕ, ◌+◌, ◌<◌, ◌≤◌, IsFalse, ◌∷◌, length, take, Contains, Some}
use Rattle.fix_ante.specs.declared.spots.Owner.{Owner}
use Rattle.cut_core.specs.Agreements.{count_of}
use Rattle.cut_core.specs.Map.{mapped, leased, covered_locals}
use Rattle.net_model.specs.Pasts.{Past, Throughout, AfterEach, SinceRestart, is_restart_of, at_restart_of}
use Rattle.runs.specs.Names.{NodeId, Side, Config, Record, HistoryEntry}
use Rattle.runs.specs.Names.nodes
use Rattle.runs.specs.Names.sides
use Rattle.runs.specs.Names.whats
use Rattle.runs.specs.Names.events
use Rattle.runs.specs.Names.marks
use Rattle.runs.specs.Kinds.{replica_after}
use Rattle.runs.specs.Known.{agreed_at}
use Rattle.runs.specs.Marks.{confirmed_positions, confirmed_list, applied_log}

-- the greatest number of which it holds
pub record IsGreatest (P : ℕ → Type 0) (n : ℕ) : Type 0 where
  pub holds : P n
  pub most : (m : ℕ) → P m → m ≤ n

-- ---- consumers

-- how many locals of a shard a consumer has confirmed
abbrev pub floor_at : Config → ℕ → ℕ → Past → ℕ
floor_at cfg consumer shard past =
    count_of shard (take (length (confirmed_list consumer past)) (agreed_at cfg (nodes.Consumer consumer) past).covered)

-- an entry hands a consumer the record of an owner, less than 640 past the floor of its shard
pub record Hands (cfg : Config) (consumer : ℕ) (owner : Owner) (past : Past) (e : HistoryEntry) : Type 0 where
  pub here : e.node ≡ nodes.Consumer consumer
  pub handed : (side : Side) × (rec : Record) × (e.event ≡ events.Deliver (record { from = nodes.Shard owner.shard side; to = nodes.Consumer consumer; what = whats.Deliver owner.local rec }))
  pub in_reach : owner.local < floor_at cfg consumer owner.shard past + 640

-- a position has an owner in the consumer's known windows whose record it was handed since its last restart
abbrev pub IsHanded : Config → ℕ → Past → ℕ → Type 0
IsHanded cfg consumer past position =
    (owner : Owner) × (mapped (agreed_at cfg (nodes.Consumer consumer) past) position ≡ Some owner) × SinceRestart (nodes.Consumer consumer) (Hands cfg consumer owner) past

-- each position below is confirmed by the consumer, or handed to it
abbrev pub IsReached : Config → ℕ → Past → ℕ → Type 0
IsReached cfg consumer past end =
    (position : ℕ) → position < end → Contains (confirmed_positions consumer past) position ⊎ IsHanded cfg consumer past position

-- a consumer has applied as far as it can
abbrev pub AppliesAll : Config → ℕ → Past → Type 0
AppliesAll cfg consumer past = IsGreatest (IsReached cfg consumer past) (length (applied_log consumer past))

-- ---- primaries

-- an entry of the node promises a record at the position
abbrev pub Promises : NodeId → ℕ → Past → HistoryEntry → Type 0
Promises node position past e = (e.node ≡ node) × (rec : Record) × Contains e.marks (marks.Promise position rec)

-- the shard's local was covered in what the primary knew at its last restart, or at its start
abbrev pub WasCovered : Config → ℕ → ℕ → Past → Type 0
WasCovered cfg shard local past =
    local < covered_locals (agreed_at cfg (nodes.Shard shard sides.Primary) (at_restart_of (nodes.Shard shard sides.Primary) past)) shard

-- each durable local of a shard that is leased a position was covered then, or is promised there since then
abbrev pub PromisesAll : Config → ℕ → Past → Type 0
PromisesAll cfg shard past =
    (local position : ℕ) → local < (replica_after cfg shard sides.Primary past).own.durable →
    leased (agreed_at cfg (nodes.Shard shard sides.Primary) past) shard local ≡ Some position →
    WasCovered cfg shard local past ⊎ SinceRestart (nodes.Shard shard sides.Primary) (Promises (nodes.Shard shard sides.Primary) position) past

-- after an entry that is no restart of the primary
abbrev pub PromisesAllAfter : Config → ℕ → Past → HistoryEntry → Type 0
PromisesAllAfter cfg shard past e = IsFalse (is_restart_of (nodes.Shard shard sides.Primary) e) → PromisesAll cfg shard (e ∷ past)

pub record IsEager (cfg : Config) (past : Past) : Type 0 where
  pub consumers : (number : ℕ) → AfterEach (AppliesAll cfg number) past
  pub primaries : (shard : ℕ) → Throughout (PromisesAllAfter cfg shard) past
