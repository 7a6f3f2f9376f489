-- What a consumer has: the records that it holds, how many it confirmed, and what the application made of them.
use Rattle.std.specs.Prelude.{ℕ, ◌+◌, ◌-◌, List, [], length, take}
use Rattle.app_law.specs.Folds.{fold_of}
use Rattle.spec_delivery.specs.Lanes.{LaneState}
use Rattle.spec_delivery.specs.Buffers.{fresh_buffer}
use Rattle.node_rules.specs.Names.{Record, AppKind}
use Rattle.node_rules.specs.Turns.{Turn, own_of}
use Rattle.consumer_node.specs.Apps.{Meaning}

-- the held records by shard; how many positions are confirmed; the application's state after their records; and the
-- records that are applied beyond them, in order of position
pub record ConsumerState (A : Type 0) : Type 0 where
  pub lanes : List LaneState
  pub confirmed : ℕ
  pub base : A
  pub pending : List Record

abbrev pub fresh_consumer : {A : Type 0} → Meaning A → AppKind → ConsumerState A
fresh_consumer app kind = record { lanes = fresh_buffer; confirmed = 0; base = app.fresh kind; pending = [] }

-- how many positions are applied
abbrev pub applied_of : {A : Type 0} → ConsumerState A → ℕ
applied_of s = s.confirmed + length s.pending

-- the application's state after all applied records
abbrev pub app_state : {A : Type 0} → Meaning A → ConsumerState A → A
app_state app s = fold_of app.next s.base s.pending

-- ---- parts of it

abbrev pub with_lanes : {A : Type 0} → List LaneState → ConsumerState A → ConsumerState A
with_lanes lanes s = record s { lanes = lanes }

abbrev pub with_pending : {A : Type 0} → List Record → ConsumerState A → ConsumerState A
with_pending pending s = record s { pending = pending }

-- the records that are applied from a position on are taken back
abbrev pub cut_off : {A : Type 0} → ℕ → ConsumerState A → ConsumerState A
cut_off first s = with_pending (take (first - s.confirmed) s.pending) s

-- how many positions are applied in a turn
abbrev pub applied : {A : Type 0} → Turn (ConsumerState A) → ℕ
applied t = applied_of (own_of t)
