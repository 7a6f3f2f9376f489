-- A consumer's rules: Deliver, a learned entry, and Tick.
use Rattle.std.specs.Prelude.{ℕ, ◌-◌, Bool, nat_lt, if◌then◌else◌, List, take}
use Rattle.std.specs.List.{fold, range_with_len}
use Rattle.std.specs.Option.{option_map_or}
use Rattle.fix_ante.specs.declared.spots.Owner.{Owner}
use Rattle.cut_core.specs.declared.effects.Effect.{Effect}
use Rattle.cut_core.specs.declared.effects.Effect.TheVariants.{Removed}
use Rattle.cut_core.specs.declared.gone.Gone.{Gone}
use Rattle.cut_core.specs.Agreements.{Agreement}
use Rattle.cut_core.specs.Effects.{effect_of}
use Rattle.cut_core.specs.Map.{mapped}
use Rattle.spec_delivery.specs.Lanes.{LaneState, is_kept}
use Rattle.spec_delivery.specs.Buffers.{answer_to, with_record, with_end}
use Rattle.msg_wire.specs.Nodes.{replicas_of}
use Rattle.node_rules.specs.Names.{Record, Entry}
use Rattle.node_rules.specs.Names.marks
use Rattle.node_rules.specs.Names.whats
use Rattle.node_rules.specs.Turns.{Turn, own_of, agreed, put_own, send_all, show}
use Rattle.node_rules.specs.Rules.{tick}
use Rattle.consumer_node.specs.States.{ConsumerState, with_lanes, with_pending, applied}

-- ---- Deliver

-- Deliver: the record is held, where it is in reach and none is held there
abbrev pub hear_deliver : {A : Type 0} → ℕ → ℕ → Record → Turn (ConsumerState A) → Turn (ConsumerState A)
hear_deliver shard local rec t = put_own (with_lanes (with_record (own_of t).lanes shard local rec) (own_of t)) t

-- ---- a learned entry

-- the applied records from a position on are taken back
abbrev pub cut_to : {A : Type 0} → ℕ → Turn (ConsumerState A) → Turn (ConsumerState A)
cut_to first t = put_own (with_pending (take (first - (own_of t).confirmed) (own_of t).pending) (own_of t)) t

-- where it was applied
abbrev pub undo : {A : Type 0} → ℕ → Turn (ConsumerState A) → Turn (ConsumerState A)
undo first t = if nat_lt first (applied t) then show (marks.Undo first) (cut_to first t) else t

-- a removal is noticed, and what was applied from its first failed position on is undone
abbrev pub notice : {A : Type 0} → Effect → Turn (ConsumerState A) → Turn (ConsumerState A)
notice (Removed shard first) t = undo first (show (marks.Notice first) t)
notice _ t = t

-- a shard that is gone ends at its end
abbrev pub close : List LaneState → Gone → List LaneState
close lanes g = with_end lanes g.shard g.end

-- each shard that is gone
abbrev pub close_gone : {A : Type 0} → Agreement → ConsumerState A → ConsumerState A
close_gone a s = with_lanes (fold close s.lanes a.gone) s

abbrev pub close_all : {A : Type 0} → Turn (ConsumerState A) → Turn (ConsumerState A)
close_all t = put_own (close_gone (agreed t) (own_of t)) t

-- a learned entry
abbrev pub on_learned : {A : Type 0} → Agreement → Entry → Turn (ConsumerState A) → Turn (ConsumerState A)
on_learned before entry t = close_all (notice (effect_of before entry) t)

-- ---- Tick

-- a record of this owner would be held: it is in reach, and none is held
abbrev pub is_wanted : List LaneState → Owner → Bool
is_wanted lanes o = is_kept (answer_to lanes o.shard o.local)

-- both replicas are asked for a record that is wanted
abbrev pub fetch : {A : Type 0} → Owner → Turn (ConsumerState A) → Turn (ConsumerState A)
fetch o t = if is_wanted (own_of t).lanes o then send_all (replicas_of o.shard) (whats.Fetch o.local) t else t

-- a position that has an owner
abbrev pub fetch_at : {A : Type 0} → Turn (ConsumerState A) → ℕ → Turn (ConsumerState A)
fetch_at t position = option_map_or (λ o. fetch o t) (mapped (agreed t) position) t

-- the 8 positions from the applied ones on
abbrev pub fetch_some : {A : Type 0} → Turn (ConsumerState A) → Turn (ConsumerState A)
fetch_some t = fold fetch_at t (range_with_len (applied t) 8)

-- Tick
abbrev pub on_tick : {A : Type 0} → Turn (ConsumerState A) → Turn (ConsumerState A)
on_tick t = fetch_some (tick t)
