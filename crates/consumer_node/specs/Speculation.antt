-- The end of a consumer's step: records are applied as far as they are held in order, and up to three are confirmed.
use Rattle.std.specs.Prelude.{ℕ, ◌+◌, ◌-◌, ◌==◌, min, if◌then◌else◌, List, [], ◌∷◌, ◌++◌, map, length, take, drop, Option}
use Rattle.std.specs.List.{fold}
use Rattle.std.specs.Option.{option_map_or, some_prefix}
use Rattle.fix_ante.specs.declared.spots.Owner.{Owner}
use Rattle.cut_core.specs.Map.{map_of, located}
use Rattle.spec_delivery.specs.Lanes.{LaneState}
use Rattle.spec_delivery.specs.Buffers.{record_at, with_floor}
use Rattle.node_rules.specs.Names.{Record}
use Rattle.node_rules.specs.Names.items
use Rattle.node_rules.specs.Names.marks
use Rattle.node_rules.specs.Turns.{Turn, own_of, agreed, put_own, store, show}
use Rattle.consumer_node.specs.Apps.{Meaning}
use Rattle.consumer_node.specs.States.{ConsumerState, with_pending, applied}

-- ---- applying

-- the record that is held of an owner
abbrev pub held_of : List LaneState → Owner → Option Record
held_of lanes o = record_at lanes o.shard o.local

-- the records of the positions from the applied ones on, up to the first that isn't held
abbrev pub to_apply : {A : Type 0} → Turn (ConsumerState A) → List Record
to_apply t = some_prefix (map (held_of (own_of t).lanes) (drop (applied t) (map_of (agreed t))))

-- one more record is applied
abbrev pub apply : {A : Type 0} → Turn (ConsumerState A) → Record → Turn (ConsumerState A)
apply t rec = put_own (with_pending ((own_of t).pending ++ rec ∷ []) (own_of t)) (show (marks.Apply (applied t) rec) t)

abbrev pub apply_all : {A : Type 0} → Turn (ConsumerState A) → Turn (ConsumerState A)
apply_all t = fold apply t (to_apply t)

-- ---- confirming

-- the first three at most of the applied records that are covered and not yet confirmed
abbrev pub to_confirm : {A : Type 0} → Turn (ConsumerState A) → List Record
to_confirm t = take (min 3 (length (agreed t).covered - (own_of t).confirmed)) (own_of t).pending

-- one more position is confirmed: its shard's floor rises, and its record counts to the confirmed ones
abbrev pub with_confirmed : {A : Type 0} → Meaning A → Record → Owner → ConsumerState A → ConsumerState A
with_confirmed app rec o s = record {
  lanes = with_floor s.lanes o.shard;
  confirmed = s.confirmed + 1;
  base = app.next s.base rec;
  pending = drop 1 s.pending;
}

-- output goes out where there is some
abbrev pub show_output : {A : Type 0} → List ℕ → Turn (ConsumerState A) → Turn (ConsumerState A)
show_output output t = if length output == 0 then t else show (marks.Out output) t

-- a confirmed record is stored with its output, and shown
abbrev pub confirm_at : {A : Type 0} → Meaning A → Record → Owner → Turn (ConsumerState A) → Turn (ConsumerState A)
confirm_at app rec o t =
    put_own (with_confirmed app rec o (own_of t))
    (show_output (app.output (own_of t).base rec)
    (show (marks.Confirm (own_of t).confirmed rec) (store (items.Confirmed rec (app.output (own_of t).base rec)) t)))

-- the next position, which is covered
abbrev pub confirm : {A : Type 0} → Meaning A → Turn (ConsumerState A) → Record → Turn (ConsumerState A)
confirm app t rec = option_map_or (λ o. confirm_at app rec o t) (located (agreed t) (own_of t).confirmed) t

abbrev pub confirm_some : {A : Type 0} → Meaning A → Turn (ConsumerState A) → Turn (ConsumerState A)
confirm_some app t = fold (confirm app) t (to_confirm t)

-- the end of a step
abbrev pub finish : {A : Type 0} → Meaning A → Turn (ConsumerState A) → Turn (ConsumerState A)
finish app t = confirm_some app (apply_all t)
