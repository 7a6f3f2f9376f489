-- Every life of valid events: its node is a replica, its steps are valid, and its stored items give what a restart leaves; and the items
-- of any vault leave a replica.
use Rattle.std.proofs.Common.{◌≡◌, List, refl, sym, subst, arith, ◌+◌, ◌^◌, [], ◌∷◌, length, replicate}
use Rattle.std.specs.List.{AllByRecursion, fold}
use Rattle.msg_wire.specs.Valid.{IsValidConfig, IsNodeOf, IsValidEvent, IsValidItem}
use Rattle.msg_wire.specs.Steps.{IsValidStep}
use Rattle.node_rules.specs.Names.{NodeId, Config, Event, Item, Record}
use Rattle.node_rules.specs.Nodes.{Node, has_slot}
use Rattle.node_rules.specs.Turns.{Turn, started, step_of}
use Rattle.node_rules.specs.Lives.{life_of}
use Rattle.node_rules.proofs.Limits.{base_fresh, base_knowing}
use Rattle.node_rules.proofs.Kept.{IsKept, IsLife, lives, kept_valid, keeping}
use Rattle.shard_node.specs.States.{ReplicaState}
use Rattle.shard_node.specs.Steps.{handle, replica_step}
use Rattle.shard_node.specs.Restart.{fresh_node, fit, fit_records}
use Rattle.shard_node.specs.Sound.{IsReplica}
use Rattle.shard_node.specs.Laws.{RestartIsTheItems, StepsAreValid}
use Rattle.shard_node.proofs.Places.{replica_places}
use Rattle.shard_node.proofs.Walk.{replica_handled, replica_walk}
use Rattle.shard_node.proofs.Keeps.{replica_keeping, replica_keeps, replica_on, replica_grown}
use Rattle.std.specs.Prelude.{nat_le}
use Rattle.std.proofs.lemmas.Bool.{leb-true}
use Rattle.record_codec.specs.Records.{IsValidRecord}
use Rattle.node_rules.specs.Names.records
use Rattle.node_rules.specs.Names.items
use Rattle.node_rules.proofs.Lists.{on_test, all_replicate}

-- what an event does by itself keeps, and so does each step
pub kept_handle : (n : Node ReplicaState) (event : Event) → IsReplica n → IsValidEvent event → IsKept replica_keeping n (handle event (started n))
kept_handle n event is valid = replica_handled (IsKept replica_keeping n) n event (keeping replica_places replica_keeping n event (replica_keeps n event valid) valid is)

pub kept_step : (n : Node ReplicaState) (event : Event) → IsReplica n → IsValidEvent event → IsKept replica_keeping n (replica_step n event)
kept_step n event is valid = replica_walk (IsKept replica_keeping n) n event (keeping replica_places replica_keeping n event (replica_keeps n event valid) valid is)

-- what it gives is valid
pub step_valid : (n : Node ReplicaState) (t : Turn ReplicaState) (event : Event) → IsReplica n → IsValidEvent event → t ≡ replica_step n event
    → IsReplica t.state × IsValidStep (step_of t)
step_valid n t event is valid e = let kept = subst (IsKept replica_keeping n) (sym e) (kept_step n event is valid) in (kept.is, kept_valid replica_keeping n t kept)

pub fresh_sound : (cfg : Config) (me : NodeId) → IsValidConfig cfg → IsNodeOf cfg me → IsReplica (fresh_node cfg me)
fresh_sound cfg me valid here = record {
  base = base_fresh cfg me valid here;
  own = record { records = tt; room = omega arith; durable = omega arith };
}

life : (cfg : Config) (me : NodeId) (events : List Event) → IsValidConfig cfg → IsNodeOf cfg me → AllByRecursion IsValidEvent events
    → IsLife replica_keeping (fresh_node cfg me) (life_of replica_step (fresh_node cfg me) events)
life cfg me events valid here each = lives replica_keeping replica_step (fresh_node cfg me) events kept_step (fresh_sound cfg me valid here) refl each

pub restart_is_the_items : RestartIsTheItems
restart_is_the_items cfg me events valid here each = sym (life cfg me events valid here each).leads

pub steps_are_valid : StepsAreValid
steps_are_valid cfg me events event valid here each next = kept_valid replica_keeping _ _ (kept_step (life_of replica_step (fresh_node cfg me) events).node event (life cfg me events valid here each).is next)

-- ---- the items of a vault

records_sound : (n : Node ReplicaState) (recs : List Record) → AllByRecursion IsValidRecord recs → IsReplica n → IsReplica (fit_records recs n)
records_sound n recs each is = on_test IsReplica (nat_le (length n.own.log + length recs) (2 ^ 48)) _ n (λ room. replica_grown recs n each (leb-true _ _ room) is) (λ _. is)

fit_sound : (n : Node ReplicaState) (item : Item) → IsValidItem item → IsReplica n → IsReplica (fit n item)
fit_sound n (items.Known entry) valid is = on_test IsReplica (has_slot n.base) _ n (λ slot. replica_on _ n (base_knowing entry n.base valid slot is.base) is) (λ _. is)
fit_sound n (items.Taken rec) valid is = records_sound n (rec ∷ []) (valid, tt) is
fit_sound n (items.Noops count) valid is = records_sound n (replicate count records.Noop) (all_replicate IsValidRecord count records.Noop tt) is
fit_sound n _ valid is = is

pub fits_sound : (n : Node ReplicaState) (stored : List Item) → AllByRecursion IsValidItem stored → IsReplica n → IsReplica (fold fit n stored)
fits_sound n [] valid is = is
fits_sound n (item ∷ stored) valid is = fits_sound (fit n item) stored valid.1 (fit_sound n item valid.0 is)
