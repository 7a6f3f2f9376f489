use Rattle.std.proofs.Common.{ap, sym, subst, ◌∙◌}
use Rattle.node_rules.specs.Names.events
use Rattle.node_rules.specs.Turns.{turn_of}
use Rattle.node_rules.proofs.Lists.{on_ok}
use Rattle.node_rules.proofs.Kept.{IsKept}
use Rattle.shard_node.specs.Promises.{promise_all}
use Rattle.shard_node.specs.Rules.{on_tick}
use Rattle.shard_node.proofs.Keeps.{replica_keeping}
use Rattle.shard_node.proofs.Lives.{kept_handle}
use Rattle.shard_node.proofs.steps.tick.Goals as goal

pub promise_all-requires : goal.promise_all-requires
promise_all-requires c =
    let n = c.args.replica.now in
    (subst (IsKept replica_keeping n) (sym (c.in_ok-on_tick.ensures ∙ ap on_tick (ap (turn_of n) c.requires.empty))) (kept_handle n events.Tick c.requires.sound tt)).is.own.durable

pub returns : goal.returns
returns c = on_ok c.promise_all.result _ _ _ (ap promise_all (c.in_ok-on_tick.ensures ∙ ap on_tick (ap (turn_of c.args.replica.now) c.requires.empty))) c.promise_all.ensures
