use Rattle.std.proofs.Common.{ap, ◌∙◌}
use Rattle.net_model.specs.Names.events
use Rattle.node_actor.specs.Chunks.{chunks_of}
use Rattle.node_actor.specs.Cores.{past_at}
use Rattle.node_actor.specs.inside.Finishing.{with_store}
use Rattle.node_actor.specs.Steps.{table_at}
use Rattle.node_actor.proofs.Results.{map_ok}
use Rattle.node_actor.proofs.Turning.{took_one, safe_step}
use Rattle.node_actor.proofs.node_core.NodeCore.restart_by.Goals as goal

pub returns-clause-ok : goal.returns-clause-ok
returns-clause-ok g c =
    let before = c.args.self.now in
    let made = c.in_ok-restarted.ensures in
    let table = table_at g.N.NodeModel before.cfg before.name in
    let ready = c.requires.ready in
    map_ok c.finish.result
    (λ (done : _). λ store kept.
    took_one g.N.NodeModel g.D.Disk events.Restart 0 c.in_ok-stamp.stamp
    (with_store before store) c.finish.new.self c.in_ok-restarted.restarted c.step_into.new.out
    c.args.outs.now c.finish.new.outs (record { valid = ready.valid; here = ready.here; own = ready.own; unspent = ready.unspent })
    (record { valid = tt; taken_there = tt; addressed = tt }) c.in_ok-stamp.ensures.above
    c.in_ok-step_into.ensures.gives c.in_ok-step_into.ensures.valid.sends made.ready
    c.finish.ensures.safely.links done.cfg done.name done.node done.plan done.journal done.sends
    (λ at. made.node ∙ ap (λ items. g.N.NodeModel.restarted before.cfg before.name items) (kept at).0)
    (λ at. done.stored (chunks_of table before.name (past_at before)) (kept at).1))
    c.finish.ensures.ok

pub returns-clause-safely : goal.returns-clause-safely
returns-clause-safely g c =
    safe_step g.N.NodeModel g.D.Disk events.Restart c.finish.result c.args.self.now c.finish.new.self c.in_ok-restarted.restarted c.step_into.new.out
    c.args.outs.now c.finish.new.outs c.in_ok-step_into.ensures.gives c.finish.ensures.safely
