use Rattle.std.proofs.Common.{sym, ◌∙◌}
use Rattle.node_actor.specs.Chunks.{chunks_of}
use Rattle.node_actor.specs.Cores.{past_at}
use Rattle.node_actor.specs.Steps.{table_at}
use Rattle.node_actor.proofs.Results.{map_ok}
use Rattle.node_actor.proofs.Turning.{leaves_after, progress, took_one, safe_step}
use Rattle.node_actor.proofs.node_core.NodeCore.take.Goals as goal

pub returns-clause-ok : goal.returns-clause-ok
returns-clause-ok g c =
    let before = c.args.self.now in
    let gives = c.in_ok-step_into.ensures in
    let table = table_at g.N.NodeModel before.cfg before.name in
    map_ok c.finish.result
    (λ (done : _). took_one g.N.NodeModel g.D.Disk c.args.event c.args.came_with c.in_ok-stamp.stamp before c.finish.new.self c.step_into.new.self
    c.step_into.new.out
    c.args.outs.now c.finish.new.outs c.requires.ready c.requires.takes c.in_ok-stamp.ensures.above gives.gives gives.valid.sends gives.ready
    c.finish.ensures.safely.links done.cfg done.name done.node done.plan done.journal done.sends
    (λ at. gives.leaves ∙ sym (leaves_after table c.args.event (progress g.N.NodeModel g.D.Disk before.cfg before.name
    (past_at before) before.node) c.requires.in_place))
    (λ at. done.stored (chunks_of table before.name (past_at before)) at.stored))
    c.finish.ensures.ok

pub returns-clause-safely : goal.returns-clause-safely
returns-clause-safely g c =
    safe_step g.N.NodeModel g.D.Disk c.args.event c.finish.result c.args.self.now c.finish.new.self c.step_into.new.self c.step_into.new.out
    c.args.outs.now c.finish.new.outs c.in_ok-step_into.ensures.gives c.finish.ensures.safely
