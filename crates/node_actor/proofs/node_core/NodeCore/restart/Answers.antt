use Rattle.node_actor.proofs.Results.{map_ok, at_ok}
use Rattle.node_actor.proofs.Turning.{AreRead, restarted}
use Rattle.node_actor.proofs.node_core.NodeCore.restart.Goals as goal

pub returns-clause-ok : goal.returns-clause-ok
returns-clause-ok g c =
    let core = c.args.self.now in
    let loaded = c.read_vault.new.self in
    let items = c.in_ok-items.items in
    let reads : AreRead g.N.NodeModel g.D.Disk items core.store loaded.store =
    λ chunks kept. at_ok c.read_vault.result items _ c.in_ok-items.was (c.read_vault.ensures.ok chunks kept) in
    map_ok c.restart_by.result
    (λ (by : _). restarted g.N.NodeModel g.D.Disk core loaded c.restart_by.new.self items c.args.outs.now c.restart_by.new.outs c.read_vault.ensures.same
    reads by)
    c.restart_by.ensures.ok
