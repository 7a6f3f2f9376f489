use Rattle.std.proofs.Common.{ap, ◌∙◌}
use Rattle.cluster_run.proofs.Draining.{ended_by, seated_can_drain}
use Rattle.cluster_run.specs.Running.{cause_of}
use Rattle.cluster_run.proofs.closing.close.Goals as goal

pub drain-drained-requires : goal.drain-drained-requires
drain-drained-requires g c =
    let (cfg, seats, are, seated) = c.requires in seated_can_drain g.N.NodeModel g.D.Disk cfg seats c.args.actors.now are seated

pub settle_all-requires : goal.settle_all-requires
settle_all-requires g c =
    let (cfg, seats, are, seated) = c.requires in
    c.drain-drained.ensures.drains.can (seated_can_drain g.N.NodeModel g.D.Disk cfg seats c.args.actors.now are seated)

pub returns-clause-seated : goal.returns-clause-seated
returns-clause-seated g c = λ seats seated. c.settle_all.ensures.drains.seated seats (c.drain-drained.ensures.drains.seated seats seated)

pub returns-clause-ended : goal.returns-clause-ended
returns-clause-ended g c = ended_by c.settle_all.new.actors c.drain-drained.result.early c.cause_of.result
    (c.cause_of.ensures ∙ ap (λ stop. cause_of stop c.drain-drained.result.early) c.first_stop.ensures)
