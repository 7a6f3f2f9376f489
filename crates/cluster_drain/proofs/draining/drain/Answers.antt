use Rattle.std.proofs.Common.{ap, sym, ◌∙◌}
use Rattle.std.proofs.lemmas.Option.{none-some}
use Rattle.cluster_drain.specs.inside.Runs.{early_of}
use Rattle.cluster_drain.proofs.Running.{ended_ticks}
use Rattle.cluster_drain.proofs.draining.drain.Goals.{in-Ok, in-Err}
use Rattle.cluster_drain.proofs.draining.drain.Goals as goal

pub returns-clause-ticks : goal.returns-clause-ticks
returns-clause-ticks g c = λ is.
    elim c.match-drain_left.branch [
      | in-Ok w ↦ ended_ticks g.N.NodeModel g.D.Disk c.args.settle c.drain_left.result _ _ c.args.actors.now c.drain_left.new.actors c.drain_left.ensures
          (ap early_of w.in-Ok.is)
      | in-Err w ↦ absurd (none-some _ (sym is ∙ w.early-is))
    ]
