use Rattle.std.proofs.Common.{ap, ◌∙◌}
use Rattle.cluster_crew.proofs.Members.{consumer_shown}
use Rattle.cluster_crew.proofs.member.Member.show.Goals as goal

pub returns-in-Consumer-clause-shown : goal.returns-in-Consumer-clause-shown
returns-in-Consumer-clause-shown g c =
    consumer_shown g.N.NodeModel g.D.Disk c.args.self.now _ c.steps.result.now c.in-Consumer.showing c.show.new.self c.in-Consumer.is
    (c.steps.ensures.steps ∙ ap (λ j. j.steps) c.journal.ensures) c.show.ensures
