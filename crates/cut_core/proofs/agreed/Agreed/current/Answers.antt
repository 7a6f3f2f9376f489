use Rattle.cut_core.proofs.Reach.{IsSettled_view, end_reach}
use Rattle.cut_core.proofs.agreed.Agreed.current.Goals as goal

pub returns-clause-end : goal.returns-clause-end
returns-clause-end c =
    let is = IsSettled_view c.self.inside c.args.self.now c.self.view_is c.self.invariant in
    end_reach c.args.self.now is.sound is.few
