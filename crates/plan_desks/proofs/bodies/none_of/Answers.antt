use Rattle.std.proofs.Common.{rules}
use Rattle.plan_desks.proofs.Lines.{none_pushed}
use Rattle.plan_desks.proofs.bodies.none_of.Goals as goal

pub loop-submitter-preserved : goal.loop-submitter-preserved
loop-submitter-preserved c = (
  search rules,
  λ from.
      none_pushed (λ q. q.items) c.loop-submitter.all.items c.new.result c.push.new.self.items from c.new.ensures.items (search rules)
      (c.loop-submitter.invariant.1 from),
)
