use Rattle.std.proofs.Common.{rules, ◌∙◌}
use Rattle.plan_desks.proofs.Lines.{lines_next}
use Rattle.plan_desks.proofs.bodies.bodies_of.Goals as goal

pub loop-line-preserved : goal.loop-line-preserved
loop-line-preserved c = (
  c.in_ok-add.ensures.count ∙ c.loop-line.invariant.0,
  lines_next c.args.lines.now c.loop-line.line-index _ _ _ (search rules) c.line-item.is c.loop-line.invariant.1 c.in_ok-add.ensures.bodies,
)
