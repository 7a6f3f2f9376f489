use Rattle.script_text.proofs.PlanTaken.{plan_found, plan_only}
use Rattle.script_text.proofs.plan.read_plan.Goals as goal

pub returns-clause-found : goal.returns-clause-found
returns-clause-found c = plan_found c.args.text.now c.whole_plan.result c.whole_plan.ensures

pub returns-clause-only : goal.returns-clause-only
returns-clause-only c = plan_only c.args.text.now c.whole_plan.result c.whole_plan.ensures
