use Rattle.script_text.proofs.PlainPlans.{plan_text, plain_plan}
use Rattle.script_text.proofs.laws.each_plan_has_a_text.Goals as goal

pub returns : goal.returns
returns c p v seed = (plan_text p, plain_plan p v seed)
