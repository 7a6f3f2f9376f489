use Rattle.script_text.proofs.GeneratedTexts.{generated_spelled, generated_short}
use Rattle.script_text.proofs.laws.generated_plans_are_read.Goals as goal

pub returns-clause-spelled : goal.returns-clause-spelled
returns-clause-spelled c = generated_spelled

pub returns-clause-short : goal.returns-clause-short
returns-clause-short c = generated_short
