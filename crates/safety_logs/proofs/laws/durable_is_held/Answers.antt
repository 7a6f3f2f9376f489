use Rattle.safety_logs.proofs.DurableLogs as lemma
use Rattle.safety_logs.proofs.laws.durable_is_held.Goals as goal

pub returns : goal.returns
returns c = lemma.durable_is_held
