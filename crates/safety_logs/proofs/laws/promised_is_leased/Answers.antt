use Rattle.safety_logs.proofs.LeasedPromises as lemma
use Rattle.safety_logs.proofs.laws.promised_is_leased.Goals as goal

pub returns : goal.returns
returns c = lemma.promised_is_leased
