use Rattle.safety_logs.proofs.ConfirmedLogs as lemma
use Rattle.safety_logs.proofs.laws.covered_is_confirmed.Goals as goal

pub returns : goal.returns
returns c = lemma.covered_is_confirmed
