use Rattle.safety_logs.proofs.CoveredLogs as lemma
use Rattle.safety_logs.proofs.laws.covered_is_common.Goals as goal

pub returns : goal.returns
returns c = lemma.covered_is_common
