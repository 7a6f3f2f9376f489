use Rattle.safety_logs.proofs.LogLaw as lemma
use Rattle.safety_logs.proofs.laws.logs_hold.Goals as goal

pub returns : goal.returns
returns c = lemma.logs_hold
