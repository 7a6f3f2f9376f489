use Rattle.safety_logs.proofs.Reports as lemma
use Rattle.safety_logs.proofs.laws.kept_reports_tell.Goals as goal

pub returns : goal.returns
returns c = lemma.kept_reports_tell
