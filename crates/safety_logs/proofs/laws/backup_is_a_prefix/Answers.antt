use Rattle.safety_logs.proofs.Backups as lemma
use Rattle.safety_logs.proofs.laws.backup_is_a_prefix.Goals as goal

pub returns : goal.returns
returns c = lemma.backup_is_a_prefix
