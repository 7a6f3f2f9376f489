use Rattle.safety_consumers.proofs.Notices as lemma
use Rattle.safety_consumers.proofs.laws.undos_have_notices.Goals as goal

pub returns : goal.returns
returns c = lemma.undos_have_notices
