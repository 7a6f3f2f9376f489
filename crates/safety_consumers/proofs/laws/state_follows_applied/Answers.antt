use Rattle.safety_consumers.proofs.Notices as lemma
use Rattle.safety_consumers.proofs.laws.state_follows_applied.Goals as goal

pub returns : goal.returns
returns c = lemma.state_follows_applied
