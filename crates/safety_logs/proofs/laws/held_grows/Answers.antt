use Rattle.safety_logs.proofs.Growing as lemma
use Rattle.safety_logs.proofs.laws.held_grows.Goals as goal

pub returns : goal.returns
returns c = lemma.held_grows
