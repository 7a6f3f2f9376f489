use Rattle.runs.proofs.Unnoticed as lemma
use Rattle.runs.proofs.laws.unnoticed_follows.Goals as goal

pub returns : goal.returns
returns c = lemma.unnoticed_follows
