use Rattle.runs.proofs.PassRefusals as lemma
use Rattle.runs.proofs.laws.broken_passes_are_refused.Goals as goal

pub returns : goal.returns
returns c = lemma.refused
