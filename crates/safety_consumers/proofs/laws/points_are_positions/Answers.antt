use Rattle.safety_consumers.proofs.Points as lemma
use Rattle.safety_consumers.proofs.laws.points_are_positions.Goals as goal

pub returns : goal.returns
returns c = lemma.points_are_positions
