use Rattle.safety_marks.proofs.Acks as lemma
use Rattle.safety_marks.proofs.laws.acked_is_counted.Goals as goal

pub returns : goal.returns
returns c = lemma.acked_is_counted
