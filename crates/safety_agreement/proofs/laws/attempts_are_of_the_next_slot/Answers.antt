use Rattle.safety_agreement.proofs.NextSlots as lemma
use Rattle.safety_agreement.proofs.laws.attempts_are_of_the_next_slot.Goals as goal

pub returns : goal.returns
returns c = lemma.attempts_are_of_the_next_slot
