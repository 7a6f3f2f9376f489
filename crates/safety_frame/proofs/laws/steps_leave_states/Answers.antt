use Rattle.safety_frame.proofs.StableItems as lemma
use Rattle.safety_frame.proofs.laws.steps_leave_states.Goals as goal

pub returns : goal.returns
returns c = lemma.steps_leave_states
