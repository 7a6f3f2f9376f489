use Rattle.safety_frame.proofs.SoundStates as lemma
use Rattle.safety_frame.proofs.laws.states_are_sound.Goals as goal

pub returns : goal.returns
returns c = lemma.states_are_sound
