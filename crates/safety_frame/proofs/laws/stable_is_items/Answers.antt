use Rattle.safety_frame.proofs.StableItems as lemma
use Rattle.safety_frame.proofs.laws.stable_is_items.Goals as goal

pub returns : goal.returns
returns c = lemma.stable_is_items
