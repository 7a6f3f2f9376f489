use Rattle.safety_agreement.proofs.Acceptors as lemma
use Rattle.safety_agreement.proofs.laws.acceptor_is_items.Goals as goal

pub returns : goal.returns
returns c = lemma.acceptor_is_items
