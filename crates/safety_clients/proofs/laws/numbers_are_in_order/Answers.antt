use Rattle.safety_clients.proofs.Numbers as lemma
use Rattle.safety_clients.proofs.laws.numbers_are_in_order.Goals as goal

pub returns : goal.returns
returns c = lemma.numbers_are_in_order
