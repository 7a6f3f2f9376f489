use Rattle.safety_clients.proofs.Submitting as lemma
use Rattle.safety_clients.proofs.laws.bodies_are_submitted.Goals as goal

pub returns : goal.returns
returns c = lemma.bodies_are_submitted
