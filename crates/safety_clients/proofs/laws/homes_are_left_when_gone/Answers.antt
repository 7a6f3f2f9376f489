use Rattle.safety_clients.proofs.Homes as lemma
use Rattle.safety_clients.proofs.laws.homes_are_left_when_gone.Goals as goal

pub returns : goal.returns
returns c = lemma.homes_are_left_when_gone
