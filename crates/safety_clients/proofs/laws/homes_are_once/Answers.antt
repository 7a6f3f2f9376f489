use Rattle.safety_clients.proofs.Homes as lemma
use Rattle.safety_clients.proofs.laws.homes_are_once.Goals as goal

pub returns : goal.returns
returns c = lemma.homes_are_once
