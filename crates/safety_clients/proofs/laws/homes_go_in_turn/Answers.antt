use Rattle.safety_clients.proofs.Homes as lemma
use Rattle.safety_clients.proofs.laws.homes_go_in_turn.Goals as goal

pub returns : goal.returns
returns c = lemma.homes_go_in_turn
