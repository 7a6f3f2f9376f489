use Rattle.safety_clients.proofs.Records as lemma
use Rattle.safety_clients.proofs.laws.records_are_of_a_home.Goals as goal

pub returns : goal.returns
returns c = lemma.records_are_of_a_home
