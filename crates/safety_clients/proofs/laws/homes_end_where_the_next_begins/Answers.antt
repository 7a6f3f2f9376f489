use Rattle.safety_clients.proofs.Ends as lemma
use Rattle.safety_clients.proofs.laws.homes_end_where_the_next_begins.Goals as goal

pub returns : goal.returns
returns c = lemma.homes_end_where_the_next_begins
