use Rattle.safety_clients.proofs.Ends as lemma
use Rattle.safety_clients.proofs.laws.later_homes_begin_later.Goals as goal

pub returns : goal.returns
returns c = lemma.later_homes_begin_later
