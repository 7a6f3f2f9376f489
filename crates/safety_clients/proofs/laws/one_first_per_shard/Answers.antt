use Rattle.safety_clients.proofs.Telling as lemma
use Rattle.safety_clients.proofs.laws.one_first_per_shard.Goals as goal

pub returns : goal.returns
returns c = lemma.one_first_per_shard
