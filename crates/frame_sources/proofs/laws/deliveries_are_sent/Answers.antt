use Rattle.frame_sources.proofs.Taking.{received_means_sent}
use Rattle.frame_sources.proofs.laws.deliveries_are_sent.Goals as goal

pub returns : goal.returns
returns c = received_means_sent
