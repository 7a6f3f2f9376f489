use Rattle.frame_sources.proofs.Carrying.{links_carry}
use Rattle.frame_sources.proofs.laws.links_carry_steps.Goals as goal

pub returns : goal.returns
returns c = links_carry
