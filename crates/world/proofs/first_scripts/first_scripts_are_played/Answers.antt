use Rattle.std.proofs.Common.{refl}
use Rattle.client_node.specs.States.{reach}
use Rattle.world.proofs.first_scripts.first_scripts_are_played.Goals as goal

pub returns : goal.returns
unfolding reach
returns c = record {
  are_made = refl;
  next_is_refused = refl;
  drain_makes = refl;
  too_long = refl;
  far_too_long = refl;
  lost_too_early = refl;
}
