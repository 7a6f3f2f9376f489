use Rattle.std.proofs.Common.{refl, le_refl}
use Rattle.view_cell.proofs.Ends.{turns}
use Rattle.view_cell.proofs.cell.glance.Goals as goal

pub enter_as-requires : goal.enter_as-requires
enter_as-requires c x = turns _ _ x x refl (le_refl _)
