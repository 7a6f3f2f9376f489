use Rattle.std.proofs.Common.{subst}
use Rattle.std.specs.List.{All}
use Rattle.fix_ante.specs.Windows.{Window, IsSpot}
use Rattle.fix_ante.proofs.WindowLemmas.{IsWindow_spots}
use Rattle.fix_ante.proofs.window.Window.spots.Goals as goal

pub returns-clause-each : goal.returns-clause-each
returns-clause-each c = subst (λ (w : Window). All (IsSpot w.base) w.spots) c.self.view_is (IsWindow_spots _ c.self.invariant.valid)
