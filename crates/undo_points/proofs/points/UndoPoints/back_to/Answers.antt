use Rattle.std.proofs.Common.{ap, ◌∙◌}
use Rattle.app_law.specs.Positions.{from_on}
use Rattle.undo_points.specs.Points.{point_position, taken_back}
use Rattle.undo_points.proofs.PointLemmas.{taken_back_is, rising_along}
use Rattle.undo_points.proofs.points.UndoPoints.back_to.Goals as goal

pub returns-clause-before : goal.returns-clause-before
returns-clause-before g c = λ s log gave now.
    let p = c.args.position in
    let held = c.args.self.now.held in
    let rising = rising_along _ c.args.self.now c.self.view_is c.self.invariant in
    c.take_back.ensures.state ∙ (ap (taken_back g.A.App.restored (from_on point_position p held)) now ∙ taken_back_is g.A.App.next_state g.A.App.restored p s log held rising gave)
