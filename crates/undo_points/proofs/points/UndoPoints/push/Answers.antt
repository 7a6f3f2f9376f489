use Rattle.std.proofs.Common.{sym}
use Rattle.app_law.proofs.PositionLemmas.{IsRising_push}
use Rattle.undo_points.specs.Points.{point_position}
use Rattle.undo_points.proofs.points.UndoPoints.push.Goals as goal

pub invariant_of-self : goal.invariant_of-self
invariant_of-self g c =
    let past = rw (sym c.self.view_is) at c.requires.past in
    rw c.push_back_reserved.ensures.items (IsRising_push point_position c.self.inside.held.items (record { position = c.args.position; undo = c.args.undo }) c.self.invariant past)
