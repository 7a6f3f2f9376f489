use Rattle.std.proofs.Common.{◌≡◌, length}
use Rattle.undo_points.specs.Points.{points_from}
use Rattle.undo_points.proofs.points.UndoPoints.forget_below.Given as goal

abbrev pub decreases-loop : goal.decreases-loop
decreases-loop g l = length l.self.held

abbrev pub invariant-loop : goal.invariant-loop
invariant-loop g l = points_from l.self l.position ≡ points_from l.fn.self l.position
