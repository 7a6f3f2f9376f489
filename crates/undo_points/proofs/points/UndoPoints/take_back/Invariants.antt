use Rattle.std.proofs.Common.{◌≡◌, length}
use Rattle.app_law.specs.Positions.{from_on}
use Rattle.undo_points.specs.Points.{point_position, points_below, taken_back}
use Rattle.undo_points.proofs.points.UndoPoints.take_back.Given as goal

abbrev pub decreases-loop-undo : goal.decreases-loop-undo
decreases-loop-undo g l = length l.self.held

abbrev pub invariant-loop-undo : goal.invariant-loop-undo
invariant-loop-undo g l = record {
  points : points_below l.self l.position ≡ points_below l.fn.self l.position;
  state : taken_back g.A.App.restored (from_on point_position l.position l.self.held) l.app ≡ taken_back g.A.App.restored (from_on point_position l.position l.fn.self.held) l.fn.app;
}
