use Rattle.std.proofs.Common.{rules, ◌≡◌, None, ap, sym, ◌∙◌}
use Rattle.app_law.specs.Positions.{from_on}
use Rattle.undo_points.specs.Points.{point_position, points_below, taken_back}
use Rattle.undo_points.proofs.PointLemmas.{below_pushed, back_pushed, below_all, back_all}
use Rattle.undo_points.proofs.points.UndoPoints.take_back.Goals as goal

pub loop-undo-preserved : goal.loop-undo-preserved
loop-undo-preserved g c =
    let p = c.args.position in
    let old = c.loop-undo.self in
    let new = c.take_newest.new.self in
    let t = c.in-Some.ensures in
    record {
      points = sym (below_pushed p t.0 c.in-Some.undo old new t.1 t.2) ∙ c.loop-undo.invariant.points;
      state = ap (taken_back g.A.App.restored (from_on point_position p new.held)) c.revert.ensures ∙ (sym (back_pushed g.A.App.restored p t.0 c.in-Some.undo old new c.loop-undo.app t.1 t.2) ∙ c.loop-undo.invariant.state);
    }

pub returns-clause-points : goal.returns-clause-points
returns-clause-points g c =
    let none : c.take_newest.result ≡ None = search rules in
    let t = rw none at c.take_newest.ensures in
    t.0 ∙ (sym (below_all c.args.position c.loop-undo.self t.1) ∙ c.loop-undo.invariant.points)

pub returns-clause-state : goal.returns-clause-state
returns-clause-state g c =
    let none : c.take_newest.result ≡ None = search rules in
    let t = rw none at c.take_newest.ensures in
    sym (back_all g.A.App.restored c.args.position c.loop-undo.self c.loop-undo.app t.1) ∙ c.loop-undo.invariant.state
