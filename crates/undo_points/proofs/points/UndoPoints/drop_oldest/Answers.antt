use Rattle.std.proofs.Common.{rules, ◌≡◌, nat_lt, inl, inr}
use Rattle.app_law.proofs.EndLemmas.{Oldest, oldest_empty, oldest_first}
use Rattle.undo_points.specs.Points.{point_position}
use Rattle.undo_points.proofs.PointLemmas.{drops_none, drops_some, rising_oldest}
use Rattle.undo_points.proofs.points.UndoPoints.drop_oldest.Goals.{in-Some, in-None}
use Rattle.undo_points.proofs.points.UndoPoints.drop_oldest.Goals as goal

pub returns : goal.returns
returns g c =
    let n : Oldest point_position c.args.position c.self.inside.held.items c.pop_front_if.new.self.items c.pop_front_if.result =
    elim c.pop_front_if.ensures.cases [
      | inl h ↦ oldest_empty point_position _ _ _ _ h.0 h.1 h.2
      | inr h ↦
          let called = h.5 in
          let told : (h.2 ≡ nat_lt h.1.position c.args.position) × (h.3 ≡ h.1) = search rules in
          oldest_first point_position _ _ _ h.0 h.1 h.3 h.2 _ c.self.invariant h.4 told.0 told.1 h.6 h.7
    ] in
    elim c.match-pop_front_if.branch [
      | in-Some w ↦ rw w.result-is (drops_some _ _ _ _ _ _ _ c.pop_front_if.ensures.capacity c.self.view_is (rw w.in-Some.is at n))
      | in-None w ↦ rw w.result-is (drops_none _ _ _ _ _ _ c.pop_front_if.ensures.capacity c.self.view_is (rw w.in-None.is at n))
    ]
