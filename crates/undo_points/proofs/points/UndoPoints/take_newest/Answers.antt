use Rattle.std.proofs.Common.{rules, ◌≡◌, nat_le, inl, inr}
use Rattle.app_law.proofs.EndLemmas.{Newest, newest_empty, newest_last}
use Rattle.undo_points.specs.Points.{point_position}
use Rattle.undo_points.proofs.PointLemmas.{takes_none, takes_some, rising_newest}
use Rattle.undo_points.proofs.points.UndoPoints.take_newest.Goals.{in-Some, in-None}
use Rattle.undo_points.proofs.points.UndoPoints.take_newest.Goals as goal

newest : (g : _) (c : goal.Joined-pop_back_if g)
    → Newest point_position c.args.position c.self.inside.held.items c.pop_back_if.new.self.items c.pop_back_if.result
newest g c =
    elim c.pop_back_if.ensures.cases [
      | inl h ↦ newest_empty point_position _ _ _ _ h.0 h.1 h.2
      | inr h ↦
          let called = h.5 in
          let told : (h.2 ≡ nat_le c.args.position h.1.position) × (h.3 ≡ h.1) = search rules in
          newest_last point_position _ _ _ h.0 h.1 h.3 h.2 _ c.self.invariant h.4 told.0 told.1 h.6 h.7
    ]

pub returns : goal.returns
returns g c =
    let n = newest g c in
    elim c.match-pop_back_if.branch [
      | in-Some w ↦ rw w.result-is (takes_some _ _ _ _ _ _ _ c.pop_back_if.ensures.capacity c.self.view_is (rw w.in-Some.is at n))
      | in-None w ↦ rw w.result-is (takes_none _ _ _ _ _ _ c.pop_back_if.ensures.capacity c.self.view_is (rw w.in-None.is at n))
    ]

pub invariant_of-self : goal.invariant_of-self
invariant_of-self g c = rising_newest _ _ _ _ c.self.invariant (newest g c)
