use Rattle.std.proofs.Common.{rules, ◌≡◌, [], ◌∷◌, ◌++◌}
use Rattle.std.specs.List.{Contains}
use Rattle.std.proofs.lemmas.List.Elements.{All-same}
use Rattle.left_right.specs.Sides.{view}
use Rattle.view_cell.proofs.Rising.{prefix_self, all_stand_more}
use Rattle.view_cell.proofs.pass.ReaderPass.look.Goals.{in-Some, in-None}
use Rattle.view_cell.proofs.pass.ReaderPass.look.Goals as goal

pub returns-clause-goes_on : goal.returns-clause-goes_on
returns-clause-goes_on c =
    elim c.match-found.branch [
      | in-Some w ↦ rw (← c.self.view_is, w.self-inside-is) w.take_later.ensures.goes_on
      | in-None w ↦ rw (← c.self.view_is, w.self-inside-is) (prefix_self c.self.inside.seen.log)
    ]

pub returns-clause-handed : goal.returns-clause-handed
returns-clause-handed c =
    let was = (view c.self.inside.reader.place).handed in
    let now = (view c.replace_with-found.new.dest.place).handed in
    elim c.match-found.branch [
      | in-Some w ↦
          let grew : now ≡ was ++ w.in-Some.found.look ∷ [] = search rules in
          let looks = all_stand_more c.self.inside.seen.log w.in-Some.found.seen.log w.take_later.new.seen.log was w.in-Some.found.look w.take_later.ensures.goes_on w.take_later.ensures.found w.in-Some.found.newest c.self.invariant.3 in
          rw (w.self-inside-is) (All-same (Contains w.take_later.new.seen.log) now (was ++ w.in-Some.found.look ∷ []) grew looks)
      | in-None w ↦
          let same : now ≡ was = search rules in
          rw (w.self-inside-is) (All-same (Contains c.self.inside.seen.log) now was same c.self.invariant.3)
    ]

pub invariant_of-self : goal.invariant_of-self
invariant_of-self c =
    elim c.match-found.branch [
      | in-Some w ↦ (rw (w.self-inside-is) (search rules), rw (w.self-inside-is) w.take_later.ensures.newest, rw (w.self-inside-is) w.take_later.ensures.history, returns-clause-handed c)
      | in-None w ↦ (rw (w.self-inside-is) (search rules), rw (w.self-inside-is) c.self.invariant.1, rw (w.self-inside-is) c.self.invariant.2, returns-clause-handed c)
    ]
