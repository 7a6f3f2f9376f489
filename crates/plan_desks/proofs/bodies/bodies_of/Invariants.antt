use Rattle.std.proofs.Common.{◌≡◌, length, map, take}
use Rattle.plan_desks.specs.Desks.{AreBodies}
use Rattle.plan_desks.proofs.bodies.bodies_of.Given as goal

-- the bodies of the lines so far
abbrev pub invariant-loop-line : goal.invariant-loop-line
invariant-loop-line l =
    (length l.all.items ≡ l.fn.count) × AreBodies (take l.line-index l.lines) 0 (map (λ q. q.items) l.all.items)
