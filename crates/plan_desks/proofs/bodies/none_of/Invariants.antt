use Rattle.std.proofs.Common.{◌≡◌, ℕ, [], map, vec_len}
use Rattle.plan_desks.specs.Desks.{AreBodies}
use Rattle.plan_desks.proofs.bodies.none_of.Given as goal

-- so many lists of no body
abbrev pub invariant-loop-submitter : goal.invariant-loop-submitter
invariant-loop-submitter l = (vec_len l.all ≡ l._submitter) × ((from : ℕ) → AreBodies [] from (map (λ q. q.items) l.all.items))
