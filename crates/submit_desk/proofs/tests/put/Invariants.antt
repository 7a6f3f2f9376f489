use Rattle.std.proofs.Common.{◌≡◌}
use Rattle.submit_desk.proofs.tests.put.Given as goal

-- the pass and the item are those of the call
abbrev pub invariant-loop : goal.invariant-loop
invariant-loop g l = (l.pass ≡ l.fn.pass) × (l.next ≡ l.fn.item)
