use Rattle.std.proofs.Common.{◌≡◌, ℕ, ◌+◌, length, map, take, vec_len}
use Rattle.std.specs.List.{AllZip}
use Rattle.std.specs.Vec.Iter.{into_iter_len}
use Rattle.plan_desks.specs.Desks.{AreBegun, AreBodies, AreOfClients, IsTaking}
use Rattle.plan_desks.proofs.begun.submitters_of.Given as goal

-- so many submitters were made, in the order of their clients
abbrev pub invariant-loop-held : goal.invariant-loop-held
invariant-loop-held g l = record {
  left : vec_len l.submitters + into_iter_len l.held-iterator ≡ length l.clients;
  count : length l.yielded ≡ vec_len l.submitters;
  takers : AllZip (IsTaking (vec_len l.submitters)) l.desks l.takers;
  same : (number : ℕ) → AreOfClients number l.fn.takers → AreOfClients number l.takers;
  begun : (lines : _) → AreBodies lines 0 (map (λ q. q.items) l.yielded) → AreBegun l.desks lines 0 (take (vec_len l.submitters) l.clients) l.submitters.items;
}
