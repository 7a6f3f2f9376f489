use Rattle.std.proofs.Common.{◌≡◌, vec_len}
use Rattle.std.specs.List.{AllByRecursion, AllZip}
use Rattle.plan_desks.specs.Desks.{AreOfClients, HasRoom, IsTaking}
use Rattle.plan_desks.proofs.begun.desks_for.Given as goal

-- the desks of so many clients were made, and their taking passes
abbrev pub invariant-loop-client : goal.invariant-loop-client
invariant-loop-client l = record {
  desks : vec_len l.desks ≡ l.client;
  takers : vec_len l.takers ≡ l.client;
  room : AllByRecursion HasRoom l.desks.items;
  taking : AllZip (IsTaking 0) l.desks.items l.takers.items;
  clients : AreOfClients 0 l.takers.items;
}
