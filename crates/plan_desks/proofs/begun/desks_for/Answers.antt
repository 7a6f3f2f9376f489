use Rattle.std.proofs.Common.{rules, List, sym, subst, arith}
use Rattle.std.specs.List.{AllByRecursion, AllZip}
use Rattle.submit_desk.specs.Passes.{DeskView}
use Rattle.scoped_turns.proofs.Pairs.{pushed}
use Rattle.plan_desks.specs.Desks.{AreOfClients, HasRoom, IsTaking}
use Rattle.plan_desks.proofs.Zips.{all_push, clients_push}
use Rattle.plan_desks.proofs.begun.desks_for.Goals as goal

pub loop-client-preserved : goal.loop-client-preserved
loop-client-preserved c =
    let before = c.loop-client.invariant in
    let count = before.takers in record {
      desks = search rules;
      takers = search rules;
      room = subst (AllByRecursion HasRoom) (sym c.in_ok-push.ensures.items) (all_push HasRoom c.loop-client.desks.items _ before.room (search rules));
      taking =
          subst (λ (l : List DeskView). AllZip (IsTaking 0) l c.push-in-loop-client.new.self.items) (sym c.in_ok-push.ensures.items)
          (pushed (IsTaking 0) c.loop-client.desks.items c.loop-client.takers.items _ _ _ c.in_ok-push-2.ensures.items before.taking (record {
            desk = search rules;
            knows = search rules;
            below = search rules;
          }));
      clients = subst (AreOfClients 0) (sym c.in_ok-push-2.ensures.items) (clients_push 0 c.loop-client.takers.items _ before.clients (omega (arith, count)));
    }
