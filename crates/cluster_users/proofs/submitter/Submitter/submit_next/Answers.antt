use Rattle.std.proofs.Common.{refl, ap, sym, subst, arith}
use Rattle.cluster_users.specs.Submitting.{AreItemsOf}
use Rattle.cluster_users.proofs.Items.{next_item, one_longer, puts_next_of, still_submits}
use Rattle.cluster_users.proofs.submitter.Submitter.submit_next.Goals as goal

pub invariant_of-self-in-Ok : goal.invariant_of-self-in-Ok
invariant_of-self-in-Ok g c =
    let own = c.self.invariant in
    let put = ap (λ k. k.put) c.in-Ok.ensures.submitted in (
      still_submits _ _ _ _ own.0 c.in-Ok.ensures.submitted,
      subst (AreItemsOf c.self.inside.number) (sym put) (next_item _ _ _ own.1 refl own.2),
      (let longer = one_longer _ _ _ put in omega (arith, own.2, longer)),
      omega (arith, own.3, c.in-Some.ensures.cases),
    )

pub returns-in-Ok : goal.returns-in-Ok
returns-in-Ok g c =
    let own = c.self.invariant in
    let put = ap (λ k. k.put) c.in-Ok.ensures.submitted in
    puts_next_of _ _ _ (record { by = c.self.inside.number; number = c.self.inside.count; body = c.in-Some.body }) c.self.view_is own.1 refl own.2
    c.in-Some.ensures.items (refl, refl, c.in-Ok.ensures.desk) put
