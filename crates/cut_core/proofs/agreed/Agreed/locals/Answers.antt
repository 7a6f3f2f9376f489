use Rattle.std.proofs.Common.{◌≡◌, ap, ◌∙◌, arith}
use Rattle.cut_core.specs.Agreements.{Agreement, count_of}
use Rattle.cut_core.specs.inside.Kept.{agreement_of, local_end}
use Rattle.cut_core.proofs.Finding.{count_of_le}
use Rattle.cut_core.proofs.Ends.{local_end_sound}
use Rattle.cut_core.proofs.Reach.{IsSettled_view, covered_reach}
use Rattle.cut_core.proofs.agreed.Agreed.locals.Goals as goal

counted : (c : goal.After-local_end) → c.local_end.result ≡ count_of c.args.shard c.args.self.now.covered
counted c =
    let i = c.self.inside in
    c.local_end.ensures
    ∙ ap (λ gs. local_end i.current.spots i.rounds gs c.args.shard) c.deref.ensures.0
    ∙ local_end_sound (agreement_of i) c.args.shard c.self.invariant.sound c.self.invariant.final
    ∙ ap (λ (a : Agreement). count_of c.args.shard a.covered) c.self.view_is

pub returns-clause-locals : goal.returns-clause-locals
returns-clause-locals c = counted c

pub returns-clause-most : goal.returns-clause-most
returns-clause-most c = omega (arith, counted c, count_of_le c.args.shard c.args.self.now.covered)

pub returns-clause-reach : goal.returns-clause-reach
returns-clause-reach c =
    let a = c.args.self.now in
    let is = IsSettled_view c.self.inside a c.self.view_is c.self.invariant in
    omega (arith, counted c, count_of_le c.args.shard a.covered, covered_reach a is.sound is.few)
