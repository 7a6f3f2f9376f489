use Rattle.std.proofs.Common.{◌+◌, ap, ◌∙◌, arith}
use Rattle.cut_core.specs.Agreements.{Agreement}
use Rattle.cut_core.specs.Fold.{with_round}
use Rattle.cut_core.proofs.Follows.{round_view, IsAgreed_round}
use Rattle.cut_core.proofs.agreed.Agreed.cover_round.Goals as goal

pub invariant_of-self : goal.invariant_of-self
invariant_of-self c =
    let slots = ap (λ (a : Agreement). a.slots) c.self.view_is in
    let rounds = ap (λ (a : Agreement). a.rounds) c.self.view_is in
    let all = ap (λ (a : Agreement). a.current.rounds) c.self.view_is in
    IsAgreed_round c.self.inside c.self.invariant (omega arith) (omega arith)

pub returns-clause-new : goal.returns-clause-new
returns-clause-new c = round_view c.self.inside ∙ ap (λ (a : Agreement). record (with_round a) { slots = a.slots + 1 }) c.self.view_is
