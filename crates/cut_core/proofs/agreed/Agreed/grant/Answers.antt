use Rattle.std.proofs.Common.{◌≡◌, None, refl, ap, subst, sym, arith}
use Rattle.cut_core.specs.Agreements.{Agreement, gone_row}
use Rattle.cut_core.specs.Reasons.{granted_fault, gone_fault}
use Rattle.cut_core.specs.inside.Kept.{agreement_of}
use Rattle.cut_core.proofs.Sound.{no_granted, no_gone, gone_row_none}
use Rattle.cut_core.proofs.Reach.{end_reach}
use Rattle.cut_core.proofs.Follows.{IsAgreed_grant}
use Rattle.cut_core.proofs.agreed.Agreed.grant.Goals as goal

pub next-requires-clause-end : goal.next-requires-clause-end
next-requires-clause-end c = end_reach (agreement_of c.self.inside) c.self.invariant.sound c.self.invariant.few

pub invariant_of-self : goal.invariant_of-self
invariant_of-self c =
    let a = agreement_of c.self.inside in
    let slots = ap (λ (b : Agreement). b.slots) c.self.view_is in
    let rows = c.args.rows.now in
    let free = subst (λ (b : Agreement). granted_fault b.granted (gone_fault (gone_row b rows)) ≡ None) (sym c.self.view_is) c.requires.free in
    let none = no_gone (gone_row a rows) (no_granted a.granted _ free) in
    IsAgreed_grant c.self.inside _ c.next.result c.args.rounds rows c.self.invariant (omega arith) c.requires.some c.requires.most c.requires.table (λ shard has. gone_row_none a rows shard none has) c.next.ensures.next refl refl refl
