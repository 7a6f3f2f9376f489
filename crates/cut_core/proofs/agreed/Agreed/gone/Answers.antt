use Rattle.std.proofs.Common.{◌≡◌, ap, ◌∙◌, sym, subst}
use Rattle.std.specs.Option.{IfSome}
use Rattle.cut_core.specs.Agreements.{Agreement}
use Rattle.cut_core.specs.Map.{end_among, covered_locals}
use Rattle.cut_core.proofs.Reach.{IsSettled_view, end_among_IfSome}
use Rattle.cut_core.proofs.agreed.Agreed.gone.Goals as goal

pub returns-clause-covered : goal.returns-clause-covered
returns-clause-covered c =
    let a = c.args.self.now in
    let is = IsSettled_view c.self.inside a c.self.view_is c.self.invariant in
    let found = end_among_IfSome (covered_locals a) a.gone c.args.shard is.final.ends in
    let is_found = c.end_among.ensures ∙ ap (λ gs. end_among gs c.args.shard) (c.deref.ensures.0 ∙ ap (λ (b : Agreement). b.gone) c.self.view_is) in
    subst (λ o. IfSome o (λ end. end ≡ covered_locals a c.args.shard)) (sym is_found) found
