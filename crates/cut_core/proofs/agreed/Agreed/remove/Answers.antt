use Rattle.std.proofs.Common.{◌≡◌, Some, None, [], ◌∷◌, ◌++◌, length, slice_index, ap, subst, ◌∙◌, sym, arith}
use Rattle.cut_core.specs.declared.effects.Effect.TheVariants.{Removed}
use Rattle.fix_ante.specs.Windows.{has_row}
use Rattle.fix_ante.specs.Moves.{first_failed_of}
use Rattle.cut_core.specs.Agreements.{Agreement, count_of}
use Rattle.cut_core.specs.Soundness.{IsSound, HasFinalEnds}
use Rattle.cut_core.specs.inside.Kept.{agreement_of, followed}
use Rattle.cut_core.proofs.Reach.{end_reach}
use Rattle.cut_core.proofs.Ends.{room, row_within}
use Rattle.cut_core.proofs.Entries.{removes_from, place_of_end}
use Rattle.cut_core.proofs.agreed.Agreed.remove.Goals as goal

pub bounds-ends-from : goal.bounds-ends-from
bounds-ends-from c =
    let row = ap (λ (b : Agreement). has_row c.args.shard b.current.spots) c.self.view_is ∙ c.requires.row in
    let below = row_within c.self.inside.current.spots c.args.shard c.self.invariant.sound.window.table.within row in
    omega (arith, c.from.ensures)

pub unreachable-requires : goal.unreachable-requires
unreachable-requires c =
    let a = c.args.self.now in
    let end = ap (λ n. slice_index c.ends_after-ends.result n) c.from.ensures in
    let placed = place_of_end c.self.inside a c.args.shard _ c.ends_after-ends.result c.deref.result.now c.self.view_is c.self.invariant c.requires.row c.deref.ensures.0 c.ends_after-ends.ensures end in
    let no : Some (first_failed_of a.current a.rounds c.args.shard) ≡ None = sym placed ∙ (sym c.place.ensures.place ∙ c.in_default.is) in
    cc

pub without-next-requires-clause-end : goal.without-next-requires-clause-end
without-next-requires-clause-end c = end_reach (agreement_of c.self.inside) c.self.invariant.sound c.self.invariant.few

pub with_gone-gone-requires : goal.with_gone-gone-requires
with_gone-gone-requires c =
    let rows = ap (λ (b : Agreement). length b.current.spots) c.self.view_is in
    let six = room (agreement_of c.self.inside) c.self.invariant.sound c.self.invariant.final in
    omega arith

pub follow-requires : goal.follow-requires
follow-requires c =
    let end = ap (λ n. slice_index c.ends_after-ends.result n) c.from.ensures in
    let rounds = ap (λ (b : Agreement). b.rounds) c.self.view_is in
    let all = ap (λ (b : Agreement). b.current.rounds) c.self.view_is in
    let gone = c.with_gone-gone.ensures ∙ ap (λ n. c.self.inside.gone.items ++ record { shard = c.args.shard; end = n } ∷ []) end in
    let removes = removes_from c.self.inside c.args.self.now c.args.shard c.without-next.result c.ends_after-ends.result c.with_gone-gone.result.items c.deref.result.now c.self.view_is c.self.invariant c.requires.few c.requires.row c.requires.another c.deref.ensures.0 c.ends_after-ends.ensures c.without-next.ensures.without gone in
    let same : c.args.self.now.rounds ≡ c.self.inside.rounds = sym rounds in
    record {
      from = omega arith;
      most = omega (arith, c.self.invariant.sound.short);
      few = c.requires.few;
      ends = λ shard below. removes.counts shard below ∙ ap (λ n. count_of shard (followed c.args.self.now n c.without-next.result c.with_gone-gone.result.items).covered) same;
      sound = subst (λ n. IsSound (followed c.args.self.now n c.without-next.result c.with_gone-gone.result.items)) same removes.sound;
      settled = subst (λ n. HasFinalEnds (followed c.args.self.now n c.without-next.result c.with_gone-gone.result.items)) same removes.settled;
    }

pub returns-clause-effect : goal.returns-clause-effect
returns-clause-effect c =
    let a = c.args.self.now in
    let end = ap (λ n. slice_index c.ends_after-ends.result n) c.from.ensures in
    let placed = place_of_end c.self.inside a c.args.shard _ c.ends_after-ends.result c.deref.result.now c.self.view_is c.self.invariant c.requires.row c.deref.ensures.0 c.ends_after-ends.ensures end in
    let first : Some c.in-Some.first ≡ Some (first_failed_of a.current a.rounds c.args.shard) = sym c.in-Some.is ∙ (c.place.ensures.place ∙ placed) in
    let same : c.in-Some.first ≡ first_failed_of a.current a.rounds c.args.shard = cc in
    ap (Removed c.args.shard) same

pub returns-clause-ok : goal.returns-clause-ok
returns-clause-ok c =
    let end = ap (λ n. slice_index c.ends_after-ends.result n) c.from.ensures in
    let gone = c.with_gone-gone.ensures ∙ ap (λ n. c.self.inside.gone.items ++ record { shard = c.args.shard; end = n } ∷ []) end in
    let removes = removes_from c.self.inside c.args.self.now c.args.shard c.without-next.result c.ends_after-ends.result c.with_gone-gone.result.items c.deref.result.now c.self.view_is c.self.invariant c.requires.few c.requires.row c.requires.another c.deref.ensures.0 c.ends_after-ends.ensures c.without-next.ensures.without gone in
    c.in_ok-follow.ensures.ok ∙ (ap (λ n. followed c.args.self.now n c.without-next.result c.with_gone-gone.result.items) (ap (λ (b : Agreement). b.rounds) c.self.view_is) ∙ removes.view)
