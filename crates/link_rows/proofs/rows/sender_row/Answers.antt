use Rattle.std.proofs.Common.{◌∷◌, ◌++◌, [], ◌∙◌, sym, ap, subst, map, length, length-append, arith}
use Rattle.std.specs.List.{AllByRecursion}
use Rattle.std.proofs.lemmas.List.{map-append, length-map, length-set}
use Rattle.link_rows.specs.Rows.{other_end, with_column, IsUnsent}
use Rattle.link_rows.proofs.Columns.{put_next, each_snoc, fresh_other}
use Rattle.link_rows.proofs.rows.sender_row.Goals as goal

pub loop-to-preserved : goal.loop-to-preserved
loop-to-preserved c =
    let now = c.loop-to.invariant in
    let row = c.loop-to.row.items in
    let ends = c.in_ok-out.ensures in
    let other = fresh_other c.in_ok-out.out c.in_ok-out.into ends.link ends.into.0 ends.into.1 in
    let longer = c.in_ok-push-2.ensures.items in
    let grown =
    put_next (λ row. row.items) c.args.ins.now.items c.loop-to.ins.items c.index_mut.result.now c.push.new.self (map other_end row)
    c.in_ok-out.into c.loop-to.to
    (length-map row other_end ∙ now.size) (omega (arith, now.rows, c.loop-to-test.true)) c.index_mut.ensures.value now.column c.in_ok-push.ensures.items in
    record {
      size = ap length longer ∙ omega (arith, now.size, length-append row (c.in_ok-out.out ∷ []));
      rows = length-set c.loop-to.ins.items c.loop-to.to c.push.new.self ∙ now.rows;
      unsent = subst (AllByRecursion IsUnsent) (sym longer) (each_snoc IsUnsent row c.in_ok-out.out now.unsent (ends.out.1, ends.out.2));
      column = grown ∙ ap (with_column (map (λ row. row.items) c.args.ins.now.items))
          (ap (λ i. map other_end row ++ i ∷ []) other ∙ sym (map-append other_end row (c.in_ok-out.out ∷ [])) ∙ sym (ap (map other_end) longer));
    }
