use Rattle.std.proofs.Common.{◌≡◌, ◌+◌, ◌++◌, drop, ap, ◌∙◌, sym, subst}
use Rattle.msg_wire.specs.Valid.{AreValidItems}
use Rattle.node_actor.specs.Chunks.{all_items}
use Rattle.node_actor.proofs.Loading.{next_spelled, read_more, valid_append}
use Rattle.node_actor.proofs.store.items_in.Goals as goal

pub loop-entry-preserved : goal.loop-entry-preserved
loop-entry-preserved c =
    let items = c.in-Ok.items in
    let more = c.in_ok-append.ensures.ok in
    record {
      valid = subst AreValidItems (sym more) (valid_append c.loop-entry.all items c.loop-entry.invariant.valid c.in-Ok.ensures.found.0);
      read = λ chunks entries spelled.
          let next = next_spelled chunks c.args.entries.now c.loop-entry.entry-index c.entry-item.result entries spelled c.loop-entry-test.true in
          let read = c.in-Ok.ensures.only next.items next.valid.each next.valid.some (c.as_slice.ensures ∙ c.entry-item.is ∙ next.spelled) in
          let is : next.items ≡ items = cc in
          subst (λ all. all ++ all_items (drop (c.loop-entry.entry-index + 1) chunks) ≡ all_items chunks) (sym more)
          (read_more c.loop-entry.all (all_items chunks) chunks c.loop-entry.entry-index items
          (next.split ∙ ap (λ l. l ++ all_items (drop (c.loop-entry.entry-index + 1) chunks)) is)
          (c.loop-entry.invariant.read chunks entries spelled));
    }
