use Rattle.std.proofs.Common.{◌≡◌, ◌+◌, ◌∷◌, ◌++◌, [], ◌∙◌, sym, ap, subst, map, replicate, arith}
use Rattle.std.specs.List.{AllByRecursion}
use Rattle.std.proofs.lemmas.List.{map-append}
use Rattle.link_rows.specs.Rows.{other_end, names_of_outs, names_of_ins, with_column, with_columns, IsGrid, IsUnsent, IsUnread, OfEach}
use Rattle.link_rows.proofs.Columns.{each_snoc, columns_more, grid_snoc, linked_rows, unread_rows, map_twice}
use Rattle.link_rows.proofs.rows.links_between.Goals as goal

pub loop-preserved : goal.loop-preserved
loop-preserved c =
    let now = c.loop.invariant in
    let made = c.in_ok-sender_row.ensures in
    let row = c.in_ok-sender_row.field-0.items in
    let outs = map (λ row. row.items) c.loop.outs.items in
    let longer : map (λ row. row.items) c.push.new.self.items ≡ outs ++ row ∷ [] =
    ap (map (λ row. row.items)) c.in_ok-push.ensures.items ∙ map-append (λ row. row.items) c.loop.outs.items (c.in_ok-sender_row.field-0 ∷ []) in
    let start = replicate c.args.count [] in
    record {
      outs = subst (IsGrid (c.loop.counter + 1) c.args.count) (sym longer) (grid_snoc c.loop.counter c.args.count outs row now.outs made.length);
      unsent = subst (OfEach IsUnsent) (sym longer) (each_snoc (AllByRecursion IsUnsent) outs row now.unsent made.unsent);
      rows = made.rows;
      columns = made.column ∙ ap (λ rows. with_column rows (map other_end row)) now.columns
          ∙ sym (columns_more start (map (map other_end) outs) (map other_end row))
          ∙ ap (with_columns start) (sym (map-append (map other_end) outs (row ∷ [])) ∙ sym (ap (map (map other_end)) longer));
    }

pub returns-clause-linked : goal.returns-clause-linked
returns-clause-linked c =
    let all : c.loop.counter ≡ c.args.count = omega (arith, c.loop-test.false, c.loop.auto.counter-end) in
    let outs = map (λ row. row.items) c.loop.outs.items in
    let ins = map (λ row. row.items) c.loop.ins.items in
    let linked = linked_rows c.args.count outs ins (subst (λ n. IsGrid n c.args.count outs) all c.loop.invariant.outs) c.loop.invariant.columns in
    rw (← map_twice names_of_outs (λ row. row.items) c.loop.outs.items, ← map_twice names_of_ins (λ row. row.items) c.loop.ins.items) linked

pub returns-clause-unread : goal.returns-clause-unread
returns-clause-unread c = subst (OfEach IsUnread) (sym c.loop.invariant.columns) (unread_rows c.args.count (map (λ row. row.items) c.loop.outs.items))
