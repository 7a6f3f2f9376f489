use Rattle.std.proofs.Common.{◌≡◌, [], map, replicate, length}
use Rattle.link_rows.specs.Rows.{with_columns, other_end, IsGrid, IsUnsent, OfEach}
use Rattle.link_rows.proofs.rows.links_between.Given as goal

abbrev pub invariant-loop : goal.invariant-loop
invariant-loop l = record {
  outs : IsGrid l.counter l.fn.count (map (λ row. row.items) l.outs.items);
  unsent : OfEach IsUnsent (map (λ row. row.items) l.outs.items);
  rows : length l.ins.items ≡ l.fn.count;
  columns : map (λ row. row.items) l.ins.items ≡ with_columns (replicate l.fn.count []) (map (map other_end) (map (λ row. row.items) l.outs.items));
}
