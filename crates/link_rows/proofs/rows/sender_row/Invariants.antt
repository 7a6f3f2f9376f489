use Rattle.std.proofs.Common.{◌≡◌, map, length}
use Rattle.std.specs.List.{AllByRecursion}
use Rattle.link_rows.specs.Rows.{with_column, other_end, IsUnsent}
use Rattle.link_rows.proofs.rows.sender_row.Given as goal

abbrev pub invariant-loop-to : goal.invariant-loop-to
invariant-loop-to l = record {
  size : length l.row.items ≡ l.to;
  rows : length l.ins.items ≡ l.fn.count;
  unsent : AllByRecursion IsUnsent l.row.items;
  column : map (λ row. row.items) l.ins.items ≡ with_column (map (λ row. row.items) l.fn.ins.items) (map other_end l.row.items);
}
