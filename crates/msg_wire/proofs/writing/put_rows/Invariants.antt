use Rattle.std.proofs.Common.{◌≡◌, ◌+◌, ◌*◌, ◌≤◌, ◌∷◌, ◌++◌, drop, length}
use Rattle.record_codec.specs.Entries.{rows_spelling}
use Rattle.msg_wire.proofs.writing.put_rows.Given as goal

abbrev pub invariant-loop-row : goal.invariant-loop-row
invariant-loop-row l = record {
  so_far : l.head ++ rows_spelling (drop l.row-index l.rows) ≡ l.fn.head ++ length l.rows ∷ rows_spelling l.rows;
  size : length l.head ≡ length l.fn.head + 1 + 2 * l.row-index;
}
