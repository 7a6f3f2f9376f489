use Rattle.std.proofs.Common.{◌≡◌, ◌-◌, [], length}
use Rattle.msg_wire.specs.Decoding.{rows_at}
use Rattle.msg_wire.proofs.parts.rows_at.Given as goal

abbrev pub invariant-loop : goal.invariant-loop
invariant-loop l = record {
  so_far : rows_at (l.count - l.counter) l.rows.items l.bytes l.at ≡ rows_at l.count [] l.bytes l.fn.start;
  size : length l.rows.items ≡ l.counter;
}
