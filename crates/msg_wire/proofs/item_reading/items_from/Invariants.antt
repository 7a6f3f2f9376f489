use Rattle.std.proofs.Common.{◌≡◌, ◌-◌, ◌≤◌, length}
use Rattle.msg_wire.specs.Decoding.{items_from}
use Rattle.msg_wire.proofs.item_reading.items_from.Given as goal

abbrev pub invariant-loop-at : goal.invariant-loop-at
invariant-loop-at l = record {
  so_far : items_from (length l.bytes - length l.items) l.items l.bytes l.at ≡ items_from (length l.bytes - length l.fn.earlier) l.fn.earlier l.bytes l.fn.start;
  few : length l.items ≤ l.at;
}

abbrev pub decreases-loop-at : goal.decreases-loop-at
decreases-loop-at l = length l.bytes - l.at
