use Rattle.std.proofs.Common.{◌≡◌, ◌≤◌, ◌++◌, drop, take, length}
use Rattle.msg_wire.specs.Items.{items_spelling}
use Rattle.msg_wire.proofs.writing.encode_items.Given as goal

abbrev pub invariant-loop-item : goal.invariant-loop-item
invariant-loop-item l = record {
  so_far : l.into ++ items_spelling (drop l.item-index l.items) ≡ l.fn.into ++ items_spelling l.items;
  kept : take l.before l.into ≡ l.fn.into;
  longer : l.before ≤ length l.into;
}
