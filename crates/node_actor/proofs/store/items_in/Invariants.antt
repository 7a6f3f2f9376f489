use Rattle.std.proofs.Common.{◌≡◌, ◌++◌, map, drop}
use Rattle.msg_wire.specs.Items.{items_spelling}
use Rattle.msg_wire.specs.Valid.{AreValidItems}
use Rattle.node_actor.specs.Chunks.{Chunks, all_items}
use Rattle.node_actor.specs.Stores.{AreEntries}
use Rattle.node_actor.proofs.store.items_in.Given as goal

abbrev pub invariant-loop-entry : goal.invariant-loop-entry
invariant-loop-entry l = record {
  valid : AreValidItems l.all;
  read : (chunks : Chunks) → AreEntries chunks → l.entries ≡ map items_spelling chunks → l.all ++ all_items (drop l.entry-index chunks) ≡ all_items chunks;
}
