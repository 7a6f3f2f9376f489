use Rattle.std.proofs.Common.{◌≤◌, ◌+◌, ◌∷◌, [], length, ap, arith}
use Rattle.std.proofs.lemmas.List.{length-append}
use Rattle.msg_wire.proofs.ItemLaws.{item_advances}
use Rattle.msg_wire.proofs.item_reading.whole_items.Goals as goal

pub items_from-requires : goal.items_from-requires
items_from-requires c =
    let more : 0 + 1 ≤ c.in_ok-first.at = item_advances c.args.bytes.now 0 c.in_ok-first.first c.in_ok-first.at (λ i. omega (arith, c.type_inv.bytes i)) c.in_ok-first.ensures in
    omega (arith, ap length c.in_ok-keep.ensures.ok, ap length c.new-items.ensures, length-append c.new-items.result (c.in_ok-first.first ∷ []))
