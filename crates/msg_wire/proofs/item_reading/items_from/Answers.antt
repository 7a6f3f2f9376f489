use Rattle.std.proofs.Common.{◌≤◌, ◌+◌, ◌-◌, ◌∷◌, [], length, ap, arith}
use Rattle.std.proofs.lemmas.Result.{err_from_is_err_and}
use Rattle.std.proofs.lemmas.List.{length-append}
use Rattle.msg_wire.specs.Decoding.{items_from}
use Rattle.msg_wire.proofs.ItemLaws.{item_advances, items_go_on, items_fail, items_done}
use Rattle.msg_wire.proofs.item_reading.items_from.Goals as goal

pub returns-in_err-item : goal.returns-in_err-item
returns-in_err-item c =
    let p = err_from_is_err_and c.from_residual.result c.from_residual.ensures.1 in
    rw (p.1, p.2) (items_fail c.in_err-item.field-0.0 c.loop-at.at c.loop-at.items c.args.bytes.now (items_from (length c.args.bytes.now - length c.args.earlier) c.args.earlier c.args.bytes.now c.args.start) c.loop-at.invariant.few c.loop-at-test.true c.in_err-item.ensures c.loop-at.invariant.so_far)

pub loop-at-smaller : goal.loop-at-smaller
loop-at-smaller c =
    let more : c.loop-at.at + 1 ≤ c.in_ok-item.after = item_advances c.args.bytes.now c.loop-at.at c.in_ok-item.item c.in_ok-item.after (λ i. omega (arith, c.type_inv.bytes i)) c.in_ok-item.ensures in
    omega arith

pub loop-at-preserved : goal.loop-at-preserved
loop-at-preserved c =
    let more : c.loop-at.at + 1 ≤ c.in_ok-item.after = item_advances c.args.bytes.now c.loop-at.at c.in_ok-item.item c.in_ok-item.after (λ i. omega (arith, c.type_inv.bytes i)) c.in_ok-item.ensures in
    record {
      so_far = rw c.in_ok-keep.ensures.ok (items_go_on c.loop-at.at c.loop-at.items c.args.bytes.now c.in_ok-item.item c.in_ok-item.after (items_from (length c.args.bytes.now - length c.args.earlier) c.args.earlier c.args.bytes.now c.args.start) c.loop-at.invariant.few c.loop-at-test.true c.in_ok-item.ensures c.loop-at.invariant.so_far);
      few = omega (arith, ap length c.in_ok-keep.ensures.ok, length-append c.loop-at.items (c.in_ok-item.item ∷ []), c.loop-at.invariant.few);
    }

pub returns : goal.returns
returns c = items_done c.loop-at.at c.loop-at.items c.args.bytes.now (items_from (length c.args.bytes.now - length c.args.earlier) c.args.earlier c.args.bytes.now c.args.start) c.loop-at-test.false c.loop-at.invariant.so_far
