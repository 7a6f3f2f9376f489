use Rattle.std.proofs.Common.{[], arith}
use Rattle.std.proofs.lemmas.Result.{err_from_is_err_and}
use Rattle.msg_wire.specs.Decoding.{rows_at}
use Rattle.msg_wire.proofs.RowLaws.{rows_goes_on, rows_fail, rows_done, rows_make_a_table}
use Rattle.msg_wire.proofs.parts.rows_at.Goals as goal

pub returns-in_err-row : goal.returns-in_err-row
returns-in_err-row c =
    let p = err_from_is_err_and c.from_residual.result c.from_residual.ensures.1 in
    rw (p.1, p.2) (rows_fail c.in_err-row.field-0.0 c.args.count c.loop.counter c.loop.rows.items c.args.bytes.now c.loop.at (rows_at c.args.count [] c.args.bytes.now c.args.start) c.loop-test.true c.in_err-row.ensures c.loop.invariant.so_far)

pub loop-preserved : goal.loop-preserved
loop-preserved c = record {
  so_far = rw c.push.ensures.items (rows_goes_on c.args.count c.loop.counter c.loop.rows.items c.args.bytes.now c.loop.at c.in_ok-row.row c.in_ok-row.after (rows_at c.args.count [] c.args.bytes.now c.args.start) c.loop-test.true c.in_ok-row.ensures c.loop.invariant.so_far);
  size = omega (arith, c.push.ensures.len, c.loop.invariant.size);
}

pub of-requires : goal.of-requires
of-requires c =
    rows_make_a_table c.args.count c.args.bytes.now c.args.start (c.loop.rows.items, c.loop.at) (λ i. omega (arith, c.type_inv.bytes i)) c.requires.some c.requires.few
    (rows_done c.args.count c.loop.counter c.loop.rows.items c.args.bytes.now c.loop.at (rows_at c.args.count [] c.args.bytes.now c.args.start) c.loop-test.false c.loop.invariant.so_far)

pub returns : goal.returns
returns c = rw c.of.ensures (rows_done c.args.count c.loop.counter c.loop.rows.items c.args.bytes.now c.loop.at (rows_at c.args.count [] c.args.bytes.now c.args.start) c.loop-test.false c.loop.invariant.so_far)
