use Rattle.std.proofs.Common.{◌<◌, sym, ◌∙◌, arith}
use Rattle.script_text.proofs.TableLemmas.{shard_of_row}
use Rattle.script_text.proofs.head.home.Goals as goal

pub overflow_cast-result : goal.overflow_cast-result
overflow_cast-result c =
    let small : c.in-Some.shard < 6 = shard_of_row c.in-Some.shard c.args.table.now c.is_row.ensures.valid (sym c.is_row.ensures.row ∙ c.if-is_row.true) in
    omega arith
