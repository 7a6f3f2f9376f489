use Rattle.std.proofs.Common.{◌≡◌, ◌≤◌, [], length, take, drop, None, ap, ◌∙◌, arith}
use Rattle.std.proofs.lemmas.List.{take_all}
use Rattle.std.proofs.lemmas.List.{drop_all}
use Rattle.std.proofs.lemmas.Bool.Decides.{nat_tests}
use Rattle.quota_table.specs.Tables.{rows_fault}
use Rattle.quota_table.proofs.TableLemmas.{IsTable_from_fault}
use Rattle.quota_table.proofs.table.check.Goals as goal

pub of-requires : goal.of-requires
of-requires c =
    let rows = c.args.rows.now in
    let some : 1 ≤ length rows = grind (arith, nat_tests) in
    let few : length rows ≤ 6 = omega arith in
    let done : take c.loop-i.i rows ≡ rows = take_all c.loop-i.i rows (omega arith) in
    let over : drop c.loop-i.i rows ≡ [] = drop_all c.loop-i.i rows (omega arith) in
    let faultless : rows_fault [] rows ≡ None = c.loop-i.invariant.1 ∙ ap (rows_fault (take c.loop-i.i rows)) over in
    rw (c.loop-i.invariant.0, done) (IsTable_from_fault rows some few faultless)
