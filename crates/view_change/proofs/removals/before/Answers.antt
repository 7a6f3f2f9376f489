use Rattle.std.proofs.Common.{◌≡◌, true, Some, None, sym, ◌∙◌}
use Rattle.std.proofs.lemmas.Bool.{cond-true}
use Rattle.quota_table.specs.Rows.{has_shard}
use Rattle.quota_table.specs.Tables.{quotas_before, offset_of}
use Rattle.fix_ante.specs.Windows.{rows_of}
use Rattle.fix_ante.proofs.Successors.{has_row_rows_of}
use Rattle.view_change.proofs.removals.before.Goals as goal

pub unreachable-requires : goal.unreachable-requires
unreachable-requires c =
    let rows = rows_of c.args.window.now.spots in
    let row : has_shard c.args.shard rows ≡ true = sym (has_row_rows_of c.args.shard c.args.window.now.spots) ∙ c.requires.row in
    let found : offset_of rows c.args.shard ≡ Some (quotas_before rows c.args.shard) = cond-true _ _ _ row in
    let no : Some (quotas_before rows c.args.shard) ≡ None = sym found ∙ (sym (rw c.table.ensures at c.offset.ensures) ∙ c.in_default.is) in
    cc

pub returns-clause-before : goal.returns-clause-before
returns-clause-before c =
    let rows = rows_of c.args.window.now.spots in
    let row : has_shard c.args.shard rows ≡ true = sym (has_row_rows_of c.args.shard c.args.window.now.spots) ∙ c.requires.row in
    let found : offset_of rows c.args.shard ≡ Some (quotas_before rows c.args.shard) = cond-true _ _ _ row in
    let same : Some c.in-Some.before ≡ Some (quotas_before rows c.args.shard) = sym c.in-Some.is ∙ (rw c.table.ensures at c.offset.ensures ∙ found) in
    cc
