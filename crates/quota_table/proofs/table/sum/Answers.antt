use Rattle.std.proofs.Common.{◌≡◌, arith}
use Rattle.std.proofs.lemmas.Grind.{common_steps}
use Rattle.quota_table.specs.Tables.{quotas_of}
use Rattle.quota_table.proofs.TableLemmas.{quotas_of_table}
use Rattle.quota_table.proofs.table.sum.Goals as goal

pub returns-clause-most : goal.returns-clause-most
returns-clause-most c =
    let rows = c.args.table.now in
    let bounds = quotas_of_table rows c.rows-row-items.ensures.valid in
    let total : c.loop-row.total ≡ quotas_of rows = grind (arith, common_steps) in
    omega arith
