use Rattle.std.proofs.Common.{arith}
use Rattle.quota_table.proofs.TableLemmas.{quotas_of_table}
use Rattle.fix_ante.specs.Windows.{rows_of}
use Rattle.fix_ante.proofs.window.Window.width.Goals as goal

pub returns-clause-some : goal.returns-clause-some
returns-clause-some c =
    let bounds = quotas_of_table (rows_of c.self.inside.spots.items) c.self.invariant.valid.table in
    omega (arith, c.self.invariant.width, c.from.ensures)

pub returns-clause-most : goal.returns-clause-most
returns-clause-most c =
    let bounds = quotas_of_table (rows_of c.self.inside.spots.items) c.self.invariant.valid.table in
    omega (arith, c.self.invariant.width, c.from.ensures)
