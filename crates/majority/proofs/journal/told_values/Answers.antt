use Rattle.std.proofs.Common.{◌≡◌, ◌≤◌, length, arith}
use Rattle.majority.proofs.Reports.{greatest_at_past}
use Rattle.majority.proofs.journal.told_values.Goals as goal

pub returns : goal.returns
returns g c =
    let passed : c.longest-slot-end.result ≤ c.loop-slot.slot = omega arith in
    let count : length c.loop-slot.values ≡ c.loop-slot.slot = c.loop-slot.invariant.0 in
    record {
      each = λ slot within. c.loop-slot.invariant.1 slot (omega arith);
      ends = greatest_at_past (length c.loop-slot.values) c.args.journals.now (λ k d within. let most = c.longest-slot-end.ensures k d within in omega arith);
    }
