use Rattle.fix_ante.proofs.MoveLemmas.{first_failed_of_first}
use Rattle.view_change.proofs.removals.first_failed.Goals as goal

pub returns-clause-first : goal.returns-clause-first
returns-clause-first c =
    let w = c.args.window.now in
    rw (c.end_after.ensures.end, c.before-2.ensures.before)
    (first_failed_of_first w 0 c.args.covered c.args.shard c.end_after.ensures.valid c.requires.row c.requires.covered)
