use Rattle.std.proofs.Common.{◌≡◌, take, fold}
use Rattle.net_model.specs.Pasts.{past_of, sent, shown}
use Rattle.report_text.specs.inside.Gathering.{before_entries, with_entry}
use Rattle.report_text.proofs.gathered.gather.Given as goal

abbrev pub invariant-loop-index : goal.invariant-loop-index
invariant-loop-index l = l.gathered ≡ fold with_entry (before_entries l.cfg (sent (past_of l.history)) (shown (past_of l.history))) (take l.index l.history)
