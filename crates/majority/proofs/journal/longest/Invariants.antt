use Rattle.std.proofs.Common.{ℕ, ◌<◌, ◌≤◌, length, get_or}
use Rattle.majority.proofs.journal.longest.Given as goal

abbrev pub invariant-loop-journal : goal.invariant-loop-journal
invariant-loop-journal g l = (k : ℕ) (d : _) → k < l.journal-index → length (get_or l.journals k d).votes ≤ l.most
