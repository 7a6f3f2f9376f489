use Rattle.std.proofs.Common.{◌≡◌, ◌≤◌, length, take}
use Rattle.cluster_users.specs.Noting.{up_to}
use Rattle.cluster_users.proofs.notes.count_up_to.Given as goal

-- all that is left out is above the number
abbrev pub invariant-loop-left : goal.invariant-loop-left
invariant-loop-left l = (l.left ≤ length l.looks) × (up_to l.number (take l.left l.looks) ≡ up_to l.number l.looks)

abbrev pub decreases-loop-left : goal.decreases-loop-left
decreases-loop-left l = l.left
