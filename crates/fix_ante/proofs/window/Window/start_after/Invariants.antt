use Rattle.std.proofs.Common.{◌≡◌, drop}
use Rattle.fix_ante.specs.Windows.{start_after}
use Rattle.fix_ante.proofs.window.Window.start_after.Given as goal

abbrev pub invariant-loop-spot : goal.invariant-loop-spot
invariant-loop-spot l = start_after l.spot-items l.rounds l.shard ≡ start_after (drop l.spot-index l.spot-items) l.rounds l.shard
