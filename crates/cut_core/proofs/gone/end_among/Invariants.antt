use Rattle.std.proofs.Common.{◌≡◌, drop}
use Rattle.cut_core.specs.Map.{end_among}
use Rattle.cut_core.proofs.gone.end_among.Given as goal

abbrev pub invariant-loop-left : goal.invariant-loop-left
invariant-loop-left l = end_among l.gone l.shard ≡ end_among (drop l.left-index l.gone) l.shard
