use Rattle.std.proofs.Common.{◌≡◌, ◌++◌, map, take, drop}
use Rattle.spec_delivery.specs.Lanes.{emptied}
use Rattle.spec_delivery.proofs.buffer.clear_all.Given as goal

abbrev pub invariant-loop-lane : goal.invariant-loop-lane
invariant-loop-lane l = l.lanes ≡ map emptied (take l.lane-index l.fn.lanes) ++ drop l.lane-index l.fn.lanes
