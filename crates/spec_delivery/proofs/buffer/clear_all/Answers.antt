use Rattle.std.proofs.Common.{sym, arith}
use Rattle.std.proofs.lemmas.List.Edits.{map_over_more}
use Rattle.spec_delivery.specs.Lanes.{emptied}
use Rattle.spec_delivery.proofs.buffer.clear_all.Goals as goal

pub loop-lane-preserved : goal.loop-lane-preserved
loop-lane-preserved c =
    rw c.clear.ensures (rw (sym c.lane-item.is) (map_over_more emptied c.args.lanes.now c.loop-lane.lanes c.loop-lane.lane-index c.lane-item.result (omega arith) c.loop-lane.invariant c.lane-item.is))
