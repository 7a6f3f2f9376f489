use Rattle.std.proofs.Common.{◌≡◌, Some, sym, rules}
use Rattle.spec_delivery.specs.Buffers.{lane_of}
use Rattle.consumer_node.proofs.Closings.{with_end_same}
use Rattle.consumer_node.proofs.state.close_lane.Goals as goal

pub returns-else-ne : goal.returns-else-ne
returns-else-ne c =
    let ended : (lane_of c.args.buffer.now c.args.shard).end ≡ Some c.args.end = search rules in
    sym (with_end_same c.args.buffer.now c.args.shard c.args.end c.floor-reach.ensures.reach ended)
