use Rattle.consumer_node.proofs.Floors.{lanes_clear}
use Rattle.consumer_node.proofs.state.ConsumerOwn.reset.Goals as goal

pub invariant_of-self : goal.invariant_of-self
invariant_of-self g c =
    (c.self.invariant.0, rw c.clear.ensures (lanes_clear c.self.inside.confirmed c.self.inside.buffer c.self.invariant.1))
