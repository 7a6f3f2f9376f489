use Rattle.node_seats.proofs.Closing.{closing}
use Rattle.node_seats.proofs.laws.settled_nodes_took_what_was_sent.Goals as goal

pub returns : goal.returns
returns g c = closing g.N.NodeModel g.D.Disk
