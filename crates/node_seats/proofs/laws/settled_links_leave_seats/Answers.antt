use Rattle.node_seats.proofs.Staying.{waits_stays}
use Rattle.node_seats.proofs.laws.settled_links_leave_seats.Goals as goal

pub returns : goal.returns
returns g c = waits_stays g.N.NodeModel g.D.Disk
