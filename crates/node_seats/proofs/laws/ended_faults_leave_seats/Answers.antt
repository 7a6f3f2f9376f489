use Rattle.node_seats.proofs.Staying.{ended_stays}
use Rattle.node_seats.proofs.laws.ended_faults_leave_seats.Goals as goal

pub returns : goal.returns
returns g c = ended_stays g.N.NodeModel g.D.Disk
