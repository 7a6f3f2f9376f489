use Rattle.node_seats.proofs.Staying.{moved_stays}
use Rattle.node_seats.proofs.laws.moved_actors_stay_seated.Goals as goal

pub returns : goal.returns
returns g c = moved_stays g.N.NodeModel g.D.Disk
