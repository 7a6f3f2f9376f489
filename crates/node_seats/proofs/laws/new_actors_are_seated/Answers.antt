use Rattle.node_seats.proofs.Staying.{new_seated}
use Rattle.node_seats.proofs.laws.new_actors_are_seated.Goals as goal

pub returns : goal.returns
returns g c = new_seated g.N.NodeModel g.D.Disk
