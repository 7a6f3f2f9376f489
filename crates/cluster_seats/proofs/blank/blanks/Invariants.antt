use Rattle.cluster_seats.specs.inside.Midway.{AreFirstBlanks}
use Rattle.cluster_seats.proofs.blank.blanks.Given as goal

abbrev pub invariant-loop-place : goal.invariant-loop-place
invariant-loop-place g l = AreFirstBlanks g.N.NodeModel l.cfg l.seed l.nodes l.count l.place l.made.items
