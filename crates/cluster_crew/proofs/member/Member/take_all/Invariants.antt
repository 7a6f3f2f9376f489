use Rattle.std.proofs.Common.{◌≤◌}
use Rattle.cluster_crew.specs.Posts.{Stays}
use Rattle.cluster_crew.proofs.member.Member.take_all.Given as goal

abbrev pub invariant-loop-by : goal.invariant-loop-by
invariant-loop-by g l = record {
  stays : Stays g.N.NodeModel g.D.Disk l.fn.self l.self;
  left : l.left ≤ l.most;
}
