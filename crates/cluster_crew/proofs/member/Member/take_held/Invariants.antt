use Rattle.std.proofs.Common.{◌≡◌, ◌+◌, length}
use Rattle.cluster_crew.specs.Posts.{Stays}
use Rattle.cluster_crew.proofs.member.Member.take_held.Given as goal

abbrev pub invariant-loop-taken : goal.invariant-loop-taken
invariant-loop-taken g l = record {
  stays : Stays g.N.NodeModel g.D.Disk l.fn.self l.self;
  count : length l.fn.held.items ≡ l.taken + length l.held.items;
}
