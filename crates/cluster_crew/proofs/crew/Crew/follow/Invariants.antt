use Rattle.std.proofs.Common.{drop}
use Rattle.cluster_crew.specs.Crews.{AreFaultless, CrewStays, HaveNoEpisode}
use Rattle.cluster_crew.proofs.crew.Crew.follow.Given as goal

abbrev pub invariant-loop-place : goal.invariant-loop-place
invariant-loop-place g l = record {
  stays : CrewStays g.N.NodeModel g.D.Disk l.fn.self l.crew;
  ended : HaveNoEpisode (drop l.place l.lines) → AreFaultless l.crew.members.items;
}
