use Rattle.std.proofs.Common.{take}
use Rattle.cluster_crew.specs.Crews.{HaveNoEpisode}
use Rattle.cluster_crew.proofs.lines.have_no_episode.Given as goal

abbrev pub invariant-loop-place : goal.invariant-loop-place
invariant-loop-place l = HaveNoEpisode (take l.place l.lines)
