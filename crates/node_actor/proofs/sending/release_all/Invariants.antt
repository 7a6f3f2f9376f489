use Rattle.std.proofs.Common.{◌≡◌}
use Rattle.node_actor.specs.Lanes.{links_of, lanes}
use Rattle.node_actor.proofs.LaneLemmas.{release_first}
use Rattle.node_actor.proofs.sending.release_all.Given as goal

abbrev pub invariant-loop-place : goal.invariant-loop-place
invariant-loop-place l = record {
  links : links_of l.outs ≡ links_of l.fn.outs;
  sent : lanes l.outs l.faults ≡ release_first l.place (lanes l.fn.outs l.fn.faults);
}
