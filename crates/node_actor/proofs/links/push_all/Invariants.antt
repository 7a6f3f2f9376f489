use Rattle.std.proofs.Common.{◌≡◌, List}
use Rattle.link_faults.specs.Faults.{Holding}
use Rattle.node_actor.specs.Lanes.{links_of, lanes}
use Rattle.node_actor.proofs.links.push_all.Given as goal

abbrev pub invariant-loop-place : goal.invariant-loop-place
invariant-loop-place l = record {
  links : links_of l.outs ≡ links_of l.fn.outs;
  queued : (faults : List Holding) → lanes l.outs faults ≡ lanes l.fn.outs faults;
}
