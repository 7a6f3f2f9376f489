use Rattle.std.proofs.Common.{◌≡◌, drop}
use Rattle.node_actor.specs.Lanes.{links_of, lanes, send_messages}
use Rattle.node_actor.proofs.sending.send_all.Given as goal

abbrev pub invariant-loop-message : goal.invariant-loop-message
invariant-loop-message l = record {
  links : links_of l.outs ≡ links_of l.fn.outs;
  sent : send_messages l.cfg l.plan l.stamp (drop l.message-index l.sends) (lanes l.outs l.faults) ≡ send_messages l.cfg l.plan l.stamp l.sends (lanes l.fn.outs l.fn.faults);
}
