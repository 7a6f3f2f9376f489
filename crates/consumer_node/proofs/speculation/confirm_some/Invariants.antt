use Rattle.std.proofs.Common.{◌≡◌}
use Rattle.msg_wire.specs.Valid.{AreValidItems}
use Rattle.node_rules.specs.Turns.{turn_of}
use Rattle.consumer_node.specs.Apps.{meaning}
use Rattle.consumer_node.specs.Sound.{IsConsumer}
use Rattle.consumer_node.specs.inside.Confirming.{confirm_count}
use Rattle.consumer_node.proofs.speculation.confirm_some.Given as goal

abbrev pub invariant-loop-nth : goal.invariant-loop-nth
invariant-loop-nth g l = record {
  turn : turn_of l.consumer l.out ≡ confirm_count (meaning g.A.App.fresh_state g.A.App.next_state g.A.App.output_of) l._nth (turn_of l.fn.consumer l.fn.out);
  valid : AreValidItems l.fn.out.stable → AreValidItems l.out.stable;
  sound : IsConsumer l.consumer;
}
