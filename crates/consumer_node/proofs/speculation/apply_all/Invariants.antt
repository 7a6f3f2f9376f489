use Rattle.std.proofs.Common.{◌≡◌, ◌-◌, length}
use Rattle.node_rules.specs.Turns.{turn_of}
use Rattle.consumer_node.specs.Speculation.{apply_all}
use Rattle.consumer_node.specs.Sound.{IsConsumer}
use Rattle.consumer_node.proofs.speculation.apply_all.Given as goal

abbrev pub invariant-loop-rec : goal.invariant-loop-rec
invariant-loop-rec g l = record {
  rest : apply_all (turn_of l.consumer l.out) ≡ apply_all (turn_of l.fn.consumer l.fn.out);
  sound : IsConsumer l.consumer;
}

abbrev pub decreases-loop-rec : goal.decreases-loop-rec
decreases-loop-rec g l = 3840 - length l.consumer.own.pending
