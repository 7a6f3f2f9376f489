use Rattle.std.proofs.Common.{◌≡◌, sym, subst, arith}
use Rattle.node_rules.proofs.Limits.{seqs_within}
use Rattle.node_rules.specs.Nodes.{Node}
use Rattle.node_rules.specs.Turns.{turn_of}
use Rattle.seq_node.specs.States.{SequencerState}
use Rattle.seq_node.specs.Sound.{IsSequencer}
use Rattle.seq_node.specs.inside.UnderWay.{IsUnderWay}
use Rattle.seq_node.proofs.UnderWays.{goes_promise, among_replicas, sends_valid, has_its_slot}
use Rattle.seq_node.proofs.beginning.alone.Goals as goal

pub hear_promise-requires : goal.hear_promise-requires
hear_promise-requires c =
    let some = (seqs_within c.args.seq.now.base.cfg.seqs c.requires.orderly.base.cfg.seqs).0 in
    among_replicas c.args.seq.now 0 c.requires (omega arith)

pub hear_acceptance-requires : goal.hear_acceptance-requires
hear_acceptance-requires c =
    let n : Node SequencerState = c.hear_promise.new.seq in
    let one : c.args.seq.now.base.cfg.seqs ≡ 1 = cc in
    let heard : IsSequencer n = subst IsUnderWay (sym c.in_ok-hear_promise.ensures) (goes_promise (turn_of c.args.seq.now c.args.out.now) c.args.slot c.args.ballot c.requires one) in
    let some = (seqs_within n.base.cfg.seqs heard.orderly.base.cfg.seqs).0 in
    record { from = among_replicas n 0 heard (omega arith); valid = sends_valid n heard; slot = has_its_slot n heard }
