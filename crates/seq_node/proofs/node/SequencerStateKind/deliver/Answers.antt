use Rattle.std.proofs.Common.{subst, sym}
use Rattle.node_rules.specs.Names.events
use Rattle.node_rules.specs.Turns.{turn_of}
use Rattle.seq_node.specs.inside.UnderWay.{IsUnderWay}
use Rattle.seq_node.proofs.UnderWays.{goes_step, step_valid}
use Rattle.seq_node.proofs.node.SequencerStateKind.deliver.Goals as goal

pub returns-clause-sound : goal.returns-clause-sound
returns-clause-sound c = subst IsUnderWay (sym c.in_ok-deliver.ensures) (goes_step c.args.seq.now (events.Deliver c.args.message.now) c.requires.sound c.requires.valid)

pub returns-clause-valid : goal.returns-clause-valid
returns-clause-valid c =
    step_valid c.args.seq.now (turn_of c.deliver.new.seq c.deliver.new.out) (events.Deliver c.args.message.now) c.requires.sound c.requires.valid c.in_ok-deliver.ensures
