use Rattle.std.proofs.Common.{subst, sym}
use Rattle.seq_node.specs.Sound.{IsSequencer}
use Rattle.seq_node.proofs.Lives.{restarted_is}
use Rattle.seq_node.proofs.node.SequencerStateKind.settle.Goals as goal

pub returns-clause-sound : goal.returns-clause-sound
returns-clause-sound c =
    let from = c.requires in
    subst IsSequencer (sym from.is) (restarted_is from.cfg from.me from.items from.valid from.here from.kind from.each)
