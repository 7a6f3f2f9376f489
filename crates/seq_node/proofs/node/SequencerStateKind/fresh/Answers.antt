use Rattle.std.proofs.Common.{subst, sym}
use Rattle.seq_node.specs.Sound.{IsSequencer}
use Rattle.seq_node.proofs.Orderly.{fresh_sound}
use Rattle.seq_node.proofs.node.SequencerStateKind.fresh.Goals as goal

pub returns-clause-sound : goal.returns-clause-sound
returns-clause-sound c =
    subst IsSequencer (sym c.in_ok-seq.ensures)
    (record { orderly = fresh_sound c.args.cfg.now c.args.me c.requires.valid c.requires.node; kind = c.requires.kind })
