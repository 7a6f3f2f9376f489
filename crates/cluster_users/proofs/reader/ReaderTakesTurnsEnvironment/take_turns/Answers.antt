use Rattle.cluster_users.proofs.Looking.{reads_on}
use Rattle.cluster_users.proofs.reader.ReaderTakesTurnsEnvironment.take_turns.Goals as goal

pub loop-turn-preserved : goal.loop-turn-preserved
loop-turn-preserved g c = reads_on _ _ _ _ c.loop-turn.invariant c.look.ensures
