use Rattle.std.proofs.Common.{subst, sym}
use Rattle.shard_node.specs.Restart.{fresh_node}
use Rattle.shard_node.specs.Sound.{IsReplica}
use Rattle.shard_node.proofs.Keeps.{reset_sound}
use Rattle.shard_node.proofs.Lives.{fresh_sound, fits_sound}
use Rattle.shard_node.proofs.node.ReplicaStateKind.settle.Goals as goal

pub returns-clause-sound : goal.returns-clause-sound
returns-clause-sound c =
    let from = c.requires in
    subst IsReplica (sym c.reset.ensures)
    (reset_sound c.args.replica.now
    (subst IsReplica (sym from.is) (fits_sound (fresh_node from.cfg from.me) from.items from.each (fresh_sound from.cfg from.me from.valid from.here))))
