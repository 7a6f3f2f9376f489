use Rattle.std.proofs.Common.{subst, sym}
use Rattle.shard_node.specs.Sound.{IsReplica}
use Rattle.shard_node.proofs.Lives.{fresh_sound}
use Rattle.shard_node.proofs.node.ReplicaStateKind.fresh.Goals as goal

pub returns-clause-sound : goal.returns-clause-sound
returns-clause-sound c = subst IsReplica (sym c.in_ok-replica.ensures) (fresh_sound c.args.cfg.now c.args.me c.requires.valid c.requires.node)
