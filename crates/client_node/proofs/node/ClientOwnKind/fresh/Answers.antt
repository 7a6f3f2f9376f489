use Rattle.std.proofs.Common.{subst, sym}
use Rattle.client_node.specs.Sound.{IsClient}
use Rattle.client_node.proofs.Sound.{fresh_sound}
use Rattle.client_node.proofs.node.ClientOwnKind.fresh.Goals as goal

pub returns-clause-sound : goal.returns-clause-sound
returns-clause-sound c = subst IsClient (sym c.in_ok-client.ensures) (fresh_sound c.args.cfg.now c.args.me c.requires.valid c.requires.node)
