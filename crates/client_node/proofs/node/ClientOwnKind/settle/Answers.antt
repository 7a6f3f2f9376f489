use Rattle.std.proofs.Common.{subst, sym}
use Rattle.client_node.specs.Sound.{IsClient}
use Rattle.client_node.proofs.Fits.{restart_sound}
use Rattle.client_node.proofs.node.ClientOwnKind.settle.Goals as goal

pub returns-clause-sound : goal.returns-clause-sound
returns-clause-sound c =
    let from = c.requires in
    subst IsClient (sym from.is) (restart_sound from.cfg from.me from.items from.valid from.here from.kind from.each)
