use Rattle.std.proofs.Common.{sym, subst, arith}
use Rattle.world.specs.inside.Kept.{AreParts}
use Rattle.world.proofs.Flags.{open_within}
use Rattle.world.proofs.player.Player.drain_once.Goals as goal

pub deliver-requires : goal.deliver-requires
deliver-requires c =
    let i = c.deref_mut.result.now in
    let known : AreParts i = subst AreParts (sym c.deref_mut.ensures.value) c.self.invariant in
    omega (arith, open_within i.outbox c.in-Some.number (sym c.in-Some.ensures.open), known.played.flags)
