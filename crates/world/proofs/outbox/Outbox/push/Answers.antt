use Rattle.std.proofs.Common.{ℕ, ◌≤◌, length, false, replicate, sym, subst}
use Rattle.world.specs.inside.Outboxes.{AreSettledBelow}
use Rattle.world.proofs.Lists.{one_clear_more}
use Rattle.world.proofs.Flags.{still_below, longer}
use Rattle.world.proofs.outbox.Outbox.push.Goals as goal

pub loop-preserved : goal.loop-preserved
loop-preserved c = record {
  flagged = one_clear_more c.self.inside.settled.items c.loop.self-inside.settled.items _ c.loop.counter c.loop.invariant.flagged c.in_ok-push.ensures.items;
  next = c.loop.invariant.next;
}

pub invariant_of-self : goal.invariant_of-self
invariant_of-self c =
    let was = c.self.inside in
    let flags = c.loop.self-inside.settled.items in
    let more = replicate c.loop.counter false in
    let within = longer was.next was.settled.items flags more c.loop.invariant.flagged c.self.invariant.within in
    let below = still_below was.next was.settled.items flags more c.loop.invariant.flagged c.self.invariant.within c.self.invariant.below in
    record {
      within = subst (λ (next : ℕ). next ≤ length flags) (sym c.loop.invariant.next) within;
      below = subst (λ (next : ℕ). AreSettledBelow next flags) (sym c.loop.invariant.next) below;
    }
