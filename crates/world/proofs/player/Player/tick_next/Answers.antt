use Rattle.std.proofs.Common.{◌≡◌, ℕ, ◌+◌, ◌%◌, ◌<◌, length, sym, ap, ◌∙◌, subst, mod-lt, arith}
use Rattle.msg_wire.specs.Nodes.{nodes_of}
use Rattle.runs.specs.Names.events
use Rattle.world.specs.inside.PlayerSteps.{PlayerState, CanTake}
use Rattle.node_order.proofs.NodePlaces.{place_only}
use Rattle.world.proofs.Turns.{has_turn, ticked}
use Rattle.world.proofs.player.Player.tick_next.Goals as goal

pub turn_to-requires : goal.turn_to-requires
turn_to-requires c =
    let has = has_turn c.args.self c.deref-parts.result.now _ c.deref-parts.ensures c.self.invariant c.self.view_is in
    let next = c.deref-parts.result.now.turn + 1 in
    let count : c.len.result ≡ length (nodes_of c.args.self.cfg) = omega (arith, c.len.ensures, has.count) in
    subst (λ (n : ℕ). next % n < length (nodes_of c.args.self.cfg)) (sym count) (mod-lt next (omega (arith, has.within)))

pub happen_here-requires : goal.happen_here-requires
happen_here-requires c =
    let has = has_turn c.args.self c.deref-parts.result.now _ c.deref-parts.ensures c.self.invariant c.self.view_is in
    let node = c.index-node.result.now in
    let within = (place_only c.args.self.cfg c.args.self.turn node (has.there node c.index-node.ensures)).1 in
    subst (λ (s : PlayerState). CanTake s.cfg s.past node events.Tick) (sym c.turn_to.ensures) (record { within = within; valid = tt; taken_there = tt; comes = tt; command = tt })

pub returns : goal.returns
returns c =
    let s = c.args.self in
    let has = has_turn s c.deref-parts.result.now _ c.deref-parts.ensures c.self.invariant c.self.view_is in
    let count : c.len.result ≡ length (nodes_of s.cfg) = omega (arith, c.len.ensures, has.count) in
    let next = ap (λ (n : ℕ). (c.deref-parts.result.now.turn + 1) % n) count ∙ ap (λ (turn : ℕ). (turn + 1) % length (nodes_of s.cfg)) has.turn in
    ticked c.happen_here.result s c.turn_to.result c.index-node.result.now _ (has.there c.index-node.result.now c.index-node.ensures) c.turn_to.ensures next c.happen_here.ensures
