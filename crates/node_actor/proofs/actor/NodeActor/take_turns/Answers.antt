use Rattle.node_actor.proofs.Moving.{moved_itself, moved_then, still_going, no_turns, turns_then}
use Rattle.node_actor.proofs.actor.NodeActor.take_turns.Goals as goal

pub loop-turn-init : goal.loop-turn-init
loop-turn-init g c =
    (moved_itself g.N.NodeModel g.D.Disk c.args.self.now c.requires.going, no_turns g.N.NodeModel g.D.Disk c.args.turns c.args.self.now)

pub take_turn-requires : goal.take_turn-requires
take_turn-requires g c = record { going = still_going g.N.NodeModel g.D.Disk c.args.self.now c.loop-turn.self c.loop-turn.invariant.0 }

pub loop-turn-preserved : goal.loop-turn-preserved
loop-turn-preserved g c =
    let before = c.args.self.now in
    let now = c.loop-turn.self in
    let then = c.take_turn.new.self in (
      moved_then g.N.NodeModel g.D.Disk before now then c.loop-turn.invariant.0 c.take_turn.ensures.moved,
      turns_then g.N.NodeModel g.D.Disk c.args.turns c.loop-turn.turn before now then c.take_turn.ensures.moved.was c.loop-turn.invariant.1
          c.take_turn.ensures.steps,
    )
