use Rattle.cluster_crew.proofs.Members.{stays_then, turns_on}
use Rattle.cluster_crew.proofs.turns.MemberTakesTurnsEnvironment.take_turns.Goals as goal

pub take_turn-requires : goal.take_turn-requires
take_turn-requires g c = turns_on g.N.NodeModel g.D.Disk c.args.env.now.desks.now c.args.self c.loop-turn.self c.requires c.loop-turn.invariant

pub loop-turn-preserved : goal.loop-turn-preserved
loop-turn-preserved g c = stays_then g.N.NodeModel g.D.Disk c.args.self c.loop-turn.self c.take_turn.new.self c.loop-turn.invariant c.take_turn.ensures.stays
