use Rattle.std.proofs.Common.{subst}
use Rattle.msg_wire.specs.Valid.{IsValidLine}
use Rattle.cluster_crew.proofs.Crews.{crew_then}
use Rattle.cluster_crew.proofs.Following.{command_valid, sequencer_is}
use Rattle.cluster_crew.proofs.crew.Crew.do_line.Goals as goal

pub without_faults-requires : goal.without_faults-requires
without_faults-requires g c = let (places, at, fits) = c.requires.places in (places, c.take_turns-crew.ensures.at places at)

pub commanded-requires-clause-sequencer : goal.commanded-requires-clause-sequencer
commanded-requires-clause-sequencer g c = sequencer_is c.args.plan.now.cfg c.in-Command.node (subst (IsValidLine c.args.plan.now) c.in-Command.is
    c.requires.valid).0

pub commanded-requires-clause-valid : goal.commanded-requires-clause-valid
commanded-requires-clause-valid g c =
    command_valid c.args.plan.now.cfg c.in-Command.command c.requires.cfg.most_shards (subst (IsValidLine c.args.plan.now) c.in-Command.is c.requires.valid).1

pub returns-then-is_last-clause-stays : goal.returns-then-is_last-clause-stays
returns-then-is_last-clause-stays g c =
    crew_then g.N.NodeModel g.D.Disk c.args.self c.take_turns-crew.result.0 c.without_faults.result c.take_turns-crew.ensures c.without_faults.ensures.stays
