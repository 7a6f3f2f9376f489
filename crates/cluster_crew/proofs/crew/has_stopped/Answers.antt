use Rattle.std.proofs.Common.{rules, arith}
use Rattle.cluster_crew.proofs.Crews.{one_stopped}
use Rattle.cluster_crew.proofs.crew.has_stopped.Goals as goal

pub returns-then-is_some : goal.returns-then-is_some
returns-then-is_some g c is none =
    let calm = one_stopped c.args.members.now c.loop-place.place c.index-members-place.result none (omega arith) in search (rules, calm)
