use Rattle.std.proofs.Common.{rules}
use Rattle.scoped_turns.specs.Started.{Keeps}
use Rattle.scoped_turns.proofs.Pairs.{push}
use Rattle.scoped_turns.proofs.room.finish_list.Goals as goal

pub loop-one-preserved : goal.loop-one-preserved
loop-one-preserved g c = let more = push (Keeps g.P.Promise.kept_by) _ _ _ _ c.loop-one.invariant.each c.finish.ensures in search rules
