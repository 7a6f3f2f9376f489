use Rattle.scoped_turns.proofs.Owed.{all_kept}
use Rattle.scoped_turns.proofs.room.Room.finish_all.Goals as goal

pub returns : goal.returns
returns g c env turns before owed = all_kept g.A.TakesTurns.took env turns before _ _ owed c.finish_list.ensures
