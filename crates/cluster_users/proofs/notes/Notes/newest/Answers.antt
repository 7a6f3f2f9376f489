use Rattle.cluster_users.proofs.Rising.{newest_lies_last}
use Rattle.cluster_users.proofs.notes.Notes.newest.Goals as goal

pub returns : goal.returns
returns c = newest_lies_last _ _ _ c.as_slice.ensures c.last.ensures.value
