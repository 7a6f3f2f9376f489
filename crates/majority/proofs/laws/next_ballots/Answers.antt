use Rattle.majority.proofs.Numbers.{IsNextBallot_next}
use Rattle.majority.proofs.laws.next_ballots.Goals as goal

pub returns : goal.returns
returns c = IsNextBallot_next
