use Rattle.runs.proofs.Refusals.{refused}
use Rattle.runs.proofs.laws.broken_histories_are_refused.Goals as goal

pub returns : goal.returns
returns c = refused
