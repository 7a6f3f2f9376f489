use Rattle.gate_vault.proofs.Standing as standing
use Rattle.gate_vault.proofs.laws.never_refused.Goals as goal

pub returns : goal.returns
returns c = standing.never_refused
