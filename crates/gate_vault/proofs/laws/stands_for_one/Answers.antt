use Rattle.gate_vault.proofs.Standing as standing
use Rattle.gate_vault.proofs.laws.stands_for_one.Goals as goal

pub returns : goal.returns
returns c = standing.stands_for_one
