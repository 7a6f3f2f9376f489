use Rattle.view_cell.proofs.Rising.{history_up_to}
use Rattle.view_cell.proofs.laws.up_to_the_told.Goals as goal

pub returns : goal.returns
returns c = history_up_to
