use Rattle.std.proofs.Common.{◌∙◌}
use Rattle.net_model.proofs.Reading.{shown_all}
use Rattle.net_model.proofs.history.History.marks.Goals as goal

pub returns : goal.returns
returns c = c.as_slice.ensures ∙ shown_all c.self.inside.columns c.args.self.now c.self.invariant c.self.view_is
