use Rattle.std.proofs.Common.{length, sym, ap, ◌∙◌}
use Rattle.net_model.proofs.Reading.{length_entries_of}
use Rattle.net_model.proofs.history.History.len.Goals as goal

pub returns : goal.returns
returns c = c.len.ensures ∙ sym (length_entries_of c.self.inside.columns) ∙ ap length c.self.view_is
