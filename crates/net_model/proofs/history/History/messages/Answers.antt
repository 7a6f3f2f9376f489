use Rattle.std.proofs.Common.{◌∙◌}
use Rattle.net_model.proofs.Reading.{sent_all}
use Rattle.net_model.proofs.history.History.messages.Goals as goal

pub returns : goal.returns
returns c = c.as_slice.ensures ∙ sent_all c.self.inside.columns c.args.self.now c.self.invariant c.self.view_is
