use Rattle.std.proofs.Common.{ap, ◌∙◌}
use Rattle.consumer_node.specs.Rules.{close_all}
use Rattle.consumer_node.proofs.rules.on_learned.Goals as goal

pub returns : goal.returns
returns g c = c.close_all.ensures c.notice.new.out ∙ ap close_all c.in_ok-notice.ensures
