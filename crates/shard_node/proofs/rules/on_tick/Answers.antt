use Rattle.std.proofs.Common.{ap, ◌∙◌}
use Rattle.node_rules.proofs.Lists.{on_ok}
use Rattle.shard_node.specs.Logs.{report}
use Rattle.shard_node.specs.Rules.{replicate_some}
use Rattle.shard_node.proofs.rules.on_tick.Goals as goal

pub returns : goal.returns
returns c = on_ok c.replicate_some.result _ _ _ (ap replicate_some (c.in_ok-report.ensures ∙ ap report c.in_ok-tick.ensures)) c.replicate_some.ensures
