use Rattle.std.proofs.Common.{◌≡◌}
use Rattle.std.specs.List.{fold, range_with_len}
use Rattle.node_rules.specs.Nodes.{agreed_by, with_own}
use Rattle.consumer_node.specs.States.{with_lanes}
use Rattle.consumer_node.specs.inside.Closing.{close_shard}
use Rattle.consumer_node.proofs.rules.close_all.Given as goal

abbrev pub invariant-loop-shard : goal.invariant-loop-shard
invariant-loop-shard g l = l.consumer ≡ with_own (with_lanes (fold (close_shard (agreed_by l.fn.consumer.base).gone) l.fn.consumer.own.lanes (range_with_len 0 l.shard)) l.fn.consumer.own) l.fn.consumer
