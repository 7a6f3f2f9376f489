use Rattle.std.proofs.Common.{◌≡◌, ℕ, List, ap, ◌∙◌, arith}
use Rattle.std.specs.List.{fold, range_with_len}
use Rattle.cut_core.specs.Agreements.{count_of}
use Rattle.spec_delivery.specs.Lanes.{LaneState}
use Rattle.node_rules.specs.Nodes.{Node, agreed_by, with_own}
use Rattle.node_rules.specs.Turns.{turn_of}
use Rattle.consumer_node.specs.States.{ConsumerState, with_lanes}
use Rattle.consumer_node.specs.inside.Closing.{close_shard}
use Rattle.consumer_node.proofs.Closings.{close_shards}
use Rattle.consumer_node.proofs.Loops.{fold_next}
use Rattle.consumer_node.proofs.Owners.{agreement_by}
use Rattle.consumer_node.proofs.rules.close_all.Goals as goal

pub loop-shard-preserved : goal.loop-shard-preserved
loop-shard-preserved g c =
    let n = c.args.consumer.now in
    let gone = (agreed_by n.base).gone in
    c.close.ensures
    ∙ (ap (λ (m : Node (ConsumerState g.row.A.Denot)). with_own (with_lanes (close_shard (agreed_by m.base).gone m.own.lanes c.loop-shard.shard) m.own) m) c.loop-shard.invariant
    ∙ ap (λ (lanes : List LaneState). with_own (with_lanes lanes n.own) n) (fold_next (close_shard gone) n.own.lanes c.loop-shard.shard))

pub returns : goal.returns
returns g c = λ out.
    let n = c.args.consumer.now in
    let a = agreed_by n.base in
    let all : c.loop-shard.shard ≡ 6 = omega arith in
    let same = close_shards (λ shard. count_of shard a.covered) a.gone n.own.lanes (agreement_by n.base c.me-me.ensures.sound).ended c.confirmed-confirmed.ensures.shards in
    ap (λ (m : Node (ConsumerState g.row.A.Denot)). turn_of m out)
    (c.loop-shard.invariant
    ∙ (ap (λ (count : ℕ). with_own (with_lanes (fold (close_shard a.gone) n.own.lanes (range_with_len 0 count)) n.own) n) all
    ∙ ap (λ (lanes : List LaneState). with_own (with_lanes lanes n.own) n) same))
