use Rattle.std.proofs.Common.{◌≡◌, ℕ, ◌∙◌, ap, ◌+◌, arith}
use Rattle.std.specs.List.{fold, range_with_len}
use Rattle.node_rules.specs.Turns.{turn_of}
use Rattle.consumer_node.specs.Rules.{fetch_at}
use Rattle.consumer_node.proofs.Loops.{fold_more}
use Rattle.consumer_node.proofs.rules.fetch_some.Goals as goal

pub loop-ahead-preserved : goal.loop-ahead-preserved
loop-ahead-preserved g c =
    let consumer = c.args.consumer.now in
    let applied = c.applied-applied.result in
    let n = c.loop-ahead.ahead in
    c.in_ok-fetch_at.ensures ∙ (ap (λ t. fetch_at t (applied + n)) c.loop-ahead.invariant ∙ fold_more fetch_at (turn_of consumer c.args.out.now) applied n)

pub returns : goal.returns
returns g c =
    let all : c.loop-ahead.ahead ≡ 8 = omega arith in
    c.loop-ahead.invariant
    ∙ (ap (λ (n : ℕ). fold fetch_at (turn_of c.args.consumer.now c.args.out.now) (range_with_len c.applied-applied.result n)) all
    ∙ ap (λ (n : ℕ). fold fetch_at (turn_of c.args.consumer.now c.args.out.now) (range_with_len n 8)) c.applied-applied.ensures.applied)
