use Rattle.std.proofs.Common.{◌∙◌, ap, ◌+◌}
use Rattle.node_rules.specs.Turns.{turn_of}
use Rattle.client_node.specs.Rules.{append}
use Rattle.client_node.proofs.Folds.{fold_more}
use Rattle.client_node.proofs.sends.append_all.Goals as goal

pub loop-ahead-preserved : goal.loop-ahead-preserved
loop-ahead-preserved c =
    let client = c.args.client.now in
    let acked = c.acked-acked.result in
    let n = c.loop-ahead.ahead in
    c.in_ok-append.ensures ∙ (ap (λ t. append t (acked + n)) c.loop-ahead.invariant ∙ fold_more append (turn_of client c.args.out.now) acked n)
