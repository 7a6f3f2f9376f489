use Rattle.std.proofs.Common.{◌≡◌, ℕ, ◌-◌, length, ap, ◌∙◌, arith}
use Rattle.std.specs.Prelude.{min}
use Rattle.node_rules.specs.Nodes.{agreed_by}
use Rattle.node_rules.specs.Turns.{turn_of}
use Rattle.consumer_node.specs.Apps.{meaning}
use Rattle.consumer_node.specs.inside.Confirming.{confirm_count}
use Rattle.consumer_node.proofs.Loops.{confirm_counted}
use Rattle.consumer_node.proofs.speculation.confirm_some.Goals as goal

pub returns-clause-turn : goal.returns-clause-turn
returns-clause-turn g c =
    let app = meaning g.A.App.fresh_state g.A.App.next_state g.A.App.output_of in
    let n = c.args.consumer.now in
    let all : c.loop-nth._nth ≡ min 3 (length (agreed_by n.base).covered - n.own.confirmed) = omega (arith, c.count_to_confirm-nth-end.ensures) in
    c.loop-nth.invariant.turn ∙ (ap (λ (count : ℕ). confirm_count app count (turn_of n c.args.out.now)) all ∙ confirm_counted app (turn_of n c.args.out.now))
