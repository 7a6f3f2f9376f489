use Rattle.std.proofs.Common.{ap, sym, subst, ◌∙◌}
use Rattle.msg_wire.specs.Valid.{AreValidItems}
use Rattle.node_rules.specs.Turns.{Turn, turn_of}
use Rattle.consumer_node.specs.States.{ConsumerState}
use Rattle.consumer_node.proofs.Loops.{apply_stable}
use Rattle.consumer_node.proofs.speculation.finish.Goals as goal

pub returns-clause-valid : goal.returns-clause-valid
returns-clause-valid g c = λ valid.
    let same = ap (λ (t : Turn (ConsumerState g.row.A.Denot)). t.stable) c.in_ok-apply_all.ensures.turn ∙ apply_stable (turn_of c.args.consumer.now c.args.out.now) in
    c.confirm_some.ensures.valid (subst AreValidItems (sym same) valid)
