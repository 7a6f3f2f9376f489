use Rattle.std.proofs.Common.{◌≡◌, ◌==◌, ◌&&◌, Bool, true, false, sym, ap, ◌∙◌}
use Rattle.std.proofs.lemmas.Bool.{cond-true, cond-false, eq-eqb, ne_eqb}
use Rattle.msg_wire.specs.Nodes.{number_of}
use Rattle.node_rules.proofs.Lists.{on_ok}
use Rattle.seq_node.proofs.steps.finish.Goals as goal

-- both are true where the first is and the second is known to be
and_known : (a b c : Bool) → b ≡ true → a ≡ c → (a && b) ≡ c
and_known true true c known is = is
and_known false true c known is = is
and_known a false c known is = absurd (cc)

pub returns-then-is_first : goal.returns-then-is_first
returns-then-is_first c event ends =
    on_ok c.begin_if_free.result _ _ _
    (sym (cond-true _ _ _ (and_known _ _ true ends (eq-eqb (number_of c.args.seq.now.base.me) 0 (sym (c.number_of-is_first.ensures ∙ ap number_of c.me.ensures.me) ∙ c.if-is_first.true)))))
    c.begin_if_free.ensures

pub returns-else-is_first : goal.returns-else-is_first
returns-else-is_first c event ends =
    sym (cond-false _ _ _ (and_known _ _ false ends
    (ne_eqb (number_of c.args.seq.now.base.me) 0 (λ first. c.if-is_first.false (c.number_of-is_first.ensures ∙ ap number_of c.me.ensures.me ∙ first)))))
