use Rattle.std.proofs.Common.{Option, ap, sym, subst, ◌∙◌}
use Rattle.std.proofs.lemmas.Bool.{cond-true}
use Rattle.node_rules.specs.Names.{Entry}
use Rattle.node_rules.specs.Turns.{turn_of}
use Rattle.node_rules.proofs.Lists.{on_ok}
use Rattle.seq_node.specs.Attempts.{begin_with}
use Rattle.seq_node.specs.Sound.{MayBeValid}
use Rattle.seq_node.proofs.Proposals.{valid_value}
use Rattle.seq_node.proofs.beginning.begin.Goals as goal

pub begin_with-requires-clause-valid : goal.begin_with-requires-clause-valid
begin_with-requires-clause-valid c = subst MayBeValid (sym c.in-Some.ensures) (valid_value c.args.seq.now c.requires.orderly)

pub returns-in-Some : goal.returns-in-Some
returns-in-Some c =
    on_ok c.begin_with.result _ _ _
    (ap (λ (o : Option Entry). begin_with o (turn_of c.args.seq.now c.args.out.now)) c.in-Some.ensures ∙ sym (cond-true _ _ _ (sym c.if-not-has_slot.ensures)))
    c.begin_with.ensures
