use Rattle.std.proofs.Common.{◌≡◌, Option, Some, None, true, false, is_none, is_some, refl, sym}
use Rattle.std.proofs.lemmas.Bool.{cond-true}
use Rattle.node_rules.proofs.Lists.{on_ok}
use Rattle.seq_node.proofs.beginning.begin_if_free.Goals as goal

is_free : {X : Type 0} → (o : Option X) → is_some o ≡ false → is_none o ≡ true
is_free None none = refl
is_free (Some x) none = absurd (cc)

pub returns-then-is_none : goal.returns-then-is_none
returns-then-is_none c = on_ok c.begin.result _ _ _ (sym (cond-true _ _ _ (is_free c.args.seq.now.own.attempt c.if-is_none.ensures))) c.begin.ensures
