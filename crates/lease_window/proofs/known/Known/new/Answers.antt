use Rattle.std.proofs.Common.{◌≡◌, sym, ap, ◌∙◌, subst, arith}
use Rattle.cut_core.specs.Agreements.{agreement_from}
use Rattle.cut_core.specs.Fold.{fold_of}
use Rattle.cut_core.proofs.GoneEnds.{IsEnded}
use Rattle.lease_window.proofs.known.Known.new.Goals as goal

pub invariant_of-result : goal.invariant_of-result
invariant_of-result c =
    let is : c.in_ok-agreed.agreed ≡ agreement_from c.args.first = c.in_ok-agreed.ensures ∙ ap agreement_from c.copy.ensures in
    record {
      agreed = is ∙ ap (fold_of c.args.first) (sym c.new-2.ensures.items);
      few = omega (arith, c.slots.ensures.slots, c.slots.ensures.most);
      sound = c.slots.ensures.sound;
      ended = subst IsEnded (sym is) tt;
    }
