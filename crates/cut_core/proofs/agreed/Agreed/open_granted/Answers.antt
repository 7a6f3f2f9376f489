use Rattle.std.proofs.Common.{◌+◌, Some, ap, ◌∙◌, sym, arith}
use Rattle.fix_ante.specs.Windows.{Window}
use Rattle.cut_core.specs.Agreements.{Agreement}
use Rattle.cut_core.specs.Fold.{with_round, open_granted}
use Rattle.cut_core.specs.inside.Kept.{agreement_of}
use Rattle.cut_core.proofs.Ends.{room}
use Rattle.cut_core.proofs.Entries.{opens_from}
use Rattle.cut_core.proofs.agreed.Agreed.open_granted.Goals as goal

pub with_dropped-gone-requires : goal.with_dropped-gone-requires
with_dropped-gone-requires c = room (agreement_of c.self.inside) c.self.invariant.sound c.self.invariant.final

pub follow-requires : goal.follow-requires
follow-requires c =
    let granted = c.in-Some.is ∙ ap (λ (w : Window). Some w) (sym c.copy-next.ensures) in
    let covered = ap (λ (b : Agreement). b.rounds) c.self.view_is in
    let all = ap (λ (b : Agreement). b.current.rounds) c.self.view_is in
    let rounds = c.rounds-rounds.ensures.rounds in
    let opens = opens_from c.self.inside c.args.self.now c.copy-next.result c.rounds-rounds.result c.ends_after-ends.result c.with_dropped-gone.result.items c.deref.result.now c.self.view_is c.self.invariant granted c.requires.last rounds c.deref.ensures.0 c.ends_after-ends.ensures c.with_dropped-gone.ensures in
    record {
      from = omega (arith, c.self.invariant.sound.short);
      most = omega arith;
      few = c.requires.few;
      ends = opens.counts;
      sound = opens.sound;
      settled = opens.settled;
    }

pub returns-clause-ok : goal.returns-clause-ok
returns-clause-ok c =
    let granted = c.in-Some.is ∙ ap (λ (w : Window). Some w) (sym c.copy-next.ensures) in
    let opens = opens_from c.self.inside c.args.self.now c.copy-next.result c.rounds-rounds.result c.ends_after-ends.result c.with_dropped-gone.result.items c.deref.result.now c.self.view_is c.self.invariant granted c.requires.last c.rounds-rounds.ensures.rounds c.deref.ensures.0 c.ends_after-ends.ensures c.with_dropped-gone.ensures in
    let value = sym (ap (λ (b : Agreement). b.granted) c.self.view_is) ∙ granted in
    c.in_ok-follow.ensures.ok ∙ (opens.view ∙ ap (λ g. record (open_granted (with_round c.args.self.now) g) { slots = c.args.self.now.slots + 1 }) (sym value))
