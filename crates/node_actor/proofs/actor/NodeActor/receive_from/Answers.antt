use Rattle.std.proofs.Common.{◌≡◌, true, length, arith, refl, sym, ap, ◌∙◌, subst}
use Rattle.std.proofs.lemmas.List.{with_items_is}
use Rattle.std.specs.Prelude.{vec_len}
use Rattle.std.specs.Vec.{with_items}
use Rattle.node_actor.specs.Cores.{Received}
use Rattle.node_actor.specs.Lanes.{links_of, lanes}
use Rattle.node_actor.proofs.Going.{push_received, is_none_some}
use Rattle.node_actor.proofs.actor.NodeActor.receive_from.Goals as goal

pub returns-in-Ok-true : goal.returns-in-Ok-true
returns-in-Ok-true g c =
    let self = c.args.self.now in
    let first = c.deref_mut.ensures in
    let second = c.deref_mut-in-Ok-true.ensures in
    let sent = c.receive.new.outs in
    let pushed = c.push_all.new.outs in
    let sent_len : length sent ≡ vec_len self.outs = omega (arith, c.receive.auto.outs, first.len) in
    let written = with_items_is self.outs sent sent_len in
    let pushed_len : length pushed ≡ vec_len self.outs = omega (arith, c.push_all.auto.outs, second.len) in
    let seen = second.value ∙ written in
    let one = subst (λ taken. Received taken g.N.NodeModel g.D.Disk c.args.from c.args.frame.now self.core c.receive.new.self c.deref_mut.result.now sent)
    c.in-Ok-true.field-0-test c.in-Ok-true.ensures.ok in
    let two = subst (λ outs. Received true g.N.NodeModel g.D.Disk c.args.from c.args.frame.now self.core c.receive.new.self outs sent) first.value one in
    let three = push_received g.N.NodeModel g.D.Disk c.args.from c.args.frame.now self.core c.receive.new.self self.outs.items sent pushed
    (c.push_all.ensures.links ∙ ap links_of seen) (λ faults. c.push_all.ensures.queued faults ∙ ap (λ outs. lanes outs faults) seen) two in
    record {
      ins = refl;
      outs = ap links_of (with_items_is (with_items self.outs sent) pushed pushed_len) ∙ c.push_all.ensures.links ∙ ap links_of seen
          ∙ c.receive.ensures.safely.1.links ∙ ap links_of first.value;
      goes = λ is.
          subst (Received true g.N.NodeModel g.D.Disk c.args.from c.args.frame.now self.core c.receive.new.self self.outs.items)
          (sym (with_items_is (with_items self.outs sent) pushed pushed_len)) three;
      going = λ is. c.requires.going;
      keeps = c.receive.ensures.safely.1.keeps;
      faulty = λ fails. absurd (is_none_some _ _ c.requires.going fails);
    }
