use Rattle.std.proofs.Common.{◌≡◌, ◌∷◌, [], Some, None, length, length-append, ap, sym, subst, ◌∙◌, arith}
use Rattle.node_rules.specs.Nodes.{agreed_by}
use Rattle.node_rules.specs.Turns.{Turn, turn_of}
use Rattle.consumer_node.specs.States.{ConsumerState, applied_of}
use Rattle.consumer_node.specs.Speculation.{apply_all}
use Rattle.consumer_node.specs.Sound.{held_for, IsConsumer}
use Rattle.consumer_node.proofs.Loops.{apply_next, apply_none}
use Rattle.consumer_node.proofs.Lives.{applied_sound, applied_room}
use Rattle.consumer_node.proofs.speculation.apply_all.Goals as goal

pub apply-requires : goal.apply-requires
apply-requires g c =
    let n = c.loop-rec.consumer in
    let held : held_for (agreed_by n.base) n.own (applied_of n.own) ≡ Some c.in-Some.rec = sym c.in_ok-rec.ensures ∙ c.in-Some.is in
    record { room = applied_room n c.in-Some.rec held c.loop-rec.invariant.sound }

pub loop-rec-smaller : goal.loop-rec-smaller
loop-rec-smaller g c =
    let n = c.loop-rec.consumer in
    let held : held_for (agreed_by n.base) n.own (applied_of n.own) ≡ Some c.in-Some.rec = sym c.in_ok-rec.ensures ∙ c.in-Some.is in
    let room = applied_room n c.in-Some.rec held c.loop-rec.invariant.sound in
    let more = ap (λ (t : Turn (ConsumerState g.row.A.Denot)). length t.state.own.pending) c.in_ok-apply.ensures in
    omega (arith, room, more, length-append n.own.pending (c.in-Some.rec ∷ []))

pub loop-rec-preserved : goal.loop-rec-preserved
loop-rec-preserved g c =
    let n = c.loop-rec.consumer in
    let held : held_for (agreed_by n.base) n.own (applied_of n.own) ≡ Some c.in-Some.rec = sym c.in_ok-rec.ensures ∙ c.in-Some.is in
    record {
      rest = ap apply_all c.in_ok-apply.ensures ∙ (apply_next (turn_of n c.loop-rec.out) c.in-Some.rec held ∙ c.loop-rec.invariant.rest);
      sound =
          subst (λ (t : Turn (ConsumerState g.row.A.Denot)). IsConsumer t.state) (sym c.in_ok-apply.ensures)
          (applied_sound n c.in-Some.rec held c.loop-rec.invariant.sound);
    }

pub returns-clause-turn : goal.returns-clause-turn
returns-clause-turn g c =
    let n = c.loop-rec.consumer in
    let none : held_for (agreed_by n.base) n.own (applied_of n.own) ≡ None = sym c.in_ok-rec.ensures ∙ c.in_default.is in
    apply_none (turn_of n c.loop-rec.out) none ∙ c.loop-rec.invariant.rest
