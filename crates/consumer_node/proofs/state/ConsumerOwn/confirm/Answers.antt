use Rattle.std.proofs.Common.{◌+◌, List, length, refl, ap, sym, subst, ◌∙◌}
use Rattle.output_gate.specs.declared.kept.KeptOut.{KeptOut}
use Rattle.consumer_node.specs.Apps.{meaning}
use Rattle.consumer_node.specs.Speculation.{with_confirmed}
use Rattle.consumer_node.specs.inside.Confirming.{HasOutput}
use Rattle.consumer_node.proofs.Keeping.{has_confirmed, has_released, state_made}
use Rattle.consumer_node.proofs.Floors.{lanes_raise}
use Rattle.consumer_node.proofs.state.ConsumerOwn.confirm.Goals as goal

pub release-output-requires : goal.release-output-requires
release-output-requires g c =
    let s = c.self.inside in
    let released = has_released g.A.App.next_state g.A.App.output_of g.A.App.restored s.undos s.gate s.app c.in_ok-rec.rec s.pending.items c.pop_front.new.self.items s.confirmed (s.confirmed + 1) c.self.invariant.0 refl c.in_ok-rec.ensures.items in
    ap length released.one

pub invariant_of-self-2 : goal.invariant_of-self-2
invariant_of-self-2 g c =
    let s = c.self.inside in
    let few = rw (sym c.self.view_is) at c.requires.more in
    let made = has_confirmed g.A.App.next_state g.A.App.output_of g.A.App.restored s.undos c.forget_below.new.self s.gate c.release-output.new.gate s.app c.in_ok-rec.rec s.pending.items c.pop_front.new.self.items s.confirmed (s.confirmed + 1)
    c.self.invariant.0 few refl c.in_ok-rec.ensures.items c.forget_below.ensures c.release-output.ensures.gate in
    (made.0, rw c.raise.ensures (lanes_raise s.confirmed s.buffer c.args.owner.shard c.self.invariant.1))

pub returns : goal.returns
returns g c =
    let s = c.self.inside in
    let app = meaning g.A.App.fresh_state g.A.App.next_state g.A.App.output_of in
    let few = rw (sym c.self.view_is) at c.requires.more in
    let made = has_confirmed g.A.App.next_state g.A.App.output_of g.A.App.restored s.undos c.forget_below.new.self s.gate c.release-output.new.gate s.app c.in_ok-rec.rec s.pending.items c.pop_front.new.self.items s.confirmed (s.confirmed + 1)
    c.self.invariant.0 few refl c.in_ok-rec.ensures.items c.forget_below.ensures c.release-output.ensures.gate in
    let released = has_released g.A.App.next_state g.A.App.output_of g.A.App.restored s.undos s.gate s.app c.in_ok-rec.rec s.pending.items c.pop_front.new.self.items s.confirmed (s.confirmed + 1) c.self.invariant.0 refl c.in_ok-rec.ensures.items in
    let has = subst (λ (kept : List KeptOut). HasOutput kept c.release-output.result) released.one c.release-output.ensures.output in
    record {
      state = state_made _ _ _ _ _ _ _ _ c.raise.ensures refl made.1 c.in_ok-rec.ensures.rest ∙ ap (with_confirmed app c.in_ok-rec.rec c.args.owner) c.self.view_is;
      oldest = ap (λ own. own.pending) (sym c.self.view_is) ∙ c.in_ok-rec.ensures.items;
      gives = has.0 ∙ (released.gives ∙ ap (λ own. g.A.App.output_of own.base c.in_ok-rec.rec) c.self.view_is);
      short = has.1;
    }
