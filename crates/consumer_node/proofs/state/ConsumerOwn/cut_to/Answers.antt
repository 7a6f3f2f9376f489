use Rattle.std.proofs.Common.{◌-◌, take, refl, ap, ◌∙◌}
use Rattle.consumer_node.specs.States.{cut_off}
use Rattle.consumer_node.proofs.Keeping.{has_cut, state_made}
use Rattle.consumer_node.proofs.state.ConsumerOwn.cut_to.Goals as goal

pub invariant_of-self : goal.invariant_of-self
invariant_of-self g c =
    let s = c.self.inside in
    let kept = c.self.invariant.0 in
    let back = c.back_to.ensures.before _ s.pending.items kept.gave kept.state in
    let made = has_cut g.A.App.next_state g.A.App.output_of g.A.App.restored s.undos c.back_to.new.self s.gate c.drop_from.new.self s.app c.back_to.new.app s.pending.items c.truncate.new.self.items s.confirmed c.args.first c.saturating_sub-stay.result
    kept c.saturating_sub-stay.ensures back c.back_to.ensures.points c.drop_from.ensures c.truncate.ensures.items in
    (made.0, c.self.invariant.1)

pub returns : goal.returns
returns g c =
    let s = c.self.inside in
    let kept = c.self.invariant.0 in
    let back = c.back_to.ensures.before _ s.pending.items kept.gave kept.state in
    let made = has_cut g.A.App.next_state g.A.App.output_of g.A.App.restored s.undos c.back_to.new.self s.gate c.drop_from.new.self s.app c.back_to.new.app s.pending.items c.truncate.new.self.items s.confirmed c.args.first c.saturating_sub-stay.result
    kept c.saturating_sub-stay.ensures back c.back_to.ensures.points c.drop_from.ensures c.truncate.ensures.items in
    state_made s.buffer s.buffer s.confirmed s.confirmed _ _ _ _ refl refl made.1 (c.truncate.ensures.items ∙ ap (λ n. take n s.pending.items) c.saturating_sub-stay.ensures) ∙ ap (cut_off c.args.first) c.self.view_is
