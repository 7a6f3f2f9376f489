use Rattle.std.proofs.Common.{◌≡◌, ◌+◌, ◌++◌, ◌∷◌, [], length, refl, ap, sym, ◌∙◌, arith}
use Rattle.consumer_node.specs.States.{with_pending}
use Rattle.consumer_node.proofs.Keeping.{kept_room, has_applied, state_made}
use Rattle.consumer_node.proofs.state.ConsumerOwn.apply.Goals as goal

pub keep-requires : goal.keep-requires
keep-requires g c =
    let s = c.self.inside in
    let few = rw (sym c.self.view_is) at c.requires.room in
    let size : c.len.result ≡ length s.pending.items = omega (arith, c.len.ensures, c.in_ok-reserve.ensures.len, s.pending.ok.0) in
    rw size (kept_room g.A.App.next_state g.A.App.output_of g.A.App.restored _ s.undos s.gate s.app s.pending.items s.confirmed c.self.invariant.0 few)

pub invariant_of-self-2 : goal.invariant_of-self-2
invariant_of-self-2 g c =
    let size : c.len.result ≡ length c.self.inside.pending.items = omega (arith, c.len.ensures, c.in_ok-reserve.ensures.len, c.self.inside.pending.ok.0) in
    let longer = c.push_back_reserved.ensures.items ∙ ap (λ recs. recs ++ c.args.rec ∷ []) c.in_ok-reserve.ensures.items in
    let made = has_applied g.A.App.next_state g.A.App.output_of g.A.App.restored _ _ _ _ _ _ _ _ _ _ _ _ _ c.self.invariant.0 (rw (sym c.self.view_is) at c.requires.room) (ap (λ n. c.self.inside.confirmed + n) size) c.apply-undo.ensures.next c.apply-undo.ensures.undo c.apply-undo.ensures.output c.apply-undo.ensures.short c.keep.ensures.undos c.keep.ensures.gate longer in
    (made.0, c.self.invariant.1)

pub returns-clause-ok : goal.returns-clause-ok
returns-clause-ok g c =
    let size : c.len.result ≡ length c.self.inside.pending.items = omega (arith, c.len.ensures, c.in_ok-reserve.ensures.len, c.self.inside.pending.ok.0) in
    let longer = c.push_back_reserved.ensures.items ∙ ap (λ recs. recs ++ c.args.rec ∷ []) c.in_ok-reserve.ensures.items in
    let made = has_applied g.A.App.next_state g.A.App.output_of g.A.App.restored _ _ _ _ _ _ _ _ _ _ _ _ _ c.self.invariant.0 (rw (sym c.self.view_is) at c.requires.room) (ap (λ n. c.self.inside.confirmed + n) size) c.apply-undo.ensures.next c.apply-undo.ensures.undo c.apply-undo.ensures.output c.apply-undo.ensures.short c.keep.ensures.undos c.keep.ensures.gate longer in
    state_made _ _ _ _ _ _ _ _ refl refl made.1 longer ∙ ap (λ own. with_pending (own.pending ++ c.args.rec ∷ []) own) c.self.view_is
