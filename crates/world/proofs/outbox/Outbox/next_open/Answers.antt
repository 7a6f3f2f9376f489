use Rattle.std.proofs.Common.{◌≡◌, Bool, Some, false, length, refl, sym, ap, ◌∙◌, arith}
use Rattle.std.specs.List.{slice_get, position_from}
use Rattle.std.specs.Prelude.{not}
use Rattle.std.proofs.lemmas.Option.{slice_get_read}
use Rattle.world.specs.declared.outbox.Outbox.TheInside.{Inside}
use Rattle.world.proofs.Flags.{first_open, none_open}
use Rattle.world.proofs.outbox.Outbox.next_open.Goals as goal
use Rattle.world.proofs.outbox.Outbox.next_open.Goals.{then-loop-self-test+else-index, else-loop-self-test, then-self-len, else-self-len}

pub returns-clause-open : goal.returns-clause-open
returns-clause-open c =
    let flags = c.loop-self.self-inside.settled.items in
    let next = c.loop-self.self-inside.next in
    let kept : flags ≡ c.args.self.now = ap (λ (i : Inside). i.settled.items) c.loop-self.invariant.same ∙ c.self.view_is in
    let same = ap (position_from not 0) kept in
    elim c.if-self-len.branch [
      | then-self-len w ↦
          elim c.loop-self-test.branch [
            | then-loop-self-test+else-index v ↦
                let read : slice_get flags next ≡ Some v.index.result.now = slice_get_read flags (length flags) next v.index.result.now refl (omega arith) v.index.ensures in
                let clear : slice_get flags next ≡ Some false = read ∙ ap (λ (b : Bool). Some b) v.if-index.false in
                w.result-is ∙ sym (first_open flags next c.loop-self.invariant.below clear) ∙ same
            | else-loop-self-test v ↦ absurd (omega arith)
          ]
      | else-self-len w ↦ w.result-is ∙ sym (none_open flags next (omega arith) c.loop-self.invariant.below) ∙ same
    ]
