use Rattle.std.proofs.Common.{◌≡◌, ◌++◌, List, sym, ap, ◌∙◌}
use Rattle.std.specs.Borrow.{Bor}
use Rattle.net_model.specs.declared.journal.Stamped.{Stamped}
use Rattle.net_model.specs.Merges.{values_of}
use Rattle.net_model.proofs.Merging.{front_ends, back_ends}
use Rattle.net_model.proofs.merges.interleaved.Goals as goal
use Rattle.net_model.proofs.merges.interleaved.Goals.{then-loop-all-test+else-not-is_empty, else-loop-all-test}

pub returns : goal.returns
returns c =
    let all : List (Bor Stamped) = c.loop-all.all.items in
    let front : List (Bor Stamped) = c.loop-all.front.now in
    let back : List (Bor Stamped) = c.loop-all.back.now in
    let put : c.extend_from_slice-2.new.self.items ≡ (all ++ front) ++ back =
    c.in_ok-extend_from_slice-2.ensures.items ∙ ap (λ l. l ++ back) c.in_ok-extend_from_slice.ensures.items in
    ap values_of put
    ∙ elim c.loop-all-test.branch [
      | then-loop-all-test+else-not-is_empty w ↦ back_ends all front back (sym w.is_empty-in-loop-all.ensures ∙ w.if-not-is_empty.false)
      | else-loop-all-test w ↦ front_ends all front back (sym c.is_empty.ensures ∙ w.loop-all-test.false)
    ]
    ∙ c.loop-all.invariant
