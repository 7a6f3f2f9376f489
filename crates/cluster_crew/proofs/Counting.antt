-- Counts of marks grow with the marks, and a view that is published tells them.
use Rattle.std.proofs.Common.{◌≡◌, ◌⊎◌, inl, inr, ◌<◌, List, [], ◌∷◌, ◌++◌, Option, refl, sym, ap, ◌∙◌, arith}
use Rattle.view_cell.specs.Ends.{Showing}
use Rattle.net_model.specs.declared.journal.Stamped.{Stamped}
use Rattle.net_model.specs.Names.{Mark}
use Rattle.msg_wire.specs.declared.mark.Mark.TheVariants as marks
use Rattle.cluster_crew.specs.declared.marks.Counts.{Counts}
use Rattle.net_model.specs.declared.viewed.View.{View}
use Rattle.cluster_crew.specs.Marks.{with_mark, with_marks, with_steps, counts_in}
use Rattle.cluster_crew.specs.Shown.{Publishes}

mark_more : (c : Counts) (m : Mark) → c.ops < (with_mark c m).ops
mark_more c (marks.Notice first) = omega arith
mark_more c (marks.Apply position rec) = omega arith
mark_more c (marks.Undo first) = omega arith
mark_more c (marks.Confirm position rec) = omega arith
mark_more c (marks.Out bytes) = omega arith
mark_more c (marks.Promise position rec) = omega arith
mark_more c (marks.Ack number position) = omega arith

-- no mark, or more than before
marks_more : (c : Counts) (ms : List Mark) → (with_marks c ms ≡ c) ⊎ (c.ops < (with_marks c ms).ops)
marks_more c [] = inl refl
marks_more c (m ∷ ms) = inr (more (marks_more (with_mark c m) ms)) where
  more : (with_marks (with_mark c m) ms ≡ with_mark c m) ⊎ ((with_mark c m).ops < (with_marks (with_mark c m) ms).ops)
      → c.ops < (with_marks (with_mark c m) ms).ops
  more (inl same) = let one = mark_more c m in let is = ap (λ (d : Counts). d.ops) same in omega (arith, one, is)
  more (inr later) = let one = mark_more c m in omega (arith, one, later)

pub steps_more : (c : Counts) (xs : List Stamped) → (with_steps c xs ≡ c) ⊎ (c.ops < (with_steps c xs).ops)
steps_more c [] = inl refl
steps_more c (x ∷ xs) = both (marks_more c x.entry.marks) (steps_more (with_marks c x.entry.marks) xs) where
  both : (with_marks c x.entry.marks ≡ c) ⊎ (c.ops < (with_marks c x.entry.marks).ops)
      → (with_steps (with_marks c x.entry.marks) xs ≡ with_marks c x.entry.marks)
      ⊎ ((with_marks c x.entry.marks).ops < (with_steps (with_marks c x.entry.marks) xs).ops)
      → (with_steps (with_marks c x.entry.marks) xs ≡ c) ⊎ (c.ops < (with_steps (with_marks c x.entry.marks) xs).ops)
  both (inl one) (inl later) = inl (later ∙ one)
  both (inl one) (inr later) = let is = ap (λ (d : Counts). d.ops) one in inr (omega (arith, is, later))
  both (inr one) (inl later) = let is = ap (λ (d : Counts). d.ops) later in inr (omega (arith, is, one))
  both (inr one) (inr later) = inr (omega (arith, one, later))

pub steps_append : (c : Counts) (xs ys : List Stamped) → with_steps c (xs ++ ys) ≡ with_steps (with_steps c xs) ys
steps_append c [] ys = refl
steps_append c (x ∷ xs) ys = steps_append (with_marks c x.entry.marks) xs ys

-- the newest look tells the counts by which it was published
pub published_counts : (view : Option View) (c : Counts) (before after : Showing) → Publishes view c before after
    → (c ≡ counts_in before.newest) ⊎ (before.newest.ops < c.ops) → counts_in after.newest ≡ c
published_counts view c before after shows (inl same) =
    let is = ap (λ (d : Counts). d.ops) same in
    ap (λ (p : Showing). counts_in p.newest) (shows.none (omega (arith, is))) ∙ sym same
published_counts view c before after shows (inr more) = let (v, there, is) = shows.more more in ap (λ (p : Showing). counts_in p.newest) is
