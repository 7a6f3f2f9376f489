-- Marks of all nodes and marks of one: where a mark that was shown stands among its node's, and what holds there.
use Rattle.std.proofs.Common.{◌≡◌, ◌∙◌, Bool, true, false, List, [], ◌∷◌, ◌++◌, Contains, append_assoc, append-nil, sym, ap, subst, inl, inr, arith, if◌then◌else◌}
use Rattle.std.proofs.lemmas.List.Elements.{Contains-append_left, Contains-append_right, Contains-append_cases}
use Rattle.majority.proofs.Lists.{Contains_cases}
use Rattle.msg_wire.specs.Nodes.{same_node}
use Rattle.net_model.specs.Pasts.{Past, shown, marks_of, marks_at}
use Rattle.runs.specs.Names.{NodeId, Mark, HistoryEntry}
use Rattle.runs.specs.Marks.{IsPrefix, EachAfter}
use Rattle.runs.specs.Speculating.{ShowsAfter}
use Rattle.runs.proofs.SameNodes.{node_itself}

-- ---- lists

-- a member of a list stands after the members before it
pub member_stands : {A : Type 0} (x : A) (xs : List A) → Contains xs x → (front : List A) × IsPrefix (front ++ x ∷ []) xs
member_stands x [] c = absurd (omega (arith, c.1))
member_stands {A} x (y ∷ xs) c = elim (Contains_cases y x xs c) [
  | inl same ↦ ([], (xs, ap (λ z. z ∷ xs) same))
  | inr later ↦ let at = member_stands x xs later in (y ∷ at.0, (at.1.0, ap (λ zs. y ∷ zs) at.1.1))
]

-- what begins a list begins a longer one
pub prefix_grows : {A : Type 0} (front whole more : List A) → IsPrefix front whole → IsPrefix front (whole ++ more)
prefix_grows front whole more p = (p.0 ++ more, ap (λ xs. xs ++ more) p.1 ∙ append_assoc front p.0 more)

pub prefix_after : {A : Type 0} (before front whole : List A) → IsPrefix front whole → IsPrefix (before ++ front) (before ++ whole)
prefix_after before front whole p = (p.0, ap (λ xs. before ++ xs) p.1 ∙ sym (append_assoc before front p.0))

-- the members of what begins a list are the list's
pub prefix_holds : {A : Type 0} (front whole : List A) (x : A) → IsPrefix front whole → Contains front x → Contains whole x
prefix_holds front whole x p c = subst (λ xs. Contains xs x) (sym p.1) (Contains-append_left front p.0 x c)

-- what holds of each member, given the earlier ones, holds of one that stands there
each_of : {A : Type 0} (P : List A → A → Type 0) (before front rest : List A) (x : A) → EachAfter P before (front ++ x ∷ rest) → P (before ++ front) x
each_of P before [] rest x each = subst (λ xs. P xs x) (sym (append-nil before)) each.0
each_of P before (y ∷ front) rest x each = subst (λ xs. P xs x) (append_assoc before (y ∷ []) front) (each_of P (before ++ y ∷ []) front rest x each.1)

pub each_at : {A : Type 0} (P : List A → A → Type 0) (front whole : List A) (x : A) → IsPrefix (front ++ x ∷ []) whole → EachAfter P [] whole → P front x
each_at P front whole x p each =
    each_of P [] front p.0 x (subst (λ xs. EachAfter P [] xs) (p.1 ∙ append_assoc front (x ∷ []) p.0) each)

-- ---- marks

-- an entry's marks, where it is the node's
pub own_marks : (e : HistoryEntry) (node : NodeId) → same_node e.node node ≡ true → marks_at node e ≡ e.marks
own_marks e node own = ap (λ (b : Bool). if b then e.marks else []) own

-- a node's marks are shown
marks_if_shown : (own : Bool) (shown : List Mark) (mark : Mark) → Contains (if own then shown else []) mark → Contains shown mark
marks_if_shown true shown mark c = c
marks_if_shown false shown mark c = absurd (omega (arith, c.1))

pub marks_are_shown : (node : NodeId) (past : Past) (mark : Mark) → Contains (marks_of node past) mark → Contains (shown past) mark
marks_are_shown node [] mark c = c
marks_are_shown node (e ∷ past) mark c = elim (Contains-append_cases (marks_of node past) (marks_at node e) mark c) [
  | inl earlier ↦ Contains-append_left (shown past) e.marks mark (marks_are_shown node past mark earlier)
  | inr now ↦ Contains-append_right (shown past) e.marks mark (marks_if_shown (same_node e.node node) e.marks mark now)
]

-- a mark that is shown stands among the marks of a node
pub shown_by : (past : Past) (mark : Mark) → Contains (shown past) mark → (node : NodeId) × (earlier : List Mark) × ShowsAfter past node earlier mark
shown_by [] mark c = absurd (omega (arith, c.1))
shown_by (e ∷ past) mark c = elim (Contains-append_cases (shown past) e.marks mark c) [
  | inl before ↦
      let by = shown_by past mark before in
      (by.0, by.1, prefix_grows (by.1 ++ mark ∷ []) (marks_of by.0 past) (marks_at by.0 e) by.2)
  | inr now ↦
      let at = member_stands mark e.marks now in
      let whole : IsPrefix (at.0 ++ mark ∷ []) (marks_at e.node e) =
      subst (λ ms. IsPrefix (at.0 ++ mark ∷ []) ms) (sym (own_marks e e.node (node_itself e.node))) at.1 in
      let stands = prefix_after (marks_of e.node past) (at.0 ++ mark ∷ []) (marks_at e.node e) whole in (
        e.node,
        marks_of e.node past ++ at.0,
        subst (λ front. IsPrefix front (marks_of e.node (e ∷ past))) (sym (append_assoc (marks_of e.node past) at.0 (mark ∷ []))) stands,
      )
]
