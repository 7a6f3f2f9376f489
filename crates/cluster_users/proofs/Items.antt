-- What a turn of a submitter does to its items and bodies.
use Rattle.std.proofs.Common.{◌≡◌, ℕ, suc, ◌+◌, List, [], ◌∷◌, ◌++◌, length, map, refl, sym}
use Rattle.std.proofs.Common.{ap, ◌∙◌, subst, append_assoc, append-nil, length-append, slice_get, Some, IsSomeAnd, arith}
use Rattle.std.specs.List.{AllByRecursion}
use mathlib.Core.List.{IsPrefix}
use Rattle.submit_desk.specs.declared.item.DeskItem.{DeskItem}
use Rattle.submit_desk.specs.declared.knows.Knows.{Knows}
use Rattle.submit_desk.specs.Passes.{DeskView, submitter}
use Rattle.submit_desk.specs.Rule.{IsCountedFrom}
use Rattle.cluster_users.specs.Submitting.{Submitting, AreItemsOf, HasDesk, Submits}

all_more : {A : Type 0} (P : A → Type 0) (xs : List A) (x : A) → AllByRecursion P xs → P x → AllByRecursion P (xs ++ x ∷ [])
all_more P [] x all last = (last, tt)
all_more P (y ∷ xs) x all last = (all.0, all_more P xs x all.1 last)

counted_more : (from : ℕ) (items : List DeskItem) (x : DeskItem) → IsCountedFrom from items → x.number ≡ from + length items
    → IsCountedFrom from (items ++ x ∷ [])
counted_more from [] x h e = (omega (arith, e), tt)
counted_more from (y ∷ items) x h e = (h.0, counted_more (suc from) items x h.1 (omega (arith, e)))

-- its next item is one of its own
pub next_item : (by : ℕ) (put : List DeskItem) (x : DeskItem) → AreItemsOf by put → x.by ≡ by → x.number ≡ length put → AreItemsOf by (put ++ x ∷ [])
next_item by put x own mine next = (all_more (λ (y : DeskItem). y.by ≡ by) put x own.0 mine, counted_more 0 put x own.1 (omega (arith, next)))

more_bodies : (put : List DeskItem) (x : DeskItem) (rest : List (List ℕ))
    → map (λ (y : DeskItem). y.body) (put ++ x ∷ []) ++ rest ≡ map (λ (y : DeskItem). y.body) put ++ x.body ∷ rest
more_bodies [] x rest = refl
more_bodies (y ∷ put) x rest = ap (λ l. y.body ∷ l) (more_bodies put x rest)

pub one_longer : {A : Type 0} (xs ys : List A) (x : A) → ys ≡ xs ++ x ∷ [] → length ys ≡ length xs + 1
one_longer xs ys x e = ap length e ∙ length-append xs (x ∷ [])

-- a turn that puts the next body on the desk
pub puts_next : (s t : Submitting) (x : DeskItem) → AreItemsOf s.number s.put → x.by ≡ s.number → x.number ≡ length s.put → s.held ≡ x.body ∷ t.held
    → (t.number ≡ s.number) × (t.client ≡ s.client) × (t.desk ≡ s.desk) → t.put ≡ s.put ++ x ∷ [] → Submits 1 s t
puts_next s t x own mine next held same put = record {
  same = same;
  items = subst (λ n. AreItemsOf n t.put) (sym same.0) (subst (AreItemsOf s.number) (sym put) (next_item s.number s.put x own mine next));
  goes_on = (x ∷ [], sym put);
  bodies = ap (λ l. map (λ (y : DeskItem). y.body) l ++ t.held) put ∙ more_bodies s.put x t.held
      ∙ ap (λ l. map (λ (y : DeskItem). y.body) s.put ++ l) (sym held);
  few = omega (arith, one_longer s.put t.put x put);
}

-- the same, of a submitter that is seen so
pub puts_next_of : (r s t : Submitting) (x : DeskItem) → s ≡ r → AreItemsOf s.number s.put → x.by ≡ s.number → x.number ≡ length s.put
    → s.held ≡ x.body ∷ t.held
    → (t.number ≡ s.number) × (t.client ≡ s.client) × (t.desk ≡ s.desk) → t.put ≡ s.put ++ x ∷ [] → Submits 1 r t
puts_next_of r s t x seen own mine next held same put = subst (λ u. Submits 1 u t) seen (puts_next s t x own mine next held same put)

-- its pass is its own after one item more
pub still_submits : (by : ℕ) (k l : Knows) (x : DeskItem) → k ≡ submitter by k.put → l ≡ submitter k.by (k.put ++ x ∷ []) → l ≡ submitter by l.put
still_submits by k l x own e =
    let mine : k.by ≡ by = ap (λ (v : Knows). v.by) own in
    let put : l.put ≡ k.put ++ x ∷ [] = ap (λ (v : Knows). v.put) e in
    e ∙ ap (λ n. submitter n (k.put ++ x ∷ [])) mine ∙ ap (submitter by) (sym put)

-- the desk that is found is the one of its pass
pub desk_found : (desks : List DeskView) (s : Submitting) (d : DeskView) → HasDesk desks s → slice_get desks s.client ≡ Some d → s.desk ≡ d.desk
desk_found desks s d has found = sym (subst (λ o. IsSomeAnd o (λ (e : DeskView). e.desk ≡ s.desk)) found has)

-- a turn that puts nothing there
pub puts_nothing : (turns : ℕ) (s t : Submitting) → AreItemsOf s.number s.put → t ≡ s → Submits turns s t
puts_nothing turns s t own e = subst (λ u. Submits turns s u) (sym e) (record {
  same = (refl, refl, refl);
  items = own;
  goes_on = ([], append-nil s.put);
  bodies = refl;
  few = omega arith;
})

pub prefix_trans : {A : Type 0} (xs ys zs : List A) → IsPrefix xs ys → IsPrefix ys zs → IsPrefix xs zs
prefix_trans xs ys zs p q = (p.0 ++ q.0, sym (append_assoc xs p.0 q.0) ∙ ap (λ l. l ++ q.0) p.1 ∙ q.1)
