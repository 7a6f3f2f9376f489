-- What one item more does to the items of a submitter, and to their numbers.
use Rattle.std.proofs.Common.{◌≡◌, ◌≢◌, ℕ, suc, ◌+◌, ◌==◌, cond, List, [], ◌∷◌, ◌++◌, length, refl, sym, ap, ◌∙◌, subst, append-nil, eq-eqb, ne_eqb, arith}
use native.Mathlib.Decide.{ℕ_discrete}
use Rattle.std.proofs.lemmas.List.Elements.{filter-append}
use Rattle.submit_desk.specs.declared.item.DeskItem.{DeskItem}
use Rattle.submit_desk.specs.Passes.{items_of}
use Rattle.submit_desk.specs.Rule.{IsCountedFrom, IsCounted}

pub items_of_append : (by : ℕ) (xs ys : List DeskItem) → items_of by (xs ++ ys) ≡ items_of by xs ++ items_of by ys
items_of_append by xs ys = filter-append (λ (x : DeskItem). x.by == by) xs ys

-- an item is the first of its submitter's where it stands first
pub items_of_own : (by : ℕ) (x : DeskItem) (xs : List DeskItem) → x.by ≡ by → items_of by (x ∷ xs) ≡ x ∷ items_of by xs
items_of_own by x xs own = ap (λ b. cond b (x ∷ items_of by xs) (items_of by xs)) (eq-eqb x.by by own)

-- and none of another's
pub items_of_other : (by : ℕ) (x : DeskItem) (xs : List DeskItem) → x.by ≢ by → items_of by (x ∷ xs) ≡ items_of by xs
items_of_other by x xs other = ap (λ b. cond b (x ∷ items_of by xs) (items_of by xs)) (ne_eqb x.by by other)

pub items_of_grow : (by : ℕ) (all : List DeskItem) (x : DeskItem) → x.by ≡ by → items_of by (all ++ x ∷ []) ≡ items_of by all ++ x ∷ []
items_of_grow by all x own = items_of_append by all (x ∷ []) ∙ ap (λ l. items_of by all ++ l) (items_of_own by x [] own)

pub items_of_stay : (by : ℕ) (all : List DeskItem) (x : DeskItem) → x.by ≢ by → items_of by (all ++ x ∷ []) ≡ items_of by all
items_of_stay by all x other =
    items_of_append by all (x ∷ []) ∙ ap (λ l. items_of by all ++ l) (items_of_other by x [] other) ∙ append-nil (items_of by all)

counted_push : (from : ℕ) (items : List DeskItem) (x : DeskItem) → IsCountedFrom from items → x.number ≡ from + length items
    → IsCountedFrom from (items ++ x ∷ [])
counted_push from [] x h e = (omega (arith, e), tt)
counted_push from (y ∷ items) x h e = (h.0, counted_push (suc from) items x h.1 (omega (arith, e)))

counted_at : (from : ℕ) (front : List DeskItem) (x : DeskItem) (rest : List DeskItem) → IsCountedFrom from (front ++ x ∷ rest)
    → x.number ≡ from + length front
counted_at from [] x rest h = omega (arith, h.0)
counted_at from (y ∷ front) x rest h = omega (arith, counted_at (suc from) front x rest h.1)

-- the next item of a submitter keeps the count
pub IsCounted_push : (all : List DeskItem) (x : DeskItem) → IsCounted all → x.number ≡ length (items_of x.by all) → IsCounted (all ++ x ∷ [])
IsCounted_push all x h e by = decided (ℕ_discrete x.by by)
  where
    decided : Dec (x.by ≡ by) → IsCountedFrom 0 (items_of by (all ++ x ∷ []))
    decided (yes own) = subst (IsCountedFrom 0) (sym (items_of_grow by all x own))
        (counted_push 0 (items_of by all) x (h by) (omega (arith, e ∙ ap (λ b. length (items_of b all)) own)))
    decided (no other) = subst (IsCountedFrom 0) (sym (items_of_stay by all x other)) (h by)

parted : (got : List DeskItem) (x : DeskItem) (items : List DeskItem) → items_of x.by (got ++ x ∷ items) ≡ items_of x.by got ++ x ∷ items_of x.by items
parted got x items = items_of_append x.by got (x ∷ items) ∙ ap (λ l. items_of x.by got ++ l) (items_of_own x.by x items refl)

-- an item's number is the count of its submitter's items before it
pub IsCounted_at : (all got : List DeskItem) (x : DeskItem) (items : List DeskItem) → IsCounted all → all ≡ got ++ x ∷ items
    → x.number ≡ length (items_of x.by got)
IsCounted_at all got x items h e =
    omega (arith, counted_at 0 (items_of x.by got) x (items_of x.by items) (subst (IsCountedFrom 0) (ap (items_of x.by) e ∙ parted got x items) (h x.by)))

filled : (front : List DeskItem) (x : DeskItem) (rest : List DeskItem) → front ++ x ∷ rest ≢ []
filled [] x rest e = let n : suc (length rest) ≡ 0 = ap length e in absurd (omega arith)
filled (y ∷ front) x rest e = let n : suc (length (front ++ x ∷ rest)) ≡ 0 = ap length e in absurd (omega arith)

-- the submitter of an item has items
pub items_of_some : (all got : List DeskItem) (x : DeskItem) (items : List DeskItem) → all ≡ got ++ x ∷ items → items_of x.by all ≢ []
items_of_some all got x items e none =
    filled (items_of x.by got) x (items_of x.by items) (sym (ap (items_of x.by) e ∙ parted got x items) ∙ none)
