-- How many readers a consumer has, and that each has a pass, as one reader after the other is taken.
use Rattle.std.proofs.Common.{◌≡◌, ◌==◌, ℕ, zero, suc, ◌+◌, ◌<◌, List, [], ◌∷◌}
use Rattle.std.proofs.Common.{◌++◌, length, map, take, get_or, set, drop, refl, sym, ap, ◌∙◌, subst, arith}
use Rattle.std.specs.List.{AllByRecursion}
use Rattle.std.proofs.lemmas.List.{drop_more}
use Rattle.std.proofs.lemmas.Bool.{eq-eqb, ne_eqb}
use Rattle.view_cell.specs.Ends.{Watching}
use Rattle.plan_views.specs.Views.{AreCounted, count_of, one_if}

pub count_next : (consumer : ℕ) (readers : List ℕ) (n : ℕ) → n < length readers
    → count_of consumer (take (n + 1) readers) ≡ count_of consumer (take n readers) + one_if (get_or readers n 0 == consumer)
count_next consumer [] n below = absurd (omega (arith, below))
count_next consumer (of ∷ readers) zero below = omega arith
count_next consumer (of ∷ readers) (suc n) below =
    let one : suc n + 1 ≡ suc (n + 1) = omega arith in
    let later = count_next consumer readers n (omega (arith, below)) in
    ap (λ m. count_of consumer (take m (of ∷ readers))) one ∙ omega (arith, later)

itself : (of : ℕ) → one_if (of == of) ≡ 1
itself of = ap one_if (eq-eqb of of refl)

another : (of consumer : ℕ) → (of ≡ consumer → ⊥) → one_if (of == consumer) ≡ 0
another of consumer apart = ap one_if (ne_eqb of consumer apart)

-- a reader of another consumer is of no matter to these
counted_other : (of : ℕ) (readers : List ℕ) (from : ℕ) (all : List (List Watching)) → of < from → AreCounted from (of ∷ readers) all
    → AreCounted from readers all
counted_other of readers from [] below are = tt
counted_other of readers from (passes ∷ later) below are =
    let none = another of from (λ same. omega (arith, below, same)) in
    let here = are.0 in
    (omega (arith, here, none), counted_other of readers (suc from) later (omega (arith, below)) are.1)

-- the consumer of the next reader has a pass
counted_here : {X : Type 0} (f : X → List Watching) (of : ℕ) (readers : List ℕ) (from k : ℕ) (xs : List X) (d : X)
    → AreCounted from (of ∷ readers) (map f xs)
    → of ≡ from + k → k < length xs → 0 < length (f (get_or xs k d))
counted_here f of readers from k [] d are at below = absurd (omega (arith, below))
counted_here f of readers from zero (x ∷ xs) d are at below =
    let one = itself of in
    let same : of ≡ from = omega (arith, at) in
    let this : one_if (of == from) ≡ one_if (of == of) = ap (λ n. one_if (of == n)) (sym same) in
    let here = are.0 in
    omega (arith, here, one, this)
counted_here f of readers from (suc k) (x ∷ xs) d are at below = counted_here f of readers (suc from) k xs d are.1 (omega (arith, at)) (omega (arith, below))

-- once it was taken, the later readers have theirs
counted_set : {X : Type 0} (f : X → List Watching) (of : ℕ) (readers : List ℕ) (from k : ℕ) (xs : List X) (d y : X)
    → AreCounted from (of ∷ readers) (map f xs)
    → of ≡ from + k → length (f y) + 1 ≡ length (f (get_or xs k d)) → AreCounted from readers (map f (set xs k y))
counted_set f of readers from k [] d y are at less = tt
counted_set f of readers from zero (x ∷ xs) d y are at less =
    let one = itself of in
    let same : of ≡ from = omega (arith, at) in
    let this : one_if (of == from) ≡ one_if (of == of) = ap (λ n. one_if (of == n)) (sym same) in
    let here = are.0 in
    (omega (arith, here, one, this, less), counted_other of readers (suc from) (map f xs) (omega (arith, same)) are.1)
counted_set f of readers from (suc k) (x ∷ xs) d y are at less =
    let none = another of from (λ same. omega (arith, at, same)) in
    let here = are.0 in
    (omega (arith, here, none), counted_set f of readers (suc from) k xs d y are.1 (omega (arith, at)) less)

-- one consumer more
counted_push : {X : Type 0} (f : X → List Watching) (readers : List ℕ) (from : ℕ) (xs : List X) (x : X) → AreCounted from readers (map f xs)
    → length (f x) ≡ count_of (from + length xs) readers → AreCounted from readers (map f (xs ++ x ∷ []))
counted_push f readers from [] x are is = let at : from + 0 ≡ from = omega arith in (is ∙ ap (λ n. count_of n readers) at, tt)
counted_push f readers from (y ∷ xs) x are is =
    let at : from + suc (length xs) ≡ suc from + length xs = omega arith in
    (are.0, counted_push f readers (suc from) xs x are.1 (is ∙ ap (λ n. count_of n readers) at))

pub counted_more : {X : Type 0} (f : X → List Watching) (readers : List ℕ) (xs : List X) (x : X) (more : List X) → more ≡ xs ++ x ∷ []
    → AreCounted 0 readers (map f xs)
    → length (f x) ≡ count_of (0 + length xs) readers → AreCounted 0 readers (map f more)
counted_more {X = X} f readers xs x more is are count =
    subst (λ (l : List X). AreCounted 0 readers (map f l)) (sym is) (counted_push f readers 0 xs x are count)

-- ---- the next of some readers

next_counted : (readers : List ℕ) (n k : ℕ) (all : List (List Watching)) → n < length readers → k ≡ get_or readers n 0 → AreCounted 0 (drop n readers) all
    → AreCounted 0 (k ∷ drop (n + 1) readers) all
next_counted readers n k all below is are =
    let rest = drop_more readers n 0 below ∙ ap (λ i. i ∷ drop (n + 1) readers) (sym is) in
    subst (λ (l : List ℕ). AreCounted 0 l all) rest are

pub counted_at : {X : Type 0} (f : X → List Watching) (readers : List ℕ) (n k : ℕ) (xs : List X) (x : X) → n < length readers → k ≡ get_or readers n 0
    → AreCounted 0 (drop n readers) (map f xs) → k < length xs → x ≡ get_or xs k x → 0 < length (f x)
counted_at {X = X} f readers n k xs x below is are within there =
    let at : k ≡ 0 + k = omega arith in
    subst (λ (u : X). 0 < length (f u)) (sym there)
    (counted_here f k (drop (n + 1) readers) 0 k xs x (next_counted readers n k (map f xs) below is are) at within)

pub counted_next : {X : Type 0} (f : X → List Watching) (readers : List ℕ) (n k : ℕ) (xs : List X) (x y : X) → n < length readers → k ≡ get_or readers n 0
    → AreCounted 0 (drop n readers) (map f xs) → x ≡ get_or xs k x → length (f y) + 1 ≡ length (f x)
    → AreCounted 0 (drop (n + 1) readers) (map f (set xs k y))
counted_next f readers n k xs x y below is are there less =
    let at : k ≡ 0 + k = omega arith in
    counted_set f k (drop (n + 1) readers) 0 k xs x y (next_counted readers n k (map f xs) below is are) at (less ∙ ap (λ u. length (f u)) there)

pub place_below : (most : ℕ) (readers : List ℕ) (n place : ℕ) → AllByRecursion (λ (consumer : ℕ). consumer < most) readers → n < length readers
    → place ≡ get_or readers n 0 → place < most
place_below most [] n place all below is = absurd (omega (arith, below))
place_below most (of ∷ readers) zero place all below is = let low = all.0 in omega (arith, low, is)
place_below most (of ∷ readers) (suc n) place all below is = place_below most readers n place all.1 (omega (arith, below)) is

-- ---- counting on

pub counts_it : (consumer of : ℕ) (readers : List ℕ) (n count next : ℕ) → n < length readers → of ≡ get_or readers n 0
    → count ≡ count_of consumer (take n readers)
    → of ≡ consumer → next ≡ count + 1 → next ≡ count_of consumer (take (n + 1) readers)
counts_it consumer of readers n count next below is so_far same up =
    let more = count_next consumer readers n below in
    let one : one_if (get_or readers n 0 == consumer) ≡ 1 = ap one_if (eq-eqb (get_or readers n 0) consumer (sym is ∙ same)) in
    omega (arith, more, one, so_far, up)

pub counts_other : (consumer of : ℕ) (readers : List ℕ) (n count next : ℕ) → n < length readers → of ≡ get_or readers n 0
    → count ≡ count_of consumer (take n readers)
    → (of ≡ consumer → ⊥) → next ≡ count → next ≡ count_of consumer (take (n + 1) readers)
counts_other consumer of readers n count next below is so_far apart same =
    let more = count_next consumer readers n below in
    let none : one_if (get_or readers n 0 == consumer) ≡ 0 = ap one_if (ne_eqb (get_or readers n 0) consumer (λ at. apart (is ∙ at))) in
    omega (arith, more, none, so_far, same)
