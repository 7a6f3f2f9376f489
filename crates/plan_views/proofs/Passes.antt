-- Passes that wait at their views, and readers that take them.
use Rattle.std.proofs.Common.{◌≡◌, ℕ, zero, suc, ◌+◌, ◌<◌, List, [], ◌∷◌, ◌++◌, length, map, take, get_or, set, Some, refl, sym, ap, ◌∙◌, subst, arith}
use Rattle.std.specs.Prelude.{remove, slice_get}
use Rattle.std.specs.List.{All, AllZip}
use Rattle.std.proofs.lemmas.List.Elements.{recursion_from_All}
use Rattle.view_cell.specs.declared.look.Look.{Look}
use Rattle.view_cell.specs.Ends.{Showing, Watching, opened_at, watching_at}
use Rattle.cluster_users.specs.Reading.{Reading, reading}
use Rattle.plan_views.specs.Views.{AreWatching, WaitAt}

pub wait_from : (p : Showing) (opening : Look) (passes : List Watching) → p ≡ opened_at p.cell opening
    → All (λ (pass : Watching). pass ≡ watching_at p.cell opening) passes
    → WaitAt p passes
wait_from p opening passes is all =
    let newest : opening ≡ p.newest = sym (ap (λ (v : Showing). v.newest) is) in
    recursion_from_All (λ (pass : Watching). pass ≡ watching_at p.cell p.newest) passes
    (subst (λ (o : Look). All (λ (pass : Watching). pass ≡ watching_at p.cell o) passes) newest all)

zip_push : {A B C : Type 0} (R : A → C → Type 0) (f : B → C) (xs : List A) (ys : List B) (x : A) (y : B) → AllZip R xs (map f ys) → R x (f y)
    → AllZip R (xs ++ x ∷ []) (map f (ys ++ y ∷ []))
zip_push R f [] [] x y all last = (last, tt)
zip_push R f [] (b ∷ ys) x y all last = absurd all
zip_push R f (a ∷ xs) [] x y all last = absurd all
zip_push R f (a ∷ xs) (b ∷ ys) x y all last = (all.0, zip_push R f xs ys x y all.1 last)

pub wait_more : {X : Type 0} (f : X → List Watching) (views more_views : List Showing) (xs more : List X) (p : Showing) (x : X)
    → more_views ≡ views ++ p ∷ []
    → more ≡ xs ++ x ∷ [] → AllZip WaitAt views (map f xs) → WaitAt p (f x) → AllZip WaitAt more_views (map f more)
wait_more {X = X} f views more_views xs more p x is longer all last =
    subst (λ (l : List Showing). AllZip WaitAt l (map f more)) (sym is)
    (subst (λ (l : List X). AllZip WaitAt (views ++ p ∷ []) (map f l)) (sym longer) (zip_push WaitAt f views xs p x all last))

-- ---- the first pass of those that wait is taken

wait_rest : (p : Showing) (passes : List Watching) → WaitAt p passes → WaitAt p (remove passes 0)
wait_rest p [] wait = tt
wait_rest p (pass ∷ passes) wait = wait.1

wait_first : (p : Showing) (passes : List Watching) (pass : Watching) → WaitAt p passes → 0 < length passes → pass ≡ get_or passes 0 pass
    → pass ≡ watching_at p.cell p.newest
wait_first p [] pass wait below is = absurd (omega (arith, below))
wait_first p (first ∷ passes) pass wait below is = is ∙ wait.0

wait_set : {X : Type 0} (f : X → List Watching) (views : List Showing) (xs : List X) (k : ℕ) (d y : X) → AllZip WaitAt views (map f xs)
    → f y ≡ remove (f (get_or xs k d)) 0 → AllZip WaitAt views (map f (set xs k y))
wait_set f [] [] k d y all is = tt
wait_set f [] (x ∷ xs) k d y all is = absurd all
wait_set f (p ∷ views) [] k d y all is = absurd all
wait_set f (p ∷ views) (x ∷ xs) zero d y all is = (subst (WaitAt p) (sym is) (wait_rest p (f x) all.0), all.1)
wait_set f (p ∷ views) (x ∷ xs) (suc k) d y all is = (all.0, wait_set f views xs k d y all.1 is)

wait_here : {X : Type 0} (f : X → List Watching) (views : List Showing) (xs : List X) (k : ℕ) (d : X) (pass : Watching) → AllZip WaitAt views (map f xs)
    → k < length xs → 0 < length (f (get_or xs k d)) → pass ≡ get_or (f (get_or xs k d)) 0 pass
    → (p : Showing) × (slice_get views k ≡ Some p) × (pass ≡ watching_at p.cell p.newest)
wait_here f [] [] k d pass all below some is = absurd (omega (arith, below))
wait_here f [] (x ∷ xs) k d pass all below some is = absurd all
wait_here f (p ∷ views) [] k d pass all below some is = absurd all
wait_here f (p ∷ views) (x ∷ xs) zero d pass all below some is = (p, refl, wait_first p (f x) pass all.0 some is)
wait_here f (p ∷ views) (x ∷ xs) (suc k) d pass all below some is = wait_here f views xs k d pass all.1 (omega (arith, below)) some is

pub wait_next : {X : Type 0} (f : X → List Watching) (views : List Showing) (xs : List X) (k : ℕ) (x y : X) → AllZip WaitAt views (map f xs)
    → x ≡ get_or xs k x → f y ≡ remove (f x) 0 → AllZip WaitAt views (map f (set xs k y))
wait_next f views xs k x y all there is = wait_set f views xs k x y all (is ∙ ap (λ u. remove (f u) 0) there)

pub wait_at : {X : Type 0} (f : X → List Watching) (views : List Showing) (xs : List X) (k : ℕ) (x : X) (pass : Watching) → AllZip WaitAt views (map f xs)
    → k < length xs → x ≡ get_or xs k x → 0 < length (f x) → pass ≡ get_or (f x) 0 pass
    → (p : Showing) × (slice_get views k ≡ Some p) × (pass ≡ watching_at p.cell p.newest)
wait_at {X = X} f views xs k x pass all within there some is =
    wait_here f views xs k x pass all within (subst (λ (u : X). 0 < length (f u)) there some) (is ∙ ap (λ u. get_or (f u) 0 pass) there)

-- ---- one reader more

watching_push : (views : List Showing) (from : ℕ) (consumers : List ℕ) (all : List Reading) (consumer : ℕ) (p : Showing) (r : Reading)
    → AreWatching views from consumers all → slice_get views consumer ≡ Some p → r ≡ reading (from + length all) consumer (watching_at p.cell p.newest)
    → AreWatching views from (consumers ++ consumer ∷ []) (all ++ r ∷ [])
watching_push views from [] [] consumer p r are there is =
    let at : from + 0 ≡ from = omega arith in (p, there, is ∙ ap (λ n. reading n consumer (watching_at p.cell p.newest)) at, tt)
watching_push views from [] (first ∷ all) consumer p r are there is = absurd are
watching_push views from (c ∷ consumers) [] consumer p r are there is = absurd are
watching_push views from (c ∷ consumers) (first ∷ all) consumer p r are there is =
    let at : from + suc (length all) ≡ suc from + length all = omega arith in (
      are.0,
      are.1,
      are.2,
      watching_push views (suc from) consumers all consumer p r are.3 there (is ∙ ap (λ n. reading n consumer (watching_at p.cell p.newest)) at),
    )

take_next : {X : Type 0} (xs : List X) (n : ℕ) (d : X) → n < length xs → take (n + 1) xs ≡ take n xs ++ get_or xs n d ∷ []
take_next [] n d below = absurd (omega (arith, below))
take_next (x ∷ xs) zero d below = refl
take_next (x ∷ xs) (suc n) d below =
    let one : suc n + 1 ≡ suc (n + 1) = omega arith in
    ap (λ m. take m (x ∷ xs)) one ∙ ap (λ l. x ∷ l) (take_next xs n d (omega (arith, below)))

pub watching_next : (views : List Showing) (consumers : List ℕ) (n : ℕ) (all more : List Reading) (consumer : ℕ) (pass : Watching) (r : Reading)
    → AreWatching views 0 (take n consumers) all → n < length consumers → length all ≡ n → more ≡ all ++ r ∷ [] → consumer ≡ get_or consumers n 0
    → ((p : Showing) × (slice_get views consumer ≡ Some p) × (pass ≡ watching_at p.cell p.newest)) → r ≡ reading n consumer pass
    → AreWatching views 0 (take (n + 1) consumers) more
watching_next views consumers n all more consumer pass r are below count is of at made =
    let longer = take_next consumers n 0 below ∙ ap (λ u. take n consumers ++ u ∷ []) (sym of) in
    let number : n ≡ 0 + length all = omega (arith, count) in
    subst (AreWatching views 0 (take (n + 1) consumers)) (sym is)
    (subst (λ (l : List ℕ). AreWatching views 0 l (all ++ r ∷ [])) (sym longer)
    (watching_push views 0 (take n consumers) all consumer at.0 r are at.1
    (made ∙ ap (λ m. reading m consumer pass) number ∙ ap (λ w. reading (0 + length all) consumer w) at.2)))
