-- The bodies of lines, as one line after the other is taken.
use Rattle.std.proofs.Common.{◌≡◌, ◌==◌, Bool, ℕ, zero, suc, ◌+◌, ◌<◌, ◌≤◌, List, [], ◌∷◌}
use Rattle.std.proofs.Common.{◌++◌, length, map, take, get_or, refl, sym, ap, ◌∙◌, subst, arith, append_assoc, append-nil}
use Rattle.std.proofs.lemmas.Bool.{eq-eqb, ne_eqb}
use Rattle.std.specs.Prelude.{slice_set}
use Rattle.msg_wire.specs.declared.plan.PlanLine.{PlanLine}
use Rattle.msg_wire.specs.declared.plan.PlanLine.TheVariants as plan_lines
use Rattle.plan_desks.specs.Desks.{body_if, body_for, bodies_for, AreBodies, put_behind, with_line}

-- ---- lists

put_at : {X : Type 0} (f : X → List (List ℕ)) (xs : List X) (i : ℕ) (x y : X) (body : List ℕ) → i < length xs → x ≡ get_or xs i x → f y ≡ f x ++ body ∷ []
    → map f (slice_set xs i y) ≡ put_behind i body (map f xs)
put_at f [] i x y body below there grown = absurd (omega (arith, below))
put_at f (z ∷ zs) zero x y body below there grown = ap (λ l. l ∷ map f zs) (grown ∙ ap (λ u. f u ++ body ∷ []) there)
put_at f (z ∷ zs) (suc i) x y body below there grown = ap (λ l. f z ∷ l) (put_at f zs i x y body (omega (arith, below)) there grown)

pub put_by : {X : Type 0} (f : X → List (List ℕ)) (xs : List X) (i by : ℕ) (x y : X) (body : List ℕ) → i ≡ by → i < length xs → x ≡ get_or xs i x
    → f y ≡ f x ++ body ∷ [] → map f (slice_set xs i y) ≡ put_behind by body (map f xs)
put_by f xs i by x y body is below there grown =
    put_at f xs i x y body below there grown ∙ ap (λ n. put_behind n body (map f xs)) is

pub take_next : {X : Type 0} (xs : List X) (n : ℕ) (d : X) → n < length xs → take (suc n) xs ≡ take n xs ++ get_or xs n d ∷ []
take_next [] n d below = absurd (omega (arith, below))
take_next (x ∷ xs) zero d below = refl
take_next (x ∷ xs) (suc n) d below = ap (λ l. x ∷ l) (take_next xs n d (omega (arith, below)))

-- ---- one line more

bodies_more : (by : ℕ) (lines : List PlanLine) (line : PlanLine) → bodies_for by (lines ++ line ∷ []) ≡ bodies_for by lines ++ body_for by line
bodies_more by [] line = append-nil (body_for by line)
bodies_more by (first ∷ lines) line =
    ap (λ l. body_for by first ++ l) (bodies_more by lines line) ∙ sym (append_assoc (body_for by first) (bodies_for by lines) (body_for by line))

-- a line that gives nothing to submitters from a number on
none_more : (line : PlanLine) (lines : List PlanLine) (from : ℕ) (all : List (List (List ℕ))) → ((by : ℕ) → from ≤ by → body_for by line ≡ [])
    → AreBodies lines from all
    → AreBodies (lines ++ line ∷ []) from all
none_more line lines from [] none are = tt
none_more line lines from (bodies ∷ later) none are = (
  are.0 ∙ sym (bodies_more from lines line ∙ ap (λ l. bodies_for from lines ++ l) (none from (omega arith)) ∙ append-nil (bodies_for from lines)),
  none_more line lines (suc from) later (λ by above. none by (omega (arith, above))) are.1,
)

other : (a b : ℕ) (body : List ℕ) → (a ≡ b → ⊥) → body_if (a == b) body ≡ []
other a b body apart = ap (λ (t : Bool). body_if t body) (ne_eqb a b apart)

itself : (a : ℕ) (body : List ℕ) → body_if (a == a) body ≡ body ∷ []
itself a body = ap (λ (t : Bool). body_if t body) (eq-eqb a a refl)

-- a body of the submitter that is so many behind the first
one_more : (body : List ℕ) (lines : List PlanLine) (k from by : ℕ) (all : List (List (List ℕ))) → by ≡ from + k → AreBodies lines from all
    → AreBodies (lines ++ plan_lines.Submit by body ∷ []) from (put_behind k body all)
one_more body lines k from by [] at are = tt
one_more body lines zero from by (bodies ∷ later) at are =
    let line = plan_lines.Submit by body in
    let here : by ≡ from = omega (arith, at) in (
      ap (λ l. l ++ body ∷ []) are.0
          ∙ sym (bodies_more from lines line ∙ ap (λ l. bodies_for from lines ++ l) (ap (λ n. body_if (n == from) body) here ∙ itself from body)),
      none_more line lines (suc from) later (λ other_by above. other by other_by body (λ same. omega (arith, above, here, same))) are.1,
    )
one_more body lines (suc k) from by (bodies ∷ later) at are =
    let line = plan_lines.Submit by body in (
      are.0
          ∙ sym (bodies_more from lines line ∙ ap (λ l. bodies_for from lines ++ l) (other by from body (λ same. omega (arith, at, same)))
          ∙ append-nil (bodies_for from lines)),
      one_more body lines k (suc from) by later (omega (arith, at)) are.1,
    )

pub line_more : (line : PlanLine) (lines : List PlanLine) (all : List (List (List ℕ))) → AreBodies lines 0 all
    → AreBodies (lines ++ line ∷ []) 0 (with_line line all)
line_more (plan_lines.Submit by body) lines all are = one_more body lines by 0 by all (omega arith) are
line_more (plan_lines.Episode turns) lines all are = none_more (plan_lines.Episode turns) lines 0 all (λ by above. refl) are
line_more (plan_lines.Restart node) lines all are = none_more (plan_lines.Restart node) lines 0 all (λ by above. refl) are
line_more (plan_lines.Command node command) lines all are = none_more (plan_lines.Command node command) lines 0 all (λ by above. refl) are

pub lines_next : (lines : List PlanLine) (n : ℕ) (line : PlanLine) (all more : List (List (List ℕ))) → n < length lines → line ≡ get_or lines n line
    → AreBodies (take n lines) 0 all → more ≡ with_line line all → AreBodies (take (n + 1) lines) 0 more
lines_next lines n line all more below there are is =
    let one_up : n + 1 ≡ suc n = omega arith in
    let longer = ap (λ m. take m lines) one_up ∙ take_next lines n line below ∙ ap (λ u. take n lines ++ u ∷ []) (sym there) in
    subst (λ (l : List PlanLine). AreBodies l 0 more) (sym longer)
    (subst (AreBodies (take n lines ++ line ∷ []) 0) (sym is) (line_more line (take n lines) all are))

-- ---- no line yet

none_behind : {X : Type 0} (f : X → List (List ℕ)) (xs : List X) (x : X) (from : ℕ) → f x ≡ [] → AreBodies [] from (map f xs)
    → AreBodies [] from (map f (xs ++ x ∷ []))
none_behind f [] x from none are = (none, tt)
none_behind f (y ∷ xs) x from none are = (are.0, none_behind f xs x (suc from) none are.1)

pub none_pushed : {X : Type 0} (f : X → List (List ℕ)) (xs : List X) (x : X) (more : List X) (from : ℕ) → f x ≡ [] → more ≡ xs ++ x ∷ []
    → AreBodies [] from (map f xs) → AreBodies [] from (map f more)
none_pushed {X = X} f xs x more from none is are = subst (λ (l : List X). AreBodies [] from (map f l)) (sym is) (none_behind f xs x from none are)
