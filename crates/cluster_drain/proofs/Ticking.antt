-- How many ticks nodes took: as one of them is written, as a link is settled, and one part after another.
use Rattle.std.proofs.Common.{◌≡◌, ℕ, zero, suc, ◌<◌, ◌+◌, List, [], ◌∷◌, ◌++◌, length, get_or, set, map, refl, sym, ap, ◌∙◌, subst, arith}
use Rattle.std.proofs.lemmas.List.{length-set}
use Rattle.net_model.specs.declared.journal.Stamped.{Stamped}
use Rattle.net_model.specs.Names.events
use Rattle.node_actor.specs.declared.actor.NodeActor.{NodeActor}
use Rattle.node_actor.specs.declared.taken.Taken.{Taken}
use Rattle.node_actor.specs.declared.taken.Taken.TheVariants as takes
use Rattle.node_actor.specs.Cores.{steps_of}
use Rattle.node_actor.specs.Turns.{AreStepsOf, IsStepOf, TookSteps}
use Rattle.cluster_drain.specs.Drains.{TookTicks, tick_of, ticks_in, ticks_of}
use Rattle.cluster_drain.specs.inside.Pairs.{IsSettledPair}
use Rattle.cluster_drain.specs.inside.Runs.{Ticked, at_only, below, each}
use Rattle.cluster_drain.proofs.Writing.{IsGoing}

-- ---- counts

pub only_none : (there place : ℕ) → at_only 0 there place ≡ 0
only_none zero zero = refl
only_none zero (suc place) = refl
only_none (suc there) zero = refl
only_none (suc there) (suc place) = only_none there place

one_more : (count end place : ℕ) → below count end place + at_only count end place ≡ below count (suc end) place
one_more count zero zero = omega arith
one_more count zero (suc place) = refl
one_more count (suc end) zero = omega arith
one_more count (suc end) (suc place) = one_more count end place

pub below_next : (count end place : ℕ) → below count end place + at_only count end place ≡ below count (end + 1) place
below_next count end place =
    let next : suc end ≡ end + 1 = omega arith in
    one_more count end place ∙ ap (λ e. below count e place) next

pub below_all : (count end place : ℕ) → place < end → below count end place ≡ count
below_all count zero place low = absurd (omega (arith, low))
below_all count (suc end) zero low = refl
below_all count (suc end) (suc place) low = below_all count end place (omega (arith, low))

-- ---- one actor

ticks_append : (xs ys : List Stamped) → ticks_in (xs ++ ys) ≡ ticks_in xs + ticks_in ys
ticks_append [] ys = omega arith
ticks_append (x ∷ xs) ys = let later = ticks_append xs ys in omega (arith, later)

-- so many ticks more
abbrev pub TicksMore : {N D : Type 0} → ℕ → NodeActor N D → NodeActor N D → Type 0
TicksMore count before after = IsGoing after → ticks_of after ≡ ticks_of before + count

ticks_more : {N D : Type 0} (P : List Stamped → Type 0) (count : ℕ) (before after : NodeActor N D)
    → ((steps : List Stamped) → P steps → ticks_in steps ≡ count) → TookSteps P before after → TicksMore count before after
ticks_more P count before after each_is took = λ calm.
    let steps = took calm in
    ap ticks_in steps.1 ∙ ticks_append (steps_of before.core) steps.0 ∙ ap (λ n. ticks_of before + n) (each_is steps.0 steps.2)

no_tick : (taken : Taken) (steps : List Stamped) → AreStepsOf taken steps → ticks_in steps ≡ 0
no_tick takes.Input steps are = ap ticks_in are.1.1 ∙ ap (λ e. tick_of e + 0) are.1.2
no_tick takes.NoInput steps are = ap ticks_in are
no_tick takes.Nothing steps are = ap ticks_in are

pub frame_ticks : {N D : Type 0} (taken : Taken) (before after : NodeActor N D) → TookSteps (AreStepsOf taken) before after → TicksMore 0 before after
frame_ticks taken before after took = ticks_more (AreStepsOf taken) 0 before after (no_tick taken) took

pub tick_ticks : {N D : Type 0} (before after : NodeActor N D) → TookSteps (IsStepOf events.Tick) before after → TicksMore 1 before after
tick_ticks before after took = ticks_more (IsStepOf events.Tick) 1 before after (λ steps is. ap ticks_in is.1 ∙ ap (λ e. tick_of e + 0) is.2) took

-- ---- all actors

module _ {N D : Type 0} where
  pub ticked_itself : (xs : List (NodeActor N D)) → Ticked (each 0) xs xs
  ticked_itself xs = λ place d low. omega arith

  pub ticked_then : (a b c : ℕ → ℕ) (xs ys zs : List (NodeActor N D)) → length ys ≡ length xs → ((place : ℕ) → place < length xs → a place + b place ≡ c place)
      → Ticked a xs ys → Ticked b ys zs → Ticked c xs zs
  ticked_then a b c xs ys zs as_many sum first second = λ place d low.
      let one = first place d low in
      let two = second place d (omega (arith, low, as_many)) in
      let all = sum place low in
      omega (arith, one, two, all)

  pub ticked_as : (a c : ℕ → ℕ) (xs ys : List (NodeActor N D)) → ((place : ℕ) → place < length xs → a place ≡ c place) → Ticked a xs ys → Ticked c xs ys
  ticked_as a c xs ys same all = λ place d low.
      let one = all place d low in
      let is = same place low in
      omega (arith, one, is)

  pub ticked_set : (xs : List (NodeActor N D)) (k : ℕ) (d y : NodeActor N D) (count : ℕ) → k < length xs → ticks_of y ≡ ticks_of (get_or xs k d) + count
      → Ticked (at_only count k) xs (set xs k y)
  ticked_set xs k d y count within is = at xs k within is where
    at : (xs : List (NodeActor N D)) (k : ℕ) → k < length xs → ticks_of y ≡ ticks_of (get_or xs k d) + count → (place : ℕ) (e : NodeActor N D)
        → place < length xs → ticks_of (get_or (set xs k y) place e) ≡ ticks_of (get_or xs place e) + at_only count k place
    at [] k within is place e low = absurd (omega (arith, low))
    at (x ∷ xs) zero within is zero e low = is
    at (x ∷ xs) zero within is (suc place) e low = omega arith
    at (x ∷ xs) (suc k) within is zero e low = omega arith
    at (x ∷ xs) (suc k) within is (suc place) e low = at xs k (omega (arith, within)) is place e (omega (arith, low))

  -- a settled link leaves them
  pub pair_ticked : (from to : ℕ) (xs zs : List (NodeActor N D)) → IsSettledPair from to xs zs → from < length xs → to < length xs → Ticked (each 0) xs zs
  pair_ticked from to xs zs p low high =
      let s = p.sender in
      let r = p.receiver in
      let sent : ticks_of s ≡ ticks_of (get_or xs from s) = ap ticks_of (p.sends s) in
      let got : ticks_of r ≡ ticks_of (get_or (set xs from s) to r) = ap ticks_of (p.receives r) in
      let long = length-set xs from s in
      subst (Ticked (each 0) xs) (sym p.after_is)
      (ticked_then (at_only 0 from) (at_only 0 to) (each 0) xs (set xs from s) (set (set xs from s) to r) long
      (λ place within. omega (arith, only_none from place, only_none to place))
      (ticked_set xs from s s 0 low (omega (arith, sent)))
      (ticked_set (set xs from s) to r r 0 (omega (arith, high, long)) (omega (arith, got))))

  pub took_ticks : (count : ℕ) (xs ys : List (NodeActor N D)) → length ys ≡ length xs → Ticked (each count) xs ys → TookTicks count xs ys
  took_ticks count [] [] as_many all = refl
  took_ticks count [] (y ∷ ys) as_many all = absurd (omega (arith, as_many))
  took_ticks count (x ∷ xs) [] as_many all = absurd (omega (arith, as_many))
  took_ticks count (x ∷ xs) (y ∷ ys) as_many all =
      let first : ticks_of y ≡ ticks_of x + count = all 0 x (omega arith) in
      let later = took_ticks count xs ys (omega (arith, as_many)) (λ place d low. all (suc place) d (omega (arith, low))) in
      ap (λ t. t ∷ map ticks_of ys) first ∙ ap (λ l. (ticks_of x + count) ∷ l) later
