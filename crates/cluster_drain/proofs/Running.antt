-- A drain part by part: a part after a part is a part, a step counts, and what takes no step counts nothing.
use Rattle.std.proofs.Common.{◌≡◌, ◌⊎◌, inl, inr, true, false, ℕ, zero, suc, ◌<◌, ◌≤◌, ◌+◌, List, [], ◌∷◌, length, length-append, get_or, set}
use Rattle.std.proofs.Common.{IsSome, Result, Ok, OnOk, None, Some, Err, refl, sym, ap, ◌∙◌, subst, arith}
use Rattle.spec_base.specs.declared.disk.Disk.{Ghosts as DiskRules}
use Rattle.net_model.specs.declared.journal.Stamped.{Stamped}
use Rattle.net_model.specs.declared.model.NodeModel.{Ghosts as NodeRules}
use Rattle.net_model.specs.Names.events
use Rattle.node_actor.specs.declared.actor.NodeActor.{NodeActor}
use Rattle.node_actor.specs.declared.taken.Taken.{Taken}
use Rattle.node_actor.specs.declared.taken.Taken.TheVariants as takes
use Rattle.node_actor.specs.Cores.{steps_of}
use Rattle.node_actor.proofs.Results.{map_ok}
use Rattle.node_actor.specs.Turns.{AreStepsOf, IsStepOf, TookSteps}
use Rattle.node_seats.specs.Seats.{AreGoing}
use Rattle.node_seats.proofs.Zips.{all_set}
use Rattle.cluster_drain.specs.declared.drained.Early.{Early}
use Rattle.cluster_drain.specs.declared.drained.Early.TheVariants as early
use Rattle.cluster_drain.specs.Drains.{CanDrain, EndsSo, TookTicks, steps_in}
use Rattle.cluster_drain.specs.inside.Runs.{CanRun, GoesOn, IsCounted, Runs, Ticked, at_only, each, early_of}
use Rattle.cluster_drain.specs.inside.Pairs.{IsSettledPair}
use Rattle.cluster_drain.proofs.Pairs.{pair_drains, pair_going, pair_steps}
use Rattle.cluster_drain.proofs.Ticking.{TicksMore, only_none, pair_ticked, ticked_as, ticked_itself, ticked_set, ticked_then, took_ticks}
use Rattle.cluster_drain.proofs.Writing.{IsGoing, Stays, drains_itself, drains_set, drains_then, steps_set}

going_at : {N D : Type 0} (xs : List (NodeActor N D)) (k : ℕ) (y : NodeActor N D) → k < length xs → AreGoing (set xs k y) → IsGoing y
going_at [] k y within all = absurd (omega (arith, within))
going_at (x ∷ xs) zero y within all = all.0
going_at (x ∷ xs) (suc k) y within all = going_at xs k y (omega (arith, within)) all.1

-- the first of them are going
abbrev pub AreGoingBelow : {N D : Type 0} → ℕ → List (NodeActor N D) → Type 0
AreGoingBelow place xs = (k : ℕ) (d : NodeActor _ _) → k < place → IsGoing (get_or xs k d)

pub all_going : {N D : Type 0} (xs : List (NodeActor N D)) → AreGoingBelow (length xs) xs → AreGoing xs
all_going [] all = tt
all_going (x ∷ xs) all = (all 0 x (omega arith), all_going xs (λ k d low. all (suc k) d (omega (arith, low))))

pub one_more_going : {N D : Type 0} (place : ℕ) (xs : List (NodeActor N D)) → AreGoingBelow place xs → ((d : NodeActor N D) → IsGoing (get_or xs place d))
    → AreGoingBelow (place + 1) xs
one_more_going place xs all one = λ k d low. by k d (at_end k place low) where
  at_end : (k place : ℕ) → k < place + 1 → (k < place) ⊎ (k ≡ place)
  at_end k place low = grind arith

  by : (k : ℕ) (d : NodeActor _ _) → (k < place) ⊎ (k ≡ place) → IsGoing (get_or xs k d)
  by k d (inl lower) = all k d lower
  by k d (inr last) = subst (λ n. IsGoing (get_or xs n d)) (sym last) (one d)

always_ok : {T E A : Type 0} (result : Result T E) → A → OnOk result A
always_ok (Ok done) a = a
always_ok (Err why) a = tt

-- so many steps more
abbrev pub TookMore : {N D : Type 0} → ℕ → NodeActor N D → NodeActor N D → Type 0
TookMore more before after = IsGoing after → length (steps_of after.core) ≡ length (steps_of before.core) + more

abbrev pub count_of : Taken → ℕ
count_of takes.Input = 1
count_of takes.NoInput = 0
count_of takes.Nothing = 0

counted : (taken : Taken) (steps : List Stamped) → AreStepsOf taken steps → length steps ≡ count_of taken
counted takes.Input steps are = ap length are.1.1
counted takes.NoInput steps are = ap length are
counted takes.Nothing steps are = ap length are

pub took_more : {N D : Type 0} (P : List Stamped → Type 0) (more : ℕ) (before after : NodeActor N D)
    → ((steps : List Stamped) → P steps → length steps ≡ more) → TookSteps P before after → TookMore more before after
took_more P more before after count took = λ calm.
    let steps = took calm in
    ap length steps.1 ∙ length-append (steps_of before.core) steps.0 ∙ ap (λ n. length (steps_of before.core) + n) (count steps.0 steps.2)

pub none_more : (taken : Taken) → (taken ≡ takes.NoInput) ⊎ (taken ≡ takes.Nothing) → count_of taken ≡ 0
none_more taken (inl is) = ap count_of is
none_more taken (inr is) = ap count_of is

pub frame_more : {N D : Type 0} (taken : Taken) (before after : NodeActor N D) → TookSteps (AreStepsOf taken) before after → TookMore
    (count_of taken) before after
frame_more taken before after took = took_more (AreStepsOf taken) (count_of taken) before after (counted taken) took

pub tick_more : {N D : Type 0} (before after : NodeActor N D) → TookSteps (IsStepOf events.Tick) before after → TookMore 1 before after
tick_more before after took = took_more (IsStepOf events.Tick) 1 before after (λ steps is. ap length is.1) took

module _ {N D : Type 0} (rules : NodeRules N) (disk : DiskRules D) where
  pub runs_itself : (left : ℕ) (xs : List (NodeActor N D)) → CanRun rules left xs → Runs {T = Unit {0}} rules disk (each 0) (Ok tt) left left xs xs
  runs_itself left xs can = record {
    drains = drains_itself rules disk xs;
    took = λ going. refl;
    fewer = omega arith;
    ends = (can.some, can.going);
    ticked = ticked_itself xs;
  }

  -- a part, and another one after it
  pub runs_more : {T : Type 0} (a b c : ℕ → ℕ) (result : Result T Early) (left mid last : ℕ) (xs ys zs : List (NodeActor N D))
      → ((place : ℕ) → place < length xs → a place + b place ≡ c place) → Runs {T = Unit {0}} rules disk a (Ok tt) left mid xs ys
      → Runs rules disk b result mid last ys zs → Runs rules disk c result left last xs zs
  runs_more a b c result left mid last xs ys zs sum first second =
      let low = first.fewer in
      let lower = second.fewer in
      record {
        drains = drains_then rules disk xs ys zs first.drains second.drains;
        took = λ going. second.took going ∙ first.took (second.drains.going going);
        fewer = omega (arith, low, lower);
        ends = second.ends;
        ticked = map_ok result (ticked_then a b c xs ys zs first.drains.as_many sum first.ticked) second.ticked;
      }

  pub runs_then : {T : Type 0} (result : Result T Early) (left mid last : ℕ) (xs ys zs : List (NodeActor N D))
      → Runs {T = Unit {0}} rules disk (each 0) (Ok tt) left mid xs ys → Runs rules disk (each 0) result mid last ys zs
      → Runs rules disk (each 0) result left last xs zs
  runs_then result left mid last xs ys zs first second =
      runs_more (each 0) (each 0) (each 0) result left mid last xs ys zs (λ place low. omega arith) first second

  -- as many ticks, said otherwise
  pub runs_as : {T : Type 0} (a c : ℕ → ℕ) (result : Result T Early) (left last : ℕ) (xs ys : List (NodeActor N D))
      → ((place : ℕ) → place < length xs → a place ≡ c place) → Runs rules disk a result left last xs ys → Runs rules disk c result left last xs ys
  runs_as a c result left last xs ys same runs = record {
    drains = runs.drains;
    took = runs.took;
    fewer = runs.fewer;
    ends = runs.ends;
    ticked = map_ok result (ticked_as a c xs ys same) runs.ticked;
  }

  -- a part that failed, after others or alone: no count is said of it
  pub fails_as : {T U : Type 0} {a c : ℕ → ℕ} (why : Early) (left last : ℕ) (xs ys : List (NodeActor N D))
      → Runs {T = T} rules disk a (Err why) left last xs ys → Runs {T = U} rules disk c (Err why) left last xs ys
  fails_as why left last xs ys runs = record { drains = runs.drains; took = runs.took; fewer = runs.fewer; ends = runs.ends; ticked = tt }

  pub fails_then : {T U : Type 0} {a b c : ℕ → ℕ} (why : Early) (left mid last : ℕ) (xs ys zs : List (NodeActor N D))
      → Runs {T = Unit {0}} rules disk a (Ok tt) left mid xs ys → Runs {T = T} rules disk b (Err why) mid last ys zs
      → Runs {T = U} rules disk c (Err why) left last xs zs
  fails_then {T} {U} {a} {b} {c} why left mid last xs ys zs first second =
      fails_as {T = T} {U = U} {a = λ place. a place + b place} {c = c} why left last xs zs
      (runs_more a b (λ place. a place + b place) (Err why) left mid last xs ys zs (λ place low. refl) first second)

  pub can_still : {counts : ℕ → ℕ} (left mid : ℕ) (xs ys : List (NodeActor N D)) → CanDrain rules xs
      → Runs {T = Unit {0}} rules disk counts (Ok tt) left mid xs ys → CanRun rules mid ys
  can_still left mid xs ys can so_far = record { can = so_far.drains.can can; going = so_far.ends.1; some = so_far.ends.0 }

  -- ---- one actor

  -- a step of which so many are ticks
  pub step_runs : {T : Type 0} (ticks : ℕ) (result : Result T Early) (left left' : ℕ) (xs : List (NodeActor N D)) (k : ℕ) (d y : NodeActor N D)
      → k < length xs → CanRun rules left xs → Stays rules disk (get_or xs k d) y → TookMore 1 (get_or xs k d) y → TicksMore ticks (get_or xs k d) y
      → IsGoing y → IsCounted result left left' → Runs rules disk (at_only ticks k) result left left' xs (set xs k y)
  step_runs ticks result left left' xs k d y within can stays more ticked calm count = record {
    drains = drains_set rules disk xs k d y within stays;
    took = λ going. by result count (steps_set xs k d y 1 within (more calm));
    fewer = fewer result count;
    ends = ends result count;
    ticked = always_ok result (ticked_set xs k d y ticks within (ticked calm));
  } where
    by : {U : Type 0} (r : Result U Early) → IsCounted r left left' → steps_in (set xs k y) ≡ steps_in xs + 1
        → steps_in (set xs k y) + left' ≡ steps_in xs + left
    by (Ok done) one steps = omega (arith, one.0, steps)
    by (Err early.Limit) one steps = omega (arith, one.0, steps)
    by (Err early.Stopped) never steps = absurd never
    by (Err early.Memory) never steps = absurd never

    fewer : {U : Type 0} (r : Result U Early) → IsCounted r left left' → left' ≤ left
    fewer (Ok done) one = omega (arith, one.0)
    fewer (Err early.Limit) one = omega (arith, one.0)
    fewer (Err early.Stopped) never = absurd never
    fewer (Err early.Memory) never = absurd never

    ends : {U : Type 0} (r : Result U Early) → IsCounted r left left' → EndsSo (early_of r) left' (set xs k y)
    ends (Ok done) one = (one.1, all_set IsGoing xs k y can.going calm)
    ends (Err early.Limit) one = one.1
    ends (Err early.Stopped) never = absurd never
    ends (Err early.Memory) never = absurd never

  -- where no step was taken, it goes on unless the actor is stopped
  pub rest_runs : {T : Type 0} (result : Result T Early) (left : ℕ) (xs : List (NodeActor N D)) (k : ℕ) (d y : NodeActor N D) → k < length xs
      → CanRun rules left xs → Stays rules disk (get_or xs k d) y → TookMore 0 (get_or xs k d) y → TicksMore 0 (get_or xs k d) y → GoesOn result y
      → Runs rules disk (each 0) result left left xs (set xs k y)
  rest_runs result left xs k d y within can stays more ticked goes = record {
    drains = drains_set rules disk xs k d y within stays;
    took = λ going. let steps = steps_set xs k d y 0 within (more (going_at xs k y within going)) in omega (arith, steps);
    fewer = omega arith;
    ends = so result goes;
    ticked = ticks result goes;
  } where
    so : {U : Type 0} (r : Result U Early) → GoesOn r y → EndsSo (early_of r) left (set xs k y)
    so (Ok done) calm = (can.some, all_set IsGoing xs k y can.going calm)
    so (Err early.Limit) never = absurd never
    so (Err early.Stopped) stopped = (can.some, λ all. stopped (going_at xs k y within all))
    so (Err early.Memory) never = absurd never

    ticks : {U : Type 0} (r : Result U Early) → GoesOn r y → OnOk r (Ticked (each 0) xs (set xs k y))
    ticks (Ok done) calm =
        ticked_as (at_only 0 k) (each 0) xs (set xs k y) (λ place low. only_none k place) (ticked_set xs k d y 0 within (ticked calm))
    ticks (Err why) goes = tt

  -- a step that stopped its actor
  pub stopped_runs : (counts : ℕ → ℕ) (left : ℕ) (xs : List (NodeActor N D)) (k : ℕ) (d y : NodeActor N D) → k < length xs → CanRun rules left xs
      → Stays rules disk (get_or xs k d) y → IsSome y.stopped → Runs {T = Unit {0}} rules disk counts (Err early.Stopped) left left xs (set xs k y)
  stopped_runs counts left xs k d y within can stays some =
      let never : AreGoing (set xs k y) → ⊥ = λ all. let wrong : false ≡ true = subst IsSome (going_at xs k y within all) some in absurd cc in
      record {
        drains = drains_set rules disk xs k d y within stays;
        took = λ going. absurd (never going);
        fewer = omega arith;
        ends = (can.some, never);
        ticked = tt;
      }

  -- a drain that ends as it begins
  pub none_runs : (counts : ℕ → ℕ) (why : Early) (left : ℕ) (xs : List (NodeActor N D)) → EndsSo (Some why) left xs
      → Runs {T = Unit {0}} rules disk counts (Err why) left left xs xs
  none_runs counts why left xs ends = record { drains = drains_itself rules disk xs; took = λ going. refl; fewer = omega arith; ends = ends; ticked = tt }

  -- frames that lie elsewhere are no step
  pub pair_runs : (left from to : ℕ) (xs zs : List (NodeActor N D)) → IsSettledPair from to xs zs → from < length xs → to < length xs → CanRun rules left xs
      → Runs {T = Unit {0}} rules disk (each 0) (Ok tt) left left xs zs
  pair_runs left from to xs zs p low high can = record {
    drains = pair_drains rules disk from to xs zs p low high;
    took = λ going. ap (λ n. n + left) (pair_steps from to xs zs p low high);
    fewer = omega arith;
    ends = (can.some, pair_going from to xs zs p low high can.going);
    ticked = pair_ticked from to xs zs p low high;
  }

  -- where memory was refused
  pub refused_runs : (left from to : ℕ) (xs zs : List (NodeActor N D)) → IsSettledPair from to xs zs → from < length xs → to < length xs → CanRun rules left xs
      → Runs {T = Unit {0}} rules disk (each 0) (Err early.Memory) left left xs zs
  refused_runs left from to xs zs p low high can =
      let runs = pair_runs left from to xs zs p low high can in
      record { drains = runs.drains; took = runs.took; fewer = runs.fewer; ends = can.some; ticked = tt }

  -- a drain that came to its end
  pub ended_ticks : {T : Type 0} (count : ℕ) (result : Result T Early) (left last : ℕ) (xs ys : List (NodeActor N D))
      → Runs rules disk (each count) result left last xs ys → early_of result ≡ None → TookTicks count xs ys
  ended_ticks count (Ok done) left last xs ys runs is = took_ticks count xs ys runs.drains.as_many runs.ticked
  ended_ticks count (Err why) left last xs ys runs is = absurd cc
