-- What stays of lists as one of their elements changes, or all do.
use Rattle.std.proofs.Common.{◌≡◌, ℕ, zero, suc, ◌<◌, List, [], ◌∷◌, length, get_or, set, take, ◌+◌, refl, ap, subst, arith}
use Rattle.std.specs.List.{AllByRecursion, AllZip}
use Rattle.cluster_crew.specs.Watching.{AllStay}

module _ {A B : Type 0} (At : A → B → Type 0) where
  -- of each element there is one that it stands at
  pub zip_at : (xs : List A) (bs : List B) (k : ℕ) (d : B) → AllZip At xs bs → k < length bs → (a : A) × At a (get_or bs k d)
  zip_at [] [] k d all within = absurd (omega (arith, within))
  zip_at [] (b ∷ bs) k d all within = absurd all
  zip_at (a ∷ xs) [] k d all within = absurd all
  zip_at (a ∷ xs) (b ∷ bs) zero d all within = (a, all.0)
  zip_at (a ∷ xs) (b ∷ bs) (suc k) d all within = zip_at xs bs k d all.1 (omega (arith, within))

  pub zip_set : (xs : List A) (bs : List B) (k : ℕ) (d b : B) → ((a : A) → At a (get_or bs k d) → At a b) → AllZip At xs bs → AllZip At xs (set bs k b)
  zip_set [] [] k d b stays all = all
  zip_set [] (x ∷ bs) k d b stays all = absurd all
  zip_set (a ∷ xs) [] k d b stays all = absurd all
  zip_set (a ∷ xs) (x ∷ bs) zero d b stays all = (stays a all.0, all.1)
  zip_set (a ∷ xs) (x ∷ bs) (suc k) d b stays all = (all.0, zip_set xs bs k d b stays all.1)

  -- one element more has changed
  pub stay_set : (before bs : List B) (k : ℕ) (d b : B) → AllStay At before bs → ((a : A) → At a (get_or bs k d) → At a b) → AllStay At before (set bs k b)
  stay_set before bs k d b stay stays xs all = zip_set xs bs k d b stays (stay xs all)

  zip_each : (xs : List A) (bs cs : List B) (R : B → B → Type 0) → ((b c : B) → R b c → (a : A) → At a b → At a c) → AllZip R bs cs → AllZip At xs bs
      → AllZip At xs cs
  zip_each [] [] [] R stays all at = tt
  zip_each [] [] (c ∷ cs) R stays all at = absurd all
  zip_each [] (b ∷ bs) cs R stays all at = absurd at
  zip_each (a ∷ xs) [] cs R stays all at = absurd at
  zip_each (a ∷ xs) (b ∷ bs) [] R stays all at = absurd all
  zip_each (a ∷ xs) (b ∷ bs) (c ∷ cs) R stays all at = (stays b c all.0 a at.0, zip_each xs bs cs R stays all.1 at.1)

  -- all have changed by a relation that leaves each in its place
  pub stay_each : (bs cs : List B) (R : B → B → Type 0) → ((b c : B) → R b c → (a : A) → At a b → At a c) → AllZip R bs cs → AllStay At bs cs
  stay_each bs cs R stays all xs at = zip_each xs bs cs R stays all at

  pub zip_length : (xs : List A) (bs : List B) → AllZip At xs bs → length xs ≡ length bs
  zip_length [] [] all = refl
  zip_length [] (b ∷ bs) all = absurd all
  zip_length (a ∷ xs) [] all = absurd all
  zip_length (a ∷ xs) (b ∷ bs) all = ap suc (zip_length xs bs all.1)

module _ {B : Type 0} (P : B → Type 0) where
  pub all_set : (bs : List B) (k : ℕ) (d b : B) → (P (get_or bs k d) → P b) → AllByRecursion P bs → AllByRecursion P (set bs k b)
  all_set [] k d b stays all = all
  all_set (x ∷ bs) zero d b stays all = (stays all.0, all.1)
  all_set (x ∷ bs) (suc k) d b stays all = (all.0, all_set bs k d b stays all.1)

  pub all_at : (bs : List B) (k : ℕ) (d : B) → AllByRecursion P bs → k < length bs → P (get_or bs k d)
  all_at [] k d all within = absurd (omega (arith, within))
  all_at (b ∷ bs) zero d all within = all.0
  all_at (b ∷ bs) (suc k) d all within = all_at bs k d all.1 (omega (arith, within))

  pub all_each : (bs cs : List B) (R : B → B → Type 0) → ((b c : B) → R b c → P b → P c) → AllZip R bs cs → AllByRecursion P bs → AllByRecursion P cs
  all_each [] [] R stays all each = tt
  all_each [] (c ∷ cs) R stays all each = absurd all
  all_each (b ∷ bs) [] R stays all each = absurd all
  all_each (b ∷ bs) (c ∷ cs) R stays all each = (stays b c all.0 each.0, all_each bs cs R stays all.1 each.1)

  taken_suc : (bs : List B) (k : ℕ) (b : B) → k < length bs → AllByRecursion P (take k bs) → P b → AllByRecursion P (take (suc k) (set bs k b))
  taken_suc [] k b within all one = absurd (omega (arith, within))
  taken_suc (x ∷ bs) zero b within all one = (one, tt)
  taken_suc (x ∷ bs) (suc k) b within all one = (all.0, taken_suc bs k b (omega (arith, within)) all.1 one)

  -- one more of the first is such
  pub taken_set : (bs : List B) (k : ℕ) (b : B) → k < length bs → AllByRecursion P (take k bs) → P b → AllByRecursion P (take (k + 1) (set bs k b))
  taken_set bs k b within all one =
      let at : suc k ≡ k + 1 = omega arith in subst (λ n. AllByRecursion P (take n (set bs k b))) at (taken_suc bs k b within all one)
