-- The last stamp of a journal, and a step more at its end.
use Rattle.std.proofs.Common.{◌≡◌, ℕ, zero, suc, ◌<◌, ◌-◌, List, [], ◌∷◌, ◌++◌, length, arith, Some}
use Rattle.std.specs.List.{slice_get, AllByRecursion}
use Rattle.net_model.specs.declared.journal.Stamped.{Stamped}
use Rattle.net_model.specs.Journals.{OwnSteps, IsJournal, Rises, last_stamp, IsAbove, GoesOn}

last_at : (steps : List Stamped) (n : ℕ) (last : Stamped) → suc n ≡ length steps → slice_get steps n ≡ Some last → last_stamp steps ≡ Some last.stamp
last_at [] n last e there = absurd (omega arith)
last_at (x ∷ []) zero last e there = cc
last_at (x ∷ []) (suc n) last e there = absurd (omega arith)
last_at (x ∷ y ∷ later) zero last e there = absurd (omega arith)
last_at (x ∷ y ∷ later) (suc n) last e there = last_at (y ∷ later) n last (omega arith) there

pub last_is : (steps : List Stamped) (last : Stamped) → slice_get steps (length steps - 1) ≡ Some last → last_stamp steps ≡ Some last.stamp
last_is [] last there = absurd (cc)
last_is (x ∷ later) last there = last_at (x ∷ later) (length (x ∷ later) - 1) last (omega arith) there

all_push : {X : Type 0} (P : X → Type 0) (xs : List X) (x : X) → AllByRecursion P xs → P x → AllByRecursion P (xs ++ x ∷ [])
all_push P [] x all p = (p, tt)
all_push P (y ∷ xs) x all p = (all.0, all_push P xs x all.1 p)

-- where the last stamp is below a number, all stamps are
first_below : (x : Stamped) (later : List Stamped) (stamp : ℕ) → Rises (x ∷ later) → IsAbove stamp (last_stamp (x ∷ later)) → x.stamp < stamp
first_below x [] stamp rises above = above
first_below x (y ∷ later) stamp rises above = omega (arith, rises.0.0, first_below y later stamp rises.1 above)

above_later : (x y : Stamped) (later : List Stamped) (stamp : ℕ) → IsAbove stamp (last_stamp (x ∷ y ∷ later)) → IsAbove stamp (last_stamp (y ∷ later))
above_later x y later stamp above = above

rises_push : (steps : List Stamped) (x : Stamped) → Rises steps → IsAbove x.stamp (last_stamp steps) → Rises (steps ++ x ∷ [])
rises_push [] x rises above = (tt, tt)
rises_push (y ∷ []) x rises above = ((above, tt), (tt, tt))
rises_push (y ∷ z ∷ later) x rises above = (
  all_push (λ (w : Stamped). y.stamp < w.stamp) (z ∷ later) x rises.0 (first_below y (z ∷ later) x.stamp rises above),
  rises_push
      (z ∷ later) x rises.1 above,
)

pub journal_more : (j : OwnSteps) (x : Stamped) → IsJournal j → GoesOn j x → IsJournal (record j { steps = j.steps ++ x ∷ [] })
journal_more j x is on = record {
  own = all_push (λ (y : Stamped). y.entry.node ≡ j.node) j.steps x is.own on.own;
  rises = rises_push j.steps x is.rises on.rises;
}
