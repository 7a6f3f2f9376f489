-- Positions, ends and slots stay within the ranges of their types.
use Rattle.std.proofs.Common.{◌≡◌, ℕ, ◌^◌, ◌≤◌, List, length, Option, Some, None, refl, sym, subst, arith}
use Rattle.std.specs.Option.{IfSome, option_copied}
use denote.Ref.{Bor}
use Rattle.std.proofs.lemmas.Nat.{mul-le}
use Rattle.fix_ante.specs.declared.window.Window.{Window as WindowHeld}
use Rattle.fix_ante.specs.Windows.{Window, width_of, end_of}
use Rattle.cut_core.specs.declared.agreed.Agreed.TheInside.{Inside}
use Rattle.cut_core.specs.Agreements.{Agreement, Gone}
use Rattle.cut_core.specs.Map.{end_among}
use Rattle.cut_core.specs.Soundness.{MayBeGrant, IsSound, HasFinalEnds}
use Rattle.cut_core.specs.inside.Kept.{agreement_of, IsAgreed}
use Rattle.cut_core.proofs.Kept.{end_of_window}
use Rattle.cut_core.proofs.Ends.{AreCounts, end_among_counted}

-- what holds of the value that the fields stand for
pub record IsSettled (a : Agreement) : Type 0 where
  pub sound : IsSound a
  pub final : HasFinalEnds a
  pub few : a.slots ≤ 1000000

pub IsSettled_view : (i : Inside) (a : Agreement) → agreement_of i ≡ a → IsAgreed i → IsSettled a
IsSettled_view i a view is = subst IsSettled view (record { sound = is.sound; final = is.final; few = is.few })

-- windows and covered positions end at 2^48 at most
pub end_reach : (a : Agreement) → IsSound a → a.slots ≤ 1000000 → end_of a.current ≤ 2 ^ 48
end_reach a is few = omega (arith, is.reach, end_of_window a.current is.window)

granted_reach_of : (a : Agreement) (g : Option Window) → IsSound a → MayBeGrant a g → a.slots ≤ 1000000 → IfSome g (λ w. end_of w ≤ 2 ^ 48)
granted_reach_of a None is grant few = tt
granted_reach_of a (Some w) is grant few = omega (arith, is.reach, end_of_window a.current is.window, grant.base, end_of_window w grant.window)

pub granted_reach : (a : Agreement) → IsSound a → a.slots ≤ 1000000 → IfSome a.granted (λ w. end_of w ≤ 2 ^ 48)
granted_reach a is few = granted_reach_of a a.granted is is.grant few

pub covered_reach : (a : Agreement) → IsSound a → a.slots ≤ 1000000 → length a.covered ≤ 2 ^ 48
covered_reach a is few =
    omega (arith, is.covered, end_reach a is few, mul-le a.rounds (width_of a.current) a.current.rounds (width_of a.current) (omega (arith, is.short)) (omega arith))

-- a final end is the count of the covered locals
end_by : (count : ℕ → ℕ) (gs : List Gone) (shard : ℕ) (found : Option ℕ) → AreCounts count gs → end_among gs shard ≡ found
    → IfSome found (λ end. end ≡ count shard)
end_by count gs shard None counts e = tt
end_by count gs shard (Some end) counts e = end_among_counted count gs shard end counts e

pub end_among_IfSome : (count : ℕ → ℕ) (gs : List Gone) (shard : ℕ) → AreCounts count gs → IfSome (end_among gs shard) (λ end. end ≡ count shard)
end_among_IfSome count gs shard counts = end_by count gs shard (end_among gs shard) counts refl

-- the end of a window that is lent
pub lent_IfSome : (lent : Option (Bor WindowHeld)) (g : Option Window) → option_copied lent ≡ g → IfSome g (λ w. end_of w ≤ 2 ^ 48)
    → IfSome lent (λ b. end_of b.now ≤ 2 ^ 48)
lent_IfSome None g e h = tt
lent_IfSome (Some b) None e h = absurd (cc)
lent_IfSome (Some b) (Some w) e h = let same : b.now ≡ w = cc in subst (λ x. end_of x ≤ 2 ^ 48) (sym same) h
