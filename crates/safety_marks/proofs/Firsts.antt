-- The first positions of removals along lists of entries: of a longer list, and that a position is below them or at or above one.
use Rattle.std.proofs.Common.{◌≡◌, ◌∙◌, ◌⊎◌, ℕ, ◌+◌, ◌≤◌, List, [], ◌∷◌, ◌++◌, Contains, Option, Some, None, refl, ap, inl, inr}
use Rattle.std.specs.List.{cons_option}
use Rattle.std.proofs.lemmas.Bool.{cases_lt}
use Rattle.fix_ante.specs.Windows.{Window}
use Rattle.cut_core.specs.declared.effects.Effect.{Effect}
use Rattle.cut_core.specs.declared.effects.Effect.TheVariants.{Covered, Opened, Removed}
use Rattle.cut_core.specs.declared.effects.Reason.{Reason}
use Rattle.cut_core.specs.Agreements.{Agreement, is_last_round}
use Rattle.cut_core.specs.Reasons.{fault_of}
use Rattle.cut_core.specs.Effects.{cut_effect, effect_where_fit, void_or, effect_of}
use Rattle.cut_core.specs.Fold.{after_entry, unless_void, applied, applied_all}
use Rattle.cut_core.specs.MapsAgree.{IsBelowFirst, IsBelowFirsts}
use Rattle.majority.proofs.Lists.{Contains_here, Contains_later}
use Rattle.node_rules.proofs.Lists.{on_test}
use Rattle.runs.specs.Names.{Entry}
use Rattle.runs.specs.Names.entries
use Rattle.safety_marks.specs.Removals.{first_in, firsts_from}

-- ---- longer lists

consed : {A : Type 0} (o : Option A) (xs ys : List A) → cons_option o (xs ++ ys) ≡ cons_option o xs ++ ys
consed None xs ys = refl
consed (Some x) xs ys = refl

pub firsts_more : (a : Agreement) (known more : List Entry) → firsts_from a (known ++ more) ≡ firsts_from a known ++ firsts_from (applied_all a known) more
firsts_more a [] more = refl
firsts_more a (entry ∷ known) more =
    let first : Option ℕ = first_in (effect_of a entry) in
    ap (cons_option first) (firsts_more (applied a entry) known more)
    ∙ consed first (firsts_from (applied a entry) known) (firsts_from (applied_all (applied a entry) known) more)

-- ---- a position

abbrev pub HasFirst : List ℕ → ℕ → Type 0
HasFirst firsts position = (first : ℕ) × (first ≤ position) × Contains firsts first

later_first : (first : ℕ) (firsts : List ℕ) (position : ℕ) → HasFirst firsts position → HasFirst (first ∷ firsts) position
later_first first firsts position has = (has.0, has.1, Contains_later first has.0 firsts has.2)

by_effect : (position : ℕ) (effect : Effect) (Below : Type 0) (firsts : List ℕ) → Below ⊎ HasFirst firsts position
    → (IsBelowFirst effect position × Below) ⊎ HasFirst (cons_option (first_in effect) firsts) position
by_effect position (Removed shard first) Below firsts rest =
    elim (cases_lt position first) [
      | inl below ↦ elim rest [ inl all ↦ inl (below, all) | inr some ↦ inr (later_first first firsts position some) ]
      | inr above ↦ inr (first, above, Contains_here first firsts)
    ]
by_effect position _ Below firsts rest = elim rest [ inl all ↦ inl (tt, all) | inr some ↦ inr some ]

pub below_or_first : (a : Agreement) (entries : List Entry) (position : ℕ) → IsBelowFirsts a entries position ⊎ HasFirst (firsts_from a entries) position
below_or_first a [] position = inl tt
below_or_first a (entry ∷ entries) position =
    let next : Agreement = applied a entry in
    by_effect position (effect_of a entry) (IsBelowFirsts next entries position) (firsts_from next entries) (below_or_first next entries position)

-- ---- a removal covers nothing

cut_removes_none : (a : Agreement) (granted : Option Window) (shard first : ℕ) → cut_effect a granted ≡ Removed shard first → ⊥
cut_removes_none a None shard first e = cc
cut_removes_none a (Some window) shard first e =
    on_test (λ (effect : Effect). effect ≡ Removed shard first → ⊥) (is_last_round a) (Opened window.number) (Covered (a.rounds + 1)) (λ _ same. cc)
    (λ _ same. cc) e

removed_fit : (a : Agreement) (entry : Entry) (shard first : ℕ) → effect_where_fit a entry ≡ Removed shard first
    → (after_entry a entry).covered ≡ a.covered
removed_fit a entries.Nothing shard first e = refl
removed_fit a (entries.Cut window round) shard first e = absurd (cut_removes_none a a.granted shard first e)
removed_fit a (entries.Table after rounds rows) shard first e = refl
removed_fit a (entries.Remove window gone) shard first e = refl

removed_by : (a : Agreement) (entry : Entry) (shard first : ℕ) (fault : Option Reason) → void_or fault (effect_where_fit a entry) ≡ Removed shard first
    → (unless_void fault a (after_entry a entry)).covered ≡ a.covered
removed_by a entry shard first None e = removed_fit a entry shard first e
removed_by a entry shard first (Some reason) e = refl

pub removed_covers_none : (a : Agreement) (entry : Entry) (shard first : ℕ) → effect_of a entry ≡ Removed shard first
    → (applied a entry).covered ≡ a.covered
removed_covers_none a entry shard first e = removed_by a entry shard first (fault_of a entry) e
