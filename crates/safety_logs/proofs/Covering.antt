-- A good entry covers no more of a shard than counts: a cut covers a round of each row, and its rows have it.
use Rattle.std.proofs.Common.{◌≡◌, ◌∙◌, ℕ, ◌+◌, ◌≤◌, ◌==◌, not, List, [], ◌∷◌, Option, Some, None, inl, inr, refl, sym, ap, subst, arith}
use Rattle.std.proofs.lemmas.Bool.{cases_Bool, eqb-true, not-false}
use Rattle.fix_ante.specs.declared.spots.Spot.{Spot}
use Rattle.fix_ante.specs.Windows.{Window, round_begin, round_end, start_after}
use Rattle.cut_core.specs.declared.effects.Reason.{Reason}
use Rattle.cut_core.specs.declared.effects.Reason.TheVariants.{WrongWindow, WrongRound}
use Rattle.cut_core.specs.Agreements.{Agreement, count_of, is_gone, is_last_round}
use Rattle.cut_core.specs.Fold.{with_round, open_granted, after_cut, after_entry, unless_void, applied}
use Rattle.cut_core.specs.Map.{covered_locals}
use Rattle.cut_core.specs.Reasons.{fault_of}
use Rattle.cut_core.specs.Soundness.{IsSound}
use Rattle.cut_core.proofs.Counts.{quota_of_absent}
use Rattle.cut_core.proofs.Kept.{count_of_round, gone_row, starts_round}
use Rattle.cut_core.proofs.Sound.{no_fault}
use Rattle.node_rules.proofs.Lists.{on_test}
use Rattle.runs.specs.Names.{Entry}
use Rattle.runs.specs.Names.entries
use Rattle.safety_logs.specs.Cuts.{RowsCount, IsGoodWhere}

-- ---- a round

-- where a row counts to the end of a round, it goes on no later
rows_reach : (counts : ℕ → ℕ) (round : ℕ) (spots : List Spot) (shard : ℕ) → RowsCount counts round spots → start_after spots (round + 1) shard ≤ counts shard
rows_reach counts round [] shard all = omega arith
rows_reach counts round (s ∷ spots) shard all =
    on_test (λ (k : ℕ). k ≤ counts shard) (s.shard == shard) (round_begin s (round + 1)) (start_after spots (round + 1) shard)
    (λ same. subst (λ (x : ℕ). round_end s round ≤ counts x) (eqb-true s.shard shard same) all.0) (λ _. rows_reach counts round spots shard all.1)

module _ (a : Agreement) (is : IsSound a) (counts : ℕ → ℕ) where
  round_counts : (shard : ℕ) → RowsCount counts a.rounds a.current.spots → covered_locals a shard ≤ counts shard
      → count_of shard (with_round a).covered ≤ counts shard
  round_counts shard rows before =
      elim (cases_Bool (is_gone a shard)) [
        | inl gone ↦ omega (arith, before, count_of_round a shard is, quota_of_absent a.current.spots shard (gone_row a is.rows shard gone))
        | inr stays ↦ omega (arith, starts_round a shard is stays, rows_reach counts a.rounds a.current.spots shard rows)
      ]

  -- ---- an entry

  opened_covered : (b : Agreement) (granted : Option Window) → (open_granted b granted).covered ≡ b.covered
  opened_covered b None = refl
  opened_covered b (Some window) = refl

  cut_covered : (after_cut a).covered ≡ (with_round a).covered
  cut_covered =
      on_test (λ (b : Agreement). b.covered ≡ (with_round a).covered) (is_last_round a) (open_granted (with_round a) a.granted) (with_round a)
      (λ _. opened_covered (with_round a) a.granted) (λ _. refl)

  -- a cut that fits is of the next round
  is_next_round : (window round : ℕ) → fault_of a (entries.Cut window round) ≡ None → round ≡ a.rounds
  is_next_round window round fits =
      let named = no_fault (not (window == a.current.number)) (WrongWindow a.current.number) _ fits in
      let next = no_fault (not (round == a.rounds)) (WrongRound a.rounds) _ named.1 in
      eqb-true round a.rounds (not-false (round == a.rounds) next.0)

  covers_none : (fault : Option Reason) (after : Agreement) (shard : ℕ) → after.covered ≡ a.covered → covered_locals a shard ≤ counts shard
      → count_of shard (unless_void fault a after).covered ≤ counts shard
  covers_none None after shard same before = subst (λ owners. count_of shard owners ≤ counts shard) (sym same) before
  covers_none (Some reason) after shard same before = before

  pub entry_counts : (entry : Entry) (shard : ℕ) → IsGoodWhere counts a entry → covered_locals a shard ≤ counts shard
      → covered_locals (applied a entry) shard ≤ counts shard
  entry_counts (entries.Cut window round) shard good before =
      let covered : (unless_void (fault_of a (entries.Cut window round)) a (after_cut a)).covered ≡ (with_round a).covered =
      ap (λ (fault : Option Reason). (unless_void fault a (after_cut a)).covered) good.0 ∙ cut_covered in
      subst (λ owners. count_of shard owners ≤ counts shard) (sym covered)
      (round_counts shard (subst (λ (r : ℕ). RowsCount counts r a.current.spots) (is_next_round window round good.0) good.1) before)
  entry_counts entries.Nothing shard good before = covers_none (fault_of a entries.Nothing) a shard refl before
  entry_counts (entries.Table after rounds rows) shard good before =
      covers_none (fault_of a (entries.Table after rounds rows)) (after_entry a (entries.Table after rounds rows)) shard refl before
  entry_counts (entries.Remove window gone) shard good before =
      covers_none (fault_of a (entries.Remove window gone)) (after_entry a (entries.Remove window gone)) shard refl before
