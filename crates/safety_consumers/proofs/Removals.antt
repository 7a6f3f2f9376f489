-- The first position of a removal isn't covered.
use Rattle.std.proofs.Common.{◌≡◌, ℕ, ◌+◌, ◌≤◌, length, Option, Some, None, arith}
use Rattle.quota_table.specs.Tables.{quotas_before}
use Rattle.fix_ante.specs.Windows.{Window, rows_of, end_after}
use Rattle.cut_core.specs.declared.effects.Effect.{Effect}
use Rattle.cut_core.specs.declared.effects.Effect.TheVariants.{Removed, Opened, Covered}
use Rattle.cut_core.specs.declared.effects.Reason.{Reason}
use Rattle.cut_core.specs.Agreements.{Agreement, is_last_round}
use Rattle.cut_core.specs.Effects.{cut_effect, effect_where_fit, void_or, effect_of}
use Rattle.cut_core.specs.Reasons.{fault_of}
use Rattle.cut_core.specs.Soundness.{IsSound}
use Rattle.node_rules.specs.Names.{Entry}
use Rattle.node_rules.specs.Names.entries
use Rattle.node_rules.proofs.Lists.{on_test}

fitting : (fault : Option Reason) (effect : Effect) (shard first : ℕ) → void_or fault effect ≡ Removed shard first → effect ≡ Removed shard first
fitting None effect shard first e = e
fitting (Some reason) effect shard first e = absurd (cc)

cut_removes_none : (a : Agreement) (granted : Option Window) (shard first : ℕ) → cut_effect a granted ≡ Removed shard first → ⊥
cut_removes_none a None shard first e = absurd (cc)
cut_removes_none a (Some window) shard first e =
    on_test (λ effect. effect ≡ Removed shard first → ⊥) (is_last_round a) (Opened window.number) (Covered (a.rounds + 1)) (λ _ other. absurd (cc))
    (λ _ other. absurd (cc)) e

where_fit : (a : Agreement) (entry : Entry) (shard first : ℕ) → IsSound a → effect_where_fit a entry ≡ Removed shard first → length a.covered ≤ first
where_fit a entries.Nothing shard first is e = absurd (cc)
where_fit a (entries.Cut window round) shard first is e = absurd (cut_removes_none a a.granted shard first e)
where_fit a (entries.Table after rounds rows) shard first is e = absurd (cc)
where_fit a (entries.Remove window gone) shard first is e =
    let same : end_after a.current a.rounds + quotas_before (rows_of a.current.spots) gone ≡ first = cc in
    omega (arith, is.covered, same)

pub first_uncovered : (a : Agreement) (entry : Entry) (shard first : ℕ) → IsSound a → effect_of a entry ≡ Removed shard first → length a.covered ≤ first
first_uncovered a entry shard first is e = where_fit a entry shard first is (fitting (fault_of a entry) (effect_where_fit a entry) shard first e)
