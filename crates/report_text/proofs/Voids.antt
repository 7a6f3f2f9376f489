-- An entry's effect is void where the entry doesn't fit.
use Rattle.std.proofs.Common.{◌≡◌, true, false, cond, Some, None, refl, ◌+◌}
use Rattle.std.specs.Option.{is_some}
use Rattle.cut_core.specs.declared.effects.Effect.TheVariants.{Covered, Opened}
use Rattle.cut_core.specs.Agreements.{Agreement, is_last_round}
use Rattle.cut_core.specs.Effects.{cut_effect, effect_where_fit, void_or, effect_of}
use Rattle.cut_core.specs.Reasons.{fault_of}
use Rattle.runs.specs.Names.{Entry}
use Rattle.runs.specs.Names.entries
use Rattle.report_text.specs.inside.Telling.{is_void_effect}

fits : (a : Agreement) (entry : Entry) → is_void_effect (effect_where_fit a entry) ≡ false
fits a entries.Nothing = refl
fits a (entries.Cut window round) =
    elim a.granted as (λ o. is_void_effect (cut_effect a o) ≡ false) [
      | None ↦ refl
      | Some granted ↦ elim (is_last_round a) as (λ b. is_void_effect (cond b (Opened granted.number) (Covered (a.rounds + 1))) ≡ false) [ true ↦ refl | false ↦ refl ]
    ]
fits a (entries.Table after rounds rows) = refl
fits a (entries.Remove window shard) = refl

pub effect_void : (a : Agreement) (entry : Entry) → is_void_effect (effect_of a entry) ≡ is_some (fault_of a entry)
effect_void a entry =
    elim (fault_of a entry) as (λ o. is_void_effect (void_or o (effect_where_fit a entry)) ≡ is_some o) [
      | None ↦ fits a entry
      | Some reason ↦ refl
    ]
