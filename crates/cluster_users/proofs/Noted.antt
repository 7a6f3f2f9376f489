-- What a look more does to the looks that are kept.
use Rattle.std.proofs.Common.{◌≡◌, ℕ, ◌≤◌, ◌<◌, cond, Bool, true, false, List, [], ◌∷◌, ◌++◌}
use Rattle.std.proofs.Common.{Option, None, Some, refl, sym, subst, ⊎_elim, arith}
use Rattle.std.proofs.lemmas.Bool.{eqb-false, cases_lt}
use Rattle.view_cell.specs.declared.look.Look.{Look}
use Rattle.view_cell.specs.Looks.{last_number}
use Rattle.cluster_users.specs.declared.notes.Notes.{Notes}
use Rattle.cluster_users.specs.Noting.{noted, is_again, RiseStrictly, last_noted}
use Rattle.cluster_users.specs.inside.Readers.{IsUpTo, IsUpToBefore}
use Rattle.cluster_users.proofs.Rising.{strict_more, take_strict}

between : (last before now : ℕ) → last ≤ before → before ≤ now → (before ≡ now → ⊥) → last < now
between last before now below up differs =
    ⊎_elim (λ (lt : before < now). omega (arith, below, lt)) (λ (ge : now ≤ before). absurd (differs (omega (arith, up, ge)))) (cases_lt before now)

kept_rise : (again : Bool) (before : Option ℕ) (kept : List Look) (look : Look) → is_again before look.ops ≡ again → RiseStrictly kept
    → IsUpToBefore before kept look.ops
    → RiseStrictly (cond again kept (kept ++ look ∷ []))
kept_rise true before kept look e rise up = rise
kept_rise false None kept look e rise up = subst (λ l. RiseStrictly (l ++ look ∷ [])) (sym up) tt
kept_rise false (Some before) kept look e rise up =
    strict_more kept look rise (between (last_number 0 kept) before look.ops up.0 up.1 (eqb-false before look.ops e))

-- with a look more the numbers still rise
pub noted_rise : (notes : Notes) (look : Look) → RiseStrictly notes.kept → IsUpTo notes look.ops → RiseStrictly (noted notes look).kept
noted_rise notes look rise up = kept_rise (is_again notes.before look.ops) notes.before notes.kept look refl rise up

-- and so they do with an episode's last look
pub last_rise : (met : Bool) (begun : ℕ) (notes : Notes) (last : Look) → RiseStrictly notes.kept → IsUpTo notes last.ops
    → RiseStrictly (last_noted met begun notes last).kept
last_rise true begun notes last rise up = noted_rise notes last rise up
last_rise false begun notes last rise up = take_strict begun notes.kept rise
