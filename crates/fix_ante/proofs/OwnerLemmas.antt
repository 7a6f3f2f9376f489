-- An owner is of a shard from 0 to 5, and its local is at most its position.
use Rattle.std.proofs.Common.{◌≡◌, ℕ, ◌+◌, ◌-◌, ◌*◌, ◌/◌, ◌%◌, ◌<◌, ◌≤◌, true, List, [], ◌∷◌, Option, Some, None, refl, sym, ◌∙◌, inl, inr, arith}
use Rattle.std.specs.Prelude.{nat_lt, nat_le}
use Rattle.std.specs.List.{list_all}
use Rattle.std.specs.Option.{IfSome}
use Rattle.std.proofs.lemmas.Bool.{cases_lt, and_parts, leb-true, ltb-true}
use Rattle.std.proofs.lemmas.Nat.{div-add-mod', mul-le}
use Rattle.quota_table.specs.Rows.{is_row}
use Rattle.quota_table.specs.Tables.{quotas_of}
use Rattle.fix_ante.specs.declared.spots.Spot.{Spot}
use Rattle.fix_ante.specs.declared.spots.Owner.{Owner}
use Rattle.fix_ante.specs.Windows.{Window, IsWindow, rows_of, row_of, width_of}
use Rattle.fix_ante.specs.Layout.{owner_of}
use Rattle.fix_ante.specs.Positions.{owner_among}
use Rattle.fix_ante.proofs.PositionLemmas.{owner_among_here, owner_among_past, owner_of_within, place_of_owner}

-- a round's owner is of a shard from 0 to 5, and its local isn't past its position
owner_among_limits : (base width : ℕ) (spots : List Spot) (round at : ℕ) (o : Owner) → list_all is_row (rows_of spots) ≡ true
    → list_all (λ (s : Spot). nat_le s.start base) spots ≡ true → quotas_of (rows_of spots) ≤ width → owner_among spots round at ≡ Some o
    → (o.shard < 6) × (o.local ≤ base + round * width + at)
owner_among_limits base width [] round at o rows starts quotas e = absurd (cc)
owner_among_limits base width (s ∷ ss) round at o rows starts quotas e =
    let row = and_parts (is_row (row_of s)) (list_all is_row (rows_of ss)) rows in
    let start = and_parts (nat_le s.start base) (list_all (λ (t : Spot). nat_le t.start base) ss) starts in
    elim (cases_lt at s.quota) [
      | inl here ↦
          let first = owner_among_here s ss round at here in
          let shard : s.shard ≡ o.shard = cc in
          let local : s.start + round * s.quota + at ≡ o.local = cc in
          let below = ltb-true s.shard 6 ((and_parts (nat_lt s.shard 6) _ row.0).0) in
          let from = leb-true s.start base start.0 in
          let rounds = mul-le round s.quota round width (omega arith) (omega arith) in
          (omega arith, omega arith)
      | inr past ↦
          let later = owner_among_limits base width ss round (at - s.quota) o row.1 start.1 (omega arith) (sym (owner_among_past s ss round at past) ∙ e) in
          (later.0, omega (arith, later.1))
    ]

owner_of_limits_found : (w : Window) (p : ℕ) (found : Option Owner) → IsWindow w → owner_of w p ≡ found → IfSome found (λ o. (o.shard < 6) × (o.local ≤ p))
owner_of_limits_found w p None is e = tt
owner_of_limits_found w p (Some o) is e =
    let place = place_of_owner w p o is e in
    let split = div-add-mod' (p - w.base) (width_of w) in
    let limits = owner_among_limits w.base (width_of w) w.spots ((p - w.base) / width_of w) ((p - w.base) % width_of w) o is.table.within is.starts (omega arith) (sym (owner_of_within w p place.0 place.1) ∙ e) in
    (limits.0, omega (arith, place.0, limits.1))

-- an owner in a window is of a shard from 0 to 5, and its local isn't past its position
pub owner_of_limits : (w : Window) (p : ℕ) → IsWindow w → IfSome (owner_of w p) (λ o. (o.shard < 6) × (o.local ≤ p))
owner_of_limits w p is = owner_of_limits_found w p _ is refl
