-- Rows give a local the index at which the layout has it, and no other.
use Rattle.std.proofs.Common.{◌≡◌, ℕ, zero, suc, ◌+◌, ◌-◌, ◌*◌, ◌/◌, ◌%◌, ◌<◌, ◌≤◌, ◌==◌, ◌&&◌, true, false, List, [], ◌∷◌, Option, Some, None, refl, sym, ap, ◌∙◌, ◌⊎◌, inl, inr, arith}
use Rattle.std.specs.Prelude.{nat_lt, nat_le}
use Rattle.std.specs.List.{slice_get}
use Rattle.std.specs.Option.{option_map, IsSome, IfSome}
use Rattle.std.proofs.lemmas.Bool.{cases_lt, cases_Bool, cond-true, cond-false, lt-ltb, le-ltb, le-leb, ltb-true, leb-true, eq-eqb, eqb-true, and_parts, and_from, or_left, or_right, not-true, both_ways}
use Rattle.std.proofs.lemmas.Nat.{div-mul-add, mod-mul-add, div_below, mod_below, div-add-mod', mul-add-lt, mul-le}
use Rattle.std.proofs.lemmas.Option.{slice_get_within, slice_get_past}
use Rattle.quota_table.specs.Rows.{has_shard, is_distinct}
use Rattle.quota_table.specs.Tables.{quotas_of}
use Rattle.fix_ante.specs.declared.spots.Spot.{Spot}
use Rattle.fix_ante.specs.declared.spots.Owner.{Owner}
use Rattle.fix_ante.specs.Windows.{Window, IsWindow, rows_of, width_of, end_of}
use Rattle.fix_ante.specs.Layout.{layout_of, index_of, place_of, owner_of}
use Rattle.fix_ante.specs.Positions.{Lay, lay_of, lay_past, index_in, index_among, position_of, owner_among}
use Rattle.fix_ante.proofs.Entries.{index_of_only, index_of_none}
use Rattle.fix_ante.proofs.LayoutLemmas.{length_layout_of, slice_get_rounds_from}

-- who has a place that the first row's quota reaches, and one past it
pub owner_among_here : (s : Spot) (ss : List Spot) (round at : ℕ) → at < s.quota
    → owner_among (s ∷ ss) round at ≡ Some (record { shard = s.shard; local = s.start + round * s.quota + at })
owner_among_here s ss round at here = cond-true _ _ _ (lt-ltb at s.quota here)

pub owner_among_past : (s : Spot) (ss : List Spot) (round at : ℕ) → s.quota ≤ at → owner_among (s ∷ ss) round at ≡ owner_among ss round (at - s.quota)
owner_among_past s ss round at past = cond-false _ _ _ (le-ltb at s.quota past)

-- a round's owner is of one of the rows
pub owner_among_has_shard : (spots : List Spot) (round at : ℕ) (o : Owner) → owner_among spots round at ≡ Some o → has_shard o.shard (rows_of spots) ≡ true
owner_among_has_shard [] round at o e = absurd (cc)
owner_among_has_shard (s ∷ ss) round at o e =
    elim (cases_lt at s.quota) [
      | inl here ↦
          let first = owner_among_here s ss round at here in
          let same : s.shard ≡ o.shard = cc in
          or_left _ _ (eq-eqb s.shard o.shard same)
      | inr past ↦ or_right _ _ (owner_among_has_shard ss round (at - s.quota) o (sym (owner_among_past s ss round at past) ∙ e))
    ]

-- the row's local of a round and a place below its quota has that index
pub index_in_at : (lay : Lay) (s : Spot) (round at : ℕ) → round < lay.rounds → at < s.quota
    → index_in lay s (s.start + round * s.quota + at) ≡ Some (round * lay.width + lay.before + at)
index_in_at lay s round at h k =
    let local = s.start + round * s.quota + at in
    let ahead : local - s.start ≡ round * s.quota + at = omega arith in
    let within : round * s.quota + at < s.quota * lay.rounds = mul-add-lt round s.quota at lay.rounds h k in
    let from : nat_le s.start local ≡ true = le-leb s.start local (omega arith) in
    let below : nat_lt (local - s.start) (lay.rounds * s.quota) ≡ true = lt-ltb (local - s.start) (lay.rounds * s.quota) (omega arith) in
    let quotient : (local - s.start) / s.quota ≡ round = rw ahead (div-mul-add round s.quota at k) in
    let remainder : (local - s.start) % s.quota ≡ at = rw ahead (mod-mul-add round s.quota at k) in
    cond-true _ _ _ (and_from _ _ from below)
    ∙ ap (λ n. Some (n * lay.width + lay.before + (local - s.start) % s.quota)) quotient
    ∙ ap (λ n. Some (round * lay.width + lay.before + n)) remainder

-- a product above a number has a factor above 0
positive : (m k n : ℕ) → n < m * k → 0 < k
positive m zero n h = absurd (omega arith)
positive m (suc k) n h = omega arith

-- an index that a row gives to a local tells the local's round and place
pub index_in_is : (lay : Lay) (s : Spot) (local i : ℕ) → index_in lay s local ≡ Some i
    → (round : ℕ) × (at : ℕ) × (round < lay.rounds) × (at < s.quota) × (i ≡ round * lay.width + lay.before + at) × (local ≡ s.start + round * s.quota + at)
index_in_is lay s local i e =
    let test = nat_le s.start local && nat_lt (local - s.start) (lay.rounds * s.quota) in
    elim (cases_Bool test) [
      | inl fits ↦
          let parts = and_parts (nat_le s.start local) (nat_lt (local - s.start) (lay.rounds * s.quota)) fits in
          let from = leb-true s.start local parts.0 in
          let below = ltb-true (local - s.start) (lay.rounds * s.quota) parts.1 in
          let some = positive lay.rounds s.quota (local - s.start) below in
          let is : Some (((local - s.start) / s.quota) * lay.width + lay.before + (local - s.start) % s.quota) ≡ Some i = sym (cond-true _ _ _ fits) ∙ e in
          let split = div-add-mod' (local - s.start) s.quota in
          ((local - s.start) / s.quota, (local - s.start) % s.quota, div_below (local - s.start) s.quota lay.rounds some below, mod_below (local - s.start) s.quota some, cc, omega arith)
      | inr outside ↦ let is : None ≡ Some i = sym (cond-false _ _ _ outside) ∙ e in absurd (cc)
    ]

-- the first row is the shard's, or it isn't
index_among_here : (lay : Lay) (s : Spot) (ss : List Spot) (o : Owner) → s.shard ≡ o.shard
    → index_among lay (s ∷ ss) o ≡ index_in lay s o.local
index_among_here lay s ss o same = cond-true _ _ _ (eq-eqb s.shard o.shard same)

index_among_later : (lay : Lay) (s : Spot) (ss : List Spot) (o : Owner) → (s.shard == o.shard) ≡ false
    → index_among lay (s ∷ ss) o ≡ index_among (lay_past lay s) ss o
index_among_later lay s ss o other = cond-false _ _ _ other

-- a shard that no later row has isn't that of a later row
pub other_shard : (s : Spot) (ss : List Spot) (shard : ℕ) → is_distinct (rows_of (s ∷ ss)) ≡ true → has_shard shard (rows_of ss) ≡ true
    → (s.shard == shard) ≡ false
other_shard s ss shard distinct has =
    let absent = not-true _ ((and_parts _ _ distinct).0) in
    elim (cases_Bool (s.shard == shard)) [
      | inl same ↦ absurd (both_ways _ absent (ap (λ n. has_shard n (rows_of ss)) (eqb-true s.shard shard same) ∙ has))
      | inr other ↦ other
    ]

-- the owner of a place in a round has the index of that round and place
pub index_among_owner : (lay : Lay) (spots : List Spot) (round at : ℕ) (o : Owner) → is_distinct (rows_of spots) ≡ true → round < lay.rounds
    → owner_among spots round at ≡ Some o → index_among lay spots o ≡ Some (round * lay.width + lay.before + at)
index_among_owner lay [] round at o distinct h e = absurd (cc)
index_among_owner lay (s ∷ ss) round at o distinct h e =
    elim (cases_lt at s.quota) [
      | inl here ↦
          let first = owner_among_here s ss round at here in
          let shard : s.shard ≡ o.shard = cc in
          let local : o.local ≡ s.start + round * s.quota + at = cc in
          index_among_here lay s ss o shard ∙ (ap (index_in lay s) local ∙ index_in_at lay s round at h here)
      | inr past ↦
          let later : owner_among ss round (at - s.quota) ≡ Some o = sym (owner_among_past s ss round at past) ∙ e in
          let other = other_shard s ss o.shard distinct (owner_among_has_shard ss round (at - s.quota) o later) in
          let index : round * lay.width + (lay.before + s.quota) + (at - s.quota) ≡ round * lay.width + lay.before + at = omega arith in
          index_among_later lay s ss o other ∙ (index_among_owner (lay_past lay s) ss round (at - s.quota) o ((and_parts _ _ distinct).1) h later ∙ ap (λ n. Some n) index)
    ]

-- an index that the rows give to a shard's local tells the round and the place in it
pub index_among_is : (lay : Lay) (spots : List Spot) (shard local i : ℕ) → index_among lay spots (record { shard = shard; local = local }) ≡ Some i
    → (round : ℕ) × (at : ℕ) × (round < lay.rounds) × (at < quotas_of (rows_of spots)) × (i ≡ round * lay.width + lay.before + at) × (owner_among spots round at ≡ Some (record { shard = shard; local = local }))
index_among_is lay [] shard local i e = absurd (cc)
index_among_is lay (s ∷ ss) shard local i e =
    elim (cases_Bool (s.shard == shard)) [
      | inl same ↦
          let is = eqb-true s.shard shard same in
          let own = index_in_is lay s local i (sym (index_among_here lay s ss (record { shard = shard; local = local }) is) ∙ e) in
          let owner : ℕ → ℕ → Option Owner = λ s l. Some (record { shard = s; local = l }) in
          (own.0, own.1, own.2, omega (arith, own.3), own.4, owner_among_here s ss own.0 own.1 own.3 ∙ (ap (λ n. owner n (s.start + own.0 * s.quota + own.1)) is ∙ ap (owner shard) (sym own.5)))
      | inr other ↦
          let later = index_among_is (lay_past lay s) ss shard local i (sym (index_among_later lay s ss (record { shard = shard; local = local }) other) ∙ e) in
          let at : s.quota + later.1 - s.quota ≡ later.1 = omega arith in
          (later.0, s.quota + later.1, later.2, omega (arith, later.3), omega (arith, later.4), owner_among_past s ss later.0 (s.quota + later.1) (omega arith) ∙ (ap (owner_among ss later.0) at ∙ later.5))
    ]

-- the entry at an index of a layout is the owner of that index's round and place
pub slice_get_layout_of : (w : Window) (i : ℕ) → i < w.rounds * width_of w → slice_get (layout_of w) i ≡ owner_among w.spots (i / width_of w) (i % width_of w)
slice_get_layout_of w i h =
    let width = width_of w in
    let some = positive w.rounds width i h in
    let split = div-add-mod' i width in
    let round : 0 + i / width ≡ i / width = omega arith in
    ap (slice_get (layout_of w)) (sym split)
    ∙ slice_get_rounds_from w.spots 0 w.rounds (i / width) (i % width) (div_below i width w.rounds some h) (mod_below i width some)
    ∙ ap (λ n. owner_among w.spots n (i % width)) round

-- an owner in a layout has by the rule the index at which it stands
pub index_from_entry : (w : Window) (i : ℕ) (o : Owner) → IsWindow w → slice_get (layout_of w) i ≡ Some o
    → index_among (lay_of w) w.spots o ≡ Some i
index_from_entry w i o is e =
    let width = width_of w in
    let within : i < w.rounds * width = omega (arith, length_layout_of w, slice_get_within (layout_of w) i o e) in
    let some = positive w.rounds width i within in
    let split = div-add-mod' i width in
    let index : (i / width) * width + 0 + i % width ≡ i = omega arith in
    index_among_owner (lay_of w) w.spots (i / width) (i % width) o is.table.distinct (div_below i width w.rounds some within) (sym (slice_get_layout_of w i within) ∙ e)
    ∙ ap (λ n. Some n) index

-- where the rule gives an index to a local, the local's owner stands at that index
pub entry_from_index : (w : Window) (shard local i : ℕ) → index_among (lay_of w) w.spots (record { shard = shard; local = local }) ≡ Some i
    → (i < w.rounds * width_of w) × (slice_get (layout_of w) i ≡ Some (record { shard = shard; local = local }))
entry_from_index w shard local i e =
    let width = width_of w in
    let found = index_among_is (lay_of w) w.spots shard local i e in
    let index : i ≡ found.0 * width + found.1 = omega (arith, found.4) in
    let below = mul-add-lt found.0 width found.1 w.rounds found.2 found.3 in
    let round : 0 + found.0 ≡ found.0 = omega arith in
    (omega arith, ap (slice_get (layout_of w)) index ∙ slice_get_rounds_from w.spots 0 w.rounds found.0 found.1 found.2 found.3 ∙ (ap (λ n. owner_among w.spots n found.1) round ∙ found.5))

index_of_from : (w : Window) (shard local : ℕ) (index : Option ℕ) → IsWindow w → index_among (lay_of w) w.spots (record { shard = shard; local = local }) ≡ index
    → index_of (layout_of w) shard local ≡ index
index_of_from w shard local None is e =
    index_of_none (layout_of w) shard local (λ j h. let there : None ≡ Some j = sym e ∙ index_from_entry w j (record { shard = shard; local = local }) is h in absurd (cc))
index_of_from w shard local (Some i) is e =
    index_of_only (layout_of w) shard local i ((entry_from_index w shard local i e).1) (λ j h. let there : Some i ≡ Some j = sym e ∙ index_from_entry w j (record { shard = shard; local = local }) is h in cc)

-- the index of a local in the layout is the one of the rule
pub index_of_layout_of : (w : Window) (shard local : ℕ) → IsWindow w
    → index_of (layout_of w) shard local ≡ index_among (lay_of w) w.spots (record { shard = shard; local = local })
index_of_layout_of w shard local is = index_of_from w shard local _ is refl

-- the place of a local in the layout is its position by the rule
pub place_of_is : (w : Window) (shard local : ℕ) → IsWindow w → place_of w shard local ≡ position_of w shard local
place_of_is w shard local is = ap (option_map (λ i. w.base + i)) (index_of_layout_of w shard local is)

-- a moved option that has a value
moved_some : (base p : ℕ) (index : Option ℕ) → option_map (λ i. base + i) index ≡ Some p → (i : ℕ) × (index ≡ Some i) × (p ≡ base + i)
moved_some base p None e = absurd (cc)
moved_some base p (Some i) e = (i, refl, cc)

-- an owner's position is in the window
pub owner_of_at : (w : Window) (i : ℕ) → owner_of w (w.base + i) ≡ slice_get (layout_of w) i
owner_of_at w i =
    let index : w.base + i - w.base ≡ i = omega arith in
    cond-false _ _ _ (le-ltb (w.base + i) w.base (omega arith)) ∙ ap (slice_get (layout_of w)) index

-- who has the position of a local is the local's owner, and the position is in the window
pub owner_of_place : (w : Window) (shard local p : ℕ) → IsWindow w → place_of w shard local ≡ Some p
    → (w.base ≤ p) × (p < end_of w) × (owner_of w p ≡ Some (record { shard = shard; local = local }))
owner_of_place w shard local p is e =
    let index = moved_some w.base p _ e in
    let entry = entry_from_index w shard local index.0 (sym (index_of_layout_of w shard local is) ∙ index.1) in
    (omega (arith, index.2), omega (arith, index.2, entry.0), ap (owner_of w) index.2 ∙ (owner_of_at w index.0 ∙ entry.1))

-- a position that has an owner is in the window, and is the place of that owner
pub place_of_owner : (w : Window) (p : ℕ) (o : Owner) → IsWindow w → owner_of w p ≡ Some o
    → (w.base ≤ p) × (p < end_of w) × (place_of w o.shard o.local ≡ Some p)
place_of_owner w p o is e =
    elim (cases_lt p w.base) [
      | inl before ↦ let none : None ≡ Some o = sym (cond-true _ _ _ (lt-ltb p w.base before)) ∙ e in absurd (cc)
      | inr from ↦
          let split : w.base + (p - w.base) ≡ p = omega arith in
          let entry : slice_get (layout_of w) (p - w.base) ≡ Some o = sym (owner_of_at w (p - w.base)) ∙ (ap (owner_of w) split ∙ e) in
          let within = slice_get_within (layout_of w) (p - w.base) o entry in
          let index = index_from_entry w (p - w.base) o is entry in
          (from, omega (arith, length_layout_of w), place_of_is w o.shard o.local is ∙ (ap (option_map (λ i. w.base + i)) index ∙ ap (λ n. Some n) split))
    ]

-- a position before the window, or past it, has no owner in it
pub owner_of_outside : (w : Window) (p : ℕ) → (p < w.base) ⊎ (end_of w ≤ p) → owner_of w p ≡ None
owner_of_outside w p (inl before) = cond-true _ _ _ (lt-ltb p w.base before)
owner_of_outside w p (inr past) =
    cond-false _ _ _ (le-ltb p w.base (omega arith)) ∙ slice_get_past (layout_of w) (p - w.base) (omega (arith, length_layout_of w))

-- who has a position of the window
pub owner_of_within : (w : Window) (p : ℕ) → w.base ≤ p → p < end_of w
    → owner_of w p ≡ owner_among w.spots ((p - w.base) / width_of w) ((p - w.base) % width_of w)
owner_of_within w p from below = cond-false _ _ _ (le-ltb p w.base from) ∙ slice_get_layout_of w (p - w.base) (omega arith)

-- each place of a round has an owner
pub owner_among_some : (spots : List Spot) (round at : ℕ) → at < quotas_of (rows_of spots) → (o : Owner) × (owner_among spots round at ≡ Some o)
owner_among_some [] round at h = absurd (omega arith)
owner_among_some (s ∷ ss) round at h =
    elim (cases_lt at s.quota) [
      | inl here ↦ (_, owner_among_here s ss round at here)
      | inr past ↦ let later = owner_among_some ss round (at - s.quota) (omega arith) in (later.0, owner_among_past s ss round at past ∙ later.1)
    ]

-- a position whose round is past the last has no owner
pub owner_of_past : (w : Window) (ahead p : ℕ) → p ≡ w.base + ahead → w.rounds ≤ ahead / width_of w → end_of w ≤ p
owner_of_past w ahead p e h =
    let split = div-add-mod' ahead (width_of w) in
    let rounds = mul-le w.rounds (width_of w) (ahead / width_of w) (width_of w) h (omega arith) in
    omega arith

-- a position whose round is one of the window's is in the window
pub end_of_round : (w : Window) (ahead p : ℕ) → p ≡ w.base + ahead → 0 < width_of w → ahead / width_of w < w.rounds → p < end_of w
end_of_round w ahead p e some h =
    let split = div-add-mod' ahead (width_of w) in
    let below = mul-add-lt (ahead / width_of w) (width_of w) (ahead % width_of w) w.rounds h (mod_below ahead (width_of w) some) in
    omega arith

-- an option with a value is some
some_is : {X : Type 0} (o : Option X) (x : X) → o ≡ Some x → IsSome o
some_is None x e = absurd (cc)
some_is (Some y) x e = refl

-- a position of the window has an owner
pub owner_of_some : (w : Window) (p : ℕ) → w.base ≤ p → p < end_of w → IsSome (owner_of w p)
owner_of_some w p from below =
    let within : p - w.base < w.rounds * width_of w = omega arith in
    let some = positive w.rounds (width_of w) (p - w.base) within in
    let owner = owner_among_some w.spots ((p - w.base) / width_of w) ((p - w.base) % width_of w) (mod_below (p - w.base) (width_of w) some) in
    some_is (owner_of w p) owner.0 (owner_of_within w p from below ∙ owner.1)

-- what an owner that was found tells of its place
place_of_found : (w : Window) (p : ℕ) (found : Option Owner) → IsWindow w → owner_of w p ≡ found → IfSome found (λ o. place_of w o.shard o.local ≡ Some p)
place_of_found w p None is e = tt
place_of_found w p (Some o) is e = (place_of_owner w p o is e).2

-- the owner of each position that has one has that place
pub place_of_owner_of : (w : Window) (p : ℕ) → IsWindow w → IfSome (owner_of w p) (λ o. place_of w o.shard o.local ≡ Some p)
place_of_owner_of w p is = place_of_found w p _ is refl

-- who has a place in a round of the window
pub owner_of_round : (w : Window) (round at : ℕ) → round < w.rounds → at < width_of w
    → owner_of w (w.base + round * width_of w + at) ≡ owner_among w.spots round at
owner_of_round w round at h k =
    let index : w.base + round * width_of w + at ≡ w.base + (round * width_of w + at) = omega arith in
    let from : 0 + round ≡ round = omega arith in
    ap (owner_of w) index
    ∙ owner_of_at w (round * width_of w + at)
    ∙ slice_get_rounds_from w.spots 0 w.rounds round at h k
    ∙ ap (λ n. owner_among w.spots n at) from

-- an owner in a window is of one of its rows
pub owner_of_has_shard : (w : Window) (p : ℕ) (o : Owner) → owner_of w p ≡ Some o → has_shard o.shard (rows_of w.spots) ≡ true
owner_of_has_shard w p o e =
    elim (cases_lt p w.base) [
      | inl before ↦ let none : None ≡ Some o = sym (cond-true _ _ _ (lt-ltb p w.base before)) ∙ e in absurd (cc)
      | inr from ↦
          let split : w.base + (p - w.base) ≡ p = omega arith in
          let entry : slice_get (layout_of w) (p - w.base) ≡ Some o = sym (owner_of_at w (p - w.base)) ∙ (ap (owner_of w) split ∙ e) in
          let within : p - w.base < w.rounds * width_of w = omega (arith, length_layout_of w, slice_get_within (layout_of w) (p - w.base) o entry) in
          owner_among_has_shard w.spots ((p - w.base) / width_of w) ((p - w.base) % width_of w) o (sym (slice_get_layout_of w (p - w.base) within) ∙ entry)
    ]
