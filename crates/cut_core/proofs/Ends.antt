-- The ends of gone shards are the counts of their covered locals, by whatever table they are made.
use Rattle.std.proofs.Common.{◌≡◌, ℕ, ◌+◌, ◌<◌, ◌≤◌, ◌==◌, ◌||◌, Bool, true, false, List, [], ◌∷◌, ◌++◌, length, map, get_or, Option, Some, None, refl, sym, ap, ◌∙◌, subst, inl, inr, arith, append-nil, append_assoc, length-append}
use Rattle.std.specs.Prelude.{nat_eq, nat_lt}
use Rattle.std.specs.Cmp.{nat_eq_equiv}
use Rattle.std.specs.List.{list_any, list_all, filter, AllByRecursion, IsDistinct}
use Rattle.std.specs.Option.{unwrap_or}
use Rattle.std.proofs.lemmas.Bool.{cases_Bool, cond-true, cond-false, eqb-true, eq-eqb, ltb-true, and_parts, or_cases, or_from, or_left, or_right, not-true, both_ways}
use Rattle.std.proofs.lemmas.List.{length-map}
use Rattle.std.proofs.lemmas.List.Folds.{list_any-append}
use Rattle.std.proofs.lemmas.Map.Keys.{IsDistinct-push}
use Rattle.std.proofs.lemmas.Map.Steps.{length-le_from_distinct_below}
use Rattle.quota_table.specs.Rows.{is_distinct, is_row}
use Rattle.fix_ante.specs.declared.spots.Spot.{Spot}
use Rattle.fix_ante.specs.declared.spots.Owner.{Owner}
use Rattle.fix_ante.specs.Windows.{rows_of, row_of, has_row, start_after}
use Rattle.fix_ante.proofs.Successors.{has_row_rows_of}
use Rattle.cut_core.specs.Agreements.{Agreement, Gone, count_of}
use Rattle.cut_core.specs.Fold.{with_round}
use Rattle.cut_core.specs.Map.{end_among}
use Rattle.cut_core.specs.Soundness.{IsSound, HasFinalEnds}
use Rattle.cut_core.specs.inside.Kept.{local_end}
use Rattle.cut_core.proofs.Counts.{quota_of_absent}
use Rattle.cut_core.proofs.Kept.{gone_row, count_of_round, starts_round}

abbrev pub shard_of : Gone → ℕ
shard_of g = g.shard

abbrev pub is_among : List Gone → ℕ → Bool
is_among gs shard = list_any (λ (g : Gone). g.shard == shard) gs

-- ---- ends that are counts

abbrev pub AreCounts : (ℕ → ℕ) → List Gone → Type 0
AreCounts count = AllByRecursion (λ (g : Gone). g.end ≡ count g.shard)

pub AreCounts_append : (count : ℕ → ℕ) (xs ys : List Gone) → AreCounts count xs → AreCounts count ys → AreCounts count (xs ++ ys)
AreCounts_append count [] ys h k = k
AreCounts_append count (x ∷ xs) ys h k = (h.0, AreCounts_append count xs ys h.1 k)

-- rows with their counts as ends
pub AreCounts_rows : (count : ℕ → ℕ) (test : Spot → Bool) (spots : List Spot)
    → AreCounts count (map (λ (s : Spot). record { shard = s.shard; end = count s.shard }) (filter test spots))
AreCounts_rows count test [] = tt
AreCounts_rows count test (s ∷ ss) =
    let rest = AreCounts_rows count test ss in
    elim (cases_Bool (test s)) [
      | inl passes ↦ rw (cond-true (test s) (s ∷ filter test ss) (filter test ss) passes) (refl, rest)
      | inr fails ↦ rw (cond-false (test s) (s ∷ filter test ss) (filter test ss) fails) rest
    ]

-- counts that stay where a shard is among them
pub AreCounts_stay : (before after : ℕ → ℕ) (gs : List Gone) → AreCounts before gs → ((shard : ℕ) → is_among gs shard ≡ true → after shard ≡ before shard)
    → AreCounts after gs
AreCounts_stay before after [] h stays = tt
AreCounts_stay before after (g ∷ gs) h stays =
    (h.0 ∙ sym (stays g.shard (or_left _ _ (eq-eqb g.shard g.shard refl))), AreCounts_stay before after gs h.1 (λ shard among. stays shard (or_right _ _ among)))

-- a row's shard, with an end
abbrev pub by_end : (ℕ → ℕ) → Spot → Gone
by_end end s = record { shard = s.shard; end = end s.shard }

-- ends by a table that has the counts
pub ends_table : (ends : List ℕ) (count : ℕ → ℕ) (test : Spot → Bool) (spots : List Spot) → list_all is_row (rows_of spots) ≡ true
    → ((shard : ℕ) → shard < 6 → get_or ends shard 0 ≡ count shard)
    → map (by_end (λ s. get_or ends s 0)) (filter test spots) ≡ map (by_end count) (filter test spots)
ends_table ends count test [] within is = refl
ends_table ends count test (s ∷ ss) within is =
    let parts = and_parts (is_row (row_of s)) (list_all is_row (rows_of ss)) within in
    let below = ltb-true s.shard 6 ((and_parts (nat_lt s.shard 6) _ parts.0).0) in
    let rest = ends_table ends count test ss parts.1 is in
    let gone : ℕ → Gone = λ end. record { shard = s.shard; end = end } in
    elim (cases_Bool (test s)) [
      | inl passes ↦
          rw (cond-true (test s) (s ∷ filter test ss) (filter test ss) passes)
          (ap (λ end. gone end ∷ map (by_end (λ t. get_or ends t 0)) (filter test ss)) (is s.shard below) ∙ ap (λ t. gone (count s.shard) ∷ t) rest)
      | inr fails ↦ rw (cond-false (test s) (s ∷ filter test ss) (filter test ss) fails) rest
    ]

-- ---- the covered locals of a shard

pub end_among_counted : (count : ℕ → ℕ) (gs : List Gone) (shard end : ℕ) → AreCounts count gs → end_among gs shard ≡ Some end → end ≡ count shard
end_among_counted count [] shard end counts e = absurd (cc)
end_among_counted count (g ∷ gs) shard end counts e =
    elim (cases_Bool (g.shard == shard)) [
      | inl same ↦
          let is : Some g.end ≡ Some end = sym (cond-true _ _ _ same) ∙ e in
          let first : g.end ≡ end = cc in
          sym first ∙ (counts.0 ∙ ap count (eqb-true g.shard shard same))
      | inr other ↦ end_among_counted count gs shard end counts.1 (sym (cond-false _ _ _ other) ∙ e)
    ]

pub end_among_none : (gs : List Gone) (shard : ℕ) → end_among gs shard ≡ None → is_among gs shard ≡ false
end_among_none [] shard e = refl
end_among_none (g ∷ gs) shard e =
    elim (cases_Bool (g.shard == shard)) [
      | inl same ↦ absurd (let no : Some g.end ≡ None = sym (cond-true _ _ _ same) ∙ e in cc)
      | inr other ↦ or_from _ _ other (end_among_none gs shard (sym (cond-false _ _ _ other) ∙ e))
    ]

local_end_by : (count : ℕ → ℕ) (gs : List Gone) (shard start : ℕ) (found : Option ℕ) → AreCounts count gs → (is_among gs shard ≡ false → start ≡ count shard)
    → end_among gs shard ≡ found → unwrap_or found start ≡ count shard
local_end_by count gs shard start None counts goes e = goes (end_among_none gs shard e)
local_end_by count gs shard start (Some end) counts goes e = end_among_counted count gs shard end counts e

-- a shard's covered locals are those before its end where it is gone, and else those before its next one
pub local_end_counted : (count : ℕ → ℕ) (spots : List Spot) (rounds : ℕ) (gs : List Gone) (shard : ℕ) → AreCounts count gs
    → (is_among gs shard ≡ false → start_after spots rounds shard ≡ count shard) → local_end spots rounds gs shard ≡ count shard
local_end_counted count spots rounds gs shard counts goes = local_end_by count gs shard (start_after spots rounds shard) (end_among gs shard) counts goes refl

pub local_end_sound : (a : Agreement) (shard : ℕ) → IsSound a → HasFinalEnds a → local_end a.current.spots a.rounds a.gone shard ≡ count_of shard a.covered
local_end_sound a shard is final = local_end_counted (λ s. count_of s a.covered) a.current.spots a.rounds a.gone shard final.ends (λ stays. is.starts shard stays)

-- a round more covers nothing of a gone shard
pub ends_round : (a : Agreement) → IsSound a → HasFinalEnds a → AreCounts (λ s. count_of s (with_round a).covered) a.gone
ends_round a is final =
    AreCounts_stay (λ s. count_of s a.covered) (λ s. count_of s (with_round a).covered) a.gone final.ends
    (λ shard gone.
    let more = count_of_round a shard is in
    let none = quota_of_absent a.current.spots shard (gone_row a is.rows shard gone) in
    omega arith)

pub local_end_round : (a : Agreement) (shard : ℕ) → IsSound a → HasFinalEnds a
    → local_end a.current.spots (a.rounds + 1) a.gone shard ≡ count_of shard (with_round a).covered
local_end_round a shard is final =
    local_end_counted (λ s. count_of s (with_round a).covered) a.current.spots (a.rounds + 1) a.gone shard (ends_round a is final) (λ stays. starts_round a shard is stays)

-- ---- distinct shards

pub IsDistinct_nil : IsDistinct nat_eq []
unfolding IsDistinct
IsDistinct_nil = tt

distinct_push : (xs : List ℕ) (y : ℕ) → IsDistinct nat_eq xs → list_any (nat_eq y) xs ≡ false → IsDistinct nat_eq (xs ++ y ∷ [])
distinct_push xs y distinct absent = IsDistinct-push nat_eq_equiv xs y distinct absent

any_push : (xs : List ℕ) (x y : ℕ) → list_any (nat_eq y) xs ≡ false → nat_eq y x ≡ false → list_any (nat_eq y) (xs ++ x ∷ []) ≡ false
any_push xs x y absent apart = list_any-append (nat_eq y) xs (x ∷ []) ∙ or_from _ _ absent (or_from _ _ apart refl)

-- numbers that differ, and rows of other shards that differ
distinct_rows : (xs : List ℕ) (test : Spot → Bool) (spots : List Spot) → IsDistinct nat_eq xs → is_distinct (rows_of spots) ≡ true
    → ((shard : ℕ) → has_row shard spots ≡ true → list_any (nat_eq shard) xs ≡ false)
    → IsDistinct nat_eq (xs ++ map (λ (s : Spot). s.shard) (filter test spots))
distinct_rows xs test [] distinct rows absent = subst (IsDistinct nat_eq) (sym (append-nil xs)) distinct
distinct_rows xs test (s ∷ ss) distinct rows absent =
    let parts = and_parts _ (is_distinct (rows_of ss)) rows in
    let alone : has_row s.shard ss ≡ false = has_row_rows_of s.shard ss ∙ not-true _ parts.0 in
    let later : (shard : ℕ) → has_row shard ss ≡ true → list_any (nat_eq shard) xs ≡ false = λ shard row. absent shard (or_right _ _ row) in
    elim (cases_Bool (test s)) [
      | inl passes ↦
          let apart : (shard : ℕ) → has_row shard ss ≡ true → list_any (nat_eq shard) (xs ++ s.shard ∷ []) ≡ false = λ shard row.
          any_push xs s.shard shard (later shard row) (elim (cases_Bool (nat_eq shard s.shard)) [
            | inl same ↦ absurd (both_ways _ alone (ap (λ n. has_row n ss) (sym (eqb-true shard s.shard same)) ∙ row))
            | inr other ↦ other
          ]) in
          let pushed = distinct_push xs s.shard distinct (absent s.shard (or_left _ _ (eq-eqb s.shard s.shard refl))) in
          rw (cond-true (test s) (s ∷ filter test ss) (filter test ss) passes)
          (subst (IsDistinct nat_eq) (append_assoc xs (s.shard ∷ []) (map (λ (t : Spot). t.shard) (filter test ss))) (distinct_rows (xs ++ s.shard ∷ []) test ss pushed parts.1 apart))
      | inr fails ↦ rw (cond-false (test s) (s ∷ filter test ss) (filter test ss) fails) (distinct_rows xs test ss distinct parts.1 later)
    ]

among_shards : (gs : List Gone) (shard : ℕ) → list_any (nat_eq shard) (map shard_of gs) ≡ is_among gs shard
among_shards [] shard = refl
among_shards (g ∷ gs) shard =
    let rest = among_shards gs shard in
    elim (cases_Bool (g.shard == shard)) [
      | inl same ↦ or_left _ _ (eq-eqb shard g.shard (sym (eqb-true g.shard shard same))) ∙ sym (or_left _ _ same)
      | inr other ↦ elim (cases_Bool (nat_eq shard g.shard)) [
        | inl same ↦ absurd (both_ways _ other (eq-eqb g.shard shard (sym (eqb-true shard g.shard same))))
        | inr apart ↦ ap (λ t. t || list_any (nat_eq shard) (map shard_of gs)) apart ∙ (rest ∙ sym (ap (λ t. t || is_among gs shard) other))
      ]
    ]

map_append_shards : (xs ys : List Gone) → map shard_of (xs ++ ys) ≡ map shard_of xs ++ map shard_of ys
map_append_shards [] ys = refl
map_append_shards (x ∷ xs) ys = ap (λ t. x.shard ∷ t) (map_append_shards xs ys)

shards_rows : (end : ℕ → ℕ) (spots : List Spot)
    → map shard_of (map (λ (s : Spot). record { shard = s.shard; end = end s.shard }) spots) ≡ map (λ (s : Spot). s.shard) spots
shards_rows end [] = refl
shards_rows end (s ∷ ss) = ap (λ t. s.shard ∷ t) (shards_rows end ss)

-- a row's shard is 0 to 5
pub row_within : (spots : List Spot) (shard : ℕ) → list_all is_row (rows_of spots) ≡ true → has_row shard spots ≡ true → shard < 6
row_within [] shard within row = absurd (cc)
row_within (s ∷ ss) shard within row =
    let parts = and_parts (is_row (row_of s)) (list_all is_row (rows_of ss)) within in
    elim (or_cases (s.shard == shard) (has_row shard ss) row) [
      | inl same ↦ omega (arith, ltb-true s.shard 6 ((and_parts (nat_lt s.shard 6) _ parts.0).0), eqb-true s.shard shard same)
      | inr later ↦ row_within ss shard parts.1 later
    ]

any_row : (spots : List Spot) (shard : ℕ) → list_any (nat_eq shard) (map (λ (s : Spot). s.shard) spots) ≡ true → has_row shard spots ≡ true
any_row [] shard h = h
any_row (s ∷ ss) shard h = elim (or_cases _ _ h) [
  | inl same ↦ or_left _ _ (eq-eqb s.shard shard (sym (eqb-true shard s.shard same)))
  | inr later ↦ or_right _ _ (any_row ss shard later)
]

filter_all : (spots : List Spot) → filter (λ (s : Spot). true) spots ≡ spots
filter_all [] = refl
filter_all (s ∷ ss) = ap (λ t. s ∷ t) (filter_all ss)

-- gone shards and rows are six at most
pub room : (a : Agreement) → IsSound a → HasFinalEnds a → length a.gone + length a.current.spots ≤ 6
room a is final =
    let gone = map shard_of a.gone in
    let rows = map (λ (s : Spot). s.shard) a.current.spots in
    let distinct : IsDistinct nat_eq (gone ++ rows) =
    subst (λ ss. IsDistinct nat_eq (gone ++ map (λ (s : Spot). s.shard) ss)) (filter_all a.current.spots)
    (distinct_rows gone (λ s. true) a.current.spots final.distinct is.window.table.distinct (λ shard row. among_shards a.gone shard ∙ is.rows shard row)) in
    let below : (q : ℕ) → list_any (nat_eq q) (gone ++ rows) ≡ true → q < 6 = λ q among.
    elim (or_cases _ _ (sym (list_any-append (nat_eq q) gone rows) ∙ among)) [
      | inl early ↦ final.within q (sym (among_shards a.gone q) ∙ early)
      | inr late ↦ row_within a.current.spots q is.window.table.within (any_row a.current.spots q late)
    ] in
    omega (arith, length-le_from_distinct_below (gone ++ rows) 6 distinct below, length-append gone rows, length-map a.gone shard_of, length-map a.current.spots (λ (s : Spot). s.shard))

-- ---- what keeps the final ends

pub HasFinalEnds_round : (a : Agreement) → IsSound a → HasFinalEnds a → HasFinalEnds (with_round a)
HasFinalEnds_round a is final = record { distinct = final.distinct; within = final.within; ends = ends_round a is final }

left_row : (end : ℕ → ℕ) (test : Spot → Bool) (spots : List Spot) (shard : ℕ)
    → is_among (map (λ (s : Spot). record { shard = s.shard; end = end s.shard }) (filter test spots)) shard ≡ true → has_row shard spots ≡ true
left_row end test [] shard h = h
left_row end test (s ∷ ss) shard h =
    let gone : Spot → Gone = λ t. record { shard = t.shard; end = end t.shard } in
    elim (cases_Bool (test s)) [
      | inl passes ↦ elim (or_cases (s.shard == shard) _ (sym (ap (λ ts. is_among (map gone ts) shard) (cond-true (test s) (s ∷ filter test ss) (filter test ss) passes)) ∙ h)) [
        | inl same ↦ or_left _ _ same
        | inr later ↦ or_right _ _ (left_row end test ss shard later)
      ]
      | inr fails ↦ or_right _ _ (left_row end test ss shard (sym (ap (λ ts. is_among (map gone ts) shard) (cond-false (test s) (s ∷ filter test ss) (filter test ss) fails)) ∙ h))
    ]

-- some of the rows go too
pub final_rows : (a : Agreement) (b : Agreement) (test : Spot → Bool) → IsSound a → HasFinalEnds a
    → b.gone ≡ a.gone ++ map (λ (s : Spot). record { shard = s.shard; end = count_of s.shard b.covered }) (filter test a.current.spots)
    → AreCounts (λ s. count_of s b.covered) a.gone → HasFinalEnds b
final_rows a b test is final gone counts =
    let end : ℕ → ℕ = λ s. count_of s b.covered in
    let left = map (λ (s : Spot). record { shard = s.shard; end = end s.shard }) (filter test a.current.spots) in
    let shards : map shard_of b.gone ≡ map shard_of a.gone ++ map (λ (s : Spot). s.shard) (filter test a.current.spots) =
    ap (map shard_of) gone ∙ map_append_shards a.gone left ∙ ap (λ t. map shard_of a.gone ++ t) (shards_rows end (filter test a.current.spots)) in
    record {
      distinct = subst (IsDistinct nat_eq) (sym shards) (distinct_rows (map shard_of a.gone) test a.current.spots final.distinct is.window.table.distinct (λ shard row. among_shards a.gone shard ∙ is.rows shard row));
      within = λ shard among.
          elim (or_cases _ _ (sym (list_any-append (λ (g : Gone). g.shard == shard) a.gone left) ∙ (ap (λ gs. is_among gs shard) (sym gone) ∙ among))) [
            | inl early ↦ final.within shard early
            | inr late ↦ row_within a.current.spots shard is.window.table.within (left_row end test a.current.spots shard late)
          ];
      ends = subst (AreCounts end) (sym gone) (AreCounts_append end a.gone left counts (AreCounts_rows end test a.current.spots));
    }

pub HasFinalEnds_removed : (a b : Agreement) (shard : ℕ) → IsSound a → HasFinalEnds a → has_row shard a.current.spots ≡ true → b.covered ≡ a.covered
    → b.gone ≡ a.gone ++ record { shard = shard; end = count_of shard a.covered } ∷ [] → HasFinalEnds b
HasFinalEnds_removed a b shard is final row covered gone =
    let one : Gone = record { shard = shard; end = count_of shard a.covered } in
    let shards : map shard_of b.gone ≡ map shard_of a.gone ++ shard ∷ [] = ap (map shard_of) gone ∙ map_append_shards a.gone (one ∷ []) in
    record {
      distinct = subst (IsDistinct nat_eq) (sym shards) (distinct_push (map shard_of a.gone) shard final.distinct (among_shards a.gone shard ∙ is.rows shard row));
      within = λ other among.
          elim (or_cases _ _ (sym (list_any-append (λ (g : Gone). g.shard == other) a.gone (one ∷ [])) ∙ (ap (λ gs. is_among gs other) (sym gone) ∙ among))) [
            | inl early ↦ final.within other early
            | inr late ↦ elim (or_cases (shard == other) false late) [
              | inl same ↦ omega (arith, eqb-true shard other same, row_within a.current.spots shard is.window.table.within row)
              | inr other_shard ↦ absurd (cc)
            ]
          ];
      ends = subst (λ (os : List Owner). AreCounts (λ s. count_of s os) b.gone) (sym covered) (subst (AreCounts (λ s. count_of s a.covered)) (sym gone) (AreCounts_append (λ s. count_of s a.covered) a.gone (one ∷ []) final.ends (refl, tt)));
    }
