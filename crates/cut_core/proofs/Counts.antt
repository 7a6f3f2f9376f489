-- How many locals of a shard are covered, before and after some rounds.
use Rattle.std.proofs.Common.{◌≡◌, ℕ, ◌+◌, ◌*◌, ◌==◌, ◌||◌, Bool, true, false, List, [], ◌∷◌, ◌++◌, length, map, refl, sym, ap, ◌∙◌, inl, inr, arith, append-nil, length-append}
use Rattle.std.specs.List.{list_any, filter, range_with_len}
use Rattle.std.proofs.lemmas.Bool.{cases_Bool, cond-true, cond-false, or_left, or_right, or_from, both_ways}
use Rattle.std.proofs.lemmas.List.Folds.{list_any-append}
use Rattle.std.proofs.lemmas.List.FromFn.{length-range_with_len}
use Rattle.quota_table.specs.Rows.{is_distinct}
use Rattle.fix_ante.specs.declared.spots.Spot.{Spot}
use Rattle.fix_ante.specs.declared.spots.Owner.{Owner}
use Rattle.fix_ante.specs.Windows.{rows_of, has_row, start_after}
use Rattle.fix_ante.specs.Layout.{rounds_from}
use Rattle.fix_ante.specs.Locals.{locals_of, quota_of}
use Rattle.fix_ante.proofs.Successors.{has_row_rows_of}
use Rattle.fix_ante.proofs.LocalLemmas.{range_with_len_append, locals_of_append, locals_of_rounds_from, absent_row}
use Rattle.cut_core.specs.Agreements.{Gone, count_of}

-- a shard that is no row has no positions in a round
pub quota_of_absent : (spots : List Spot) (shard : ℕ) → has_row shard spots ≡ false → quota_of spots shard ≡ 0
quota_of_absent spots shard h = (absent_row spots 0 shard (sym (has_row_rows_of shard spots) ∙ h)).0

-- and its locals begin at 0
pub start_after_absent : (spots : List Spot) (rounds shard : ℕ) → has_row shard spots ≡ false → start_after spots rounds shard ≡ 0
start_after_absent spots rounds shard h = (absent_row spots rounds shard (sym (has_row_rows_of shard spots) ∙ h)).1

-- some rounds more
pub locals_of_more : (shard : ℕ) (owners : List Owner) (spots : List Spot) (round count : ℕ) → is_distinct (rows_of spots) ≡ true
    → locals_of shard (owners ++ rounds_from spots round count) ≡ locals_of shard owners ++ range_with_len (start_after spots round shard) (count * quota_of spots shard)
locals_of_more shard owners spots round count distinct =
    locals_of_append shard owners (rounds_from spots round count) ∙ ap (λ t. locals_of shard owners ++ t) (locals_of_rounds_from spots round count shard distinct)

pub count_of_more : (shard : ℕ) (owners : List Owner) (spots : List Spot) (round count : ℕ) → is_distinct (rows_of spots) ≡ true
    → count_of shard (owners ++ rounds_from spots round count) ≡ count_of shard owners + count * quota_of spots shard
count_of_more shard owners spots round count distinct =
    ap length (locals_of_more shard owners spots round count distinct)
    ∙ length-append (locals_of shard owners) (range_with_len (start_after spots round shard) (count * quota_of spots shard))
    ∙ ap (λ n. count_of shard owners + n) (length-range_with_len (start_after spots round shard) (count * quota_of spots shard))

-- numbers without a gap stay so where the next go on
pub dense_more : (have next : List ℕ) (from count : ℕ) → have ≡ range_with_len 0 (length have) → next ≡ range_with_len from count → from ≡ length have
    → have ++ next ≡ range_with_len 0 (length (have ++ next))
dense_more have next from count dense is goes =
    let size : length (have ++ next) ≡ length have + count = length-append have next ∙ ap (λ n. length have + n) (ap length is ∙ length-range_with_len from count) in
    let at : 0 + length have ≡ length have = omega arith in
    ap (λ t. have ++ t) (is ∙ ap (λ n. range_with_len n count) (goes ∙ sym at))
    ∙ ap (λ t. t ++ range_with_len (0 + length have) count) dense
    ∙ range_with_len_append 0 (length have) count
    ∙ ap (range_with_len 0) (sym size)

-- nothing more leaves them as they are
pub dense_none : (have next : List ℕ) → have ≡ range_with_len 0 (length have) → next ≡ [] → have ++ next ≡ range_with_len 0 (length (have ++ next))
dense_none have next dense none =
    let all : have ++ next ≡ have = ap (λ t. have ++ t) none ∙ append-nil have in
    all ∙ (dense ∙ ap (λ t. range_with_len 0 (length t)) (sym all))

-- one of two lists of gone shards
pub gone_append : (shard : ℕ) (xs ys : List Gone)
    → list_any (λ (g : Gone). g.shard == shard) (xs ++ ys) ≡ (list_any (λ (g : Gone). g.shard == shard) xs || list_any (λ (g : Gone). g.shard == shard) ys)
gone_append shard xs ys = list_any-append (λ (g : Gone). g.shard == shard) xs ys

-- a shard that no entry of a list of rows drops, though it is a row, passes the test
pub kept_row : (test : Spot → Bool) (end : Spot → ℕ) (spots : List Spot) (shard : ℕ) → ((s : Spot) → (s.shard == shard) ≡ true → test s ≡ true)
    → has_row shard spots ≡ true
    → list_any (λ (g : Gone). g.shard == shard) (map (λ (s : Spot). record { shard = s.shard; end = end s }) (filter test spots)) ≡ true
kept_row test end [] shard all h = h
kept_row test end (s ∷ ss) shard all h =
    elim (cases_Bool (s.shard == shard)) [
      | inl same ↦ rw (cond-true (test s) (s ∷ filter test ss) (filter test ss) (all s same)) (or_left _ _ same)
      | inr other ↦
          let later : has_row shard ss ≡ true = sym (ap (λ t. t || has_row shard ss) other) ∙ h in
          let rest = kept_row test end ss shard all later in
          elim (cases_Bool (test s)) [
            | inl passes ↦ rw (cond-true (test s) (s ∷ filter test ss) (filter test ss) passes) (or_right _ _ rest)
            | inr fails ↦ rw (cond-false (test s) (s ∷ filter test ss) (filter test ss) fails) rest
          ]
    ]

-- and one that no row passing the test has isn't dropped
pub undropped_row : (test : Spot → Bool) (end : Spot → ℕ) (spots : List Spot) (shard : ℕ) → ((s : Spot) → (s.shard == shard) ≡ true → test s ≡ false)
    → list_any (λ (g : Gone). g.shard == shard) (map (λ (s : Spot). record { shard = s.shard; end = end s }) (filter test spots)) ≡ false
undropped_row test end [] shard none = refl
undropped_row test end (s ∷ ss) shard none =
    let rest = undropped_row test end ss shard none in
    elim (cases_Bool (test s)) [
      | inr fails ↦ rw (cond-false (test s) (s ∷ filter test ss) (filter test ss) fails) rest
      | inl passes ↦
          elim (cases_Bool (s.shard == shard)) [
            | inl same ↦ absurd (both_ways _ (none s same) passes)
            | inr other ↦ rw (cond-true (test s) (s ∷ filter test ss) (filter test ss) passes) (or_from _ _ other rest)
          ]
    ]
