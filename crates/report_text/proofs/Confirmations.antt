-- What was confirmed, gathered in order, has the lines of the log, and as many positions with two records.
use Rattle.std.proofs.Common.{◌≡◌, ℕ, ◌+◌, ◌<◌, ◌≤◌, ◌==◌, ◌||◌, max, not, Bool, true, false, cond, List, [], ◌∷◌, Option, Some, None, refl, sym, ap, ◌∙◌, fold, arith}
use Rattle.std.specs.List.{range_with_len, filter_map, cons_option, slice_get, list_any}
use Rattle.std.specs.Option.{IsSome, option_map_or}
use Rattle.std.specs.BTreeMap.{insert_entry}
use Rattle.std.specs.Ordering.{nat_cmp}
use Rattle.runs.specs.Names.{Record, Mark}
use Rattle.runs.specs.Names.marks
use Rattle.runs.specs.Marks.{confirmation_in, confirmations}
use Rattle.report_text.specs.Positions.{records_at, end_confirmed, same_record, differ, log_line, line_of_position, log_lines, count_differing}
use Rattle.report_text.specs.inside.Confirming.{Confirmed, with_known, with_confirmed, with_mark, with_marks, confirmed_lines, differing}
use Rattle.report_text.proofs.Keyed.{find, RisesFrom, RisesFrom_insert, find_insert, same_number, entry_for, entries_of_range, flat_map_for, count_by_for, flat_map_same, count_by_same, flipped}

-- what is known after one more record, and after more of them
abbrev known_next : Option (Record × Bool) → Record → Record × Bool
known_next None rec = (rec, false)
known_next (Some known) rec = (known.0, known.1 || not (same_record known.0 rec))

abbrev known_after : Option (Record × Bool) → List Record → Option (Record × Bool)
known_after known [] = known
known_after known (rec ∷ later) = known_after (Some (known_next known rec)) later

-- the first record, and whether another differs from it
abbrev known_of : List Record → Option (Record × Bool)
known_of [] = None
known_of (rec ∷ later) = Some (rec, list_any (λ other. not (same_record rec other)) later)

or_assoc : (a b c : Bool) → ((a || b) || c) ≡ (a || (b || c))
or_assoc true b c = refl
or_assoc false b c = refl

or_false : (a : Bool) → (a || false) ≡ a
or_false true = refl
or_false false = refl

known_after_some : (rec : Record) (b : Bool) (later : List Record)
    → known_after (Some (rec, b)) later ≡ Some (rec, b || list_any (λ other. not (same_record rec other)) later)
known_after_some rec b [] = ap (λ t. Some (rec, t)) (sym (or_false b))
known_after_some rec b (other ∷ later) =
    known_after_some rec (b || not (same_record rec other)) later
    ∙ ap (λ t. Some (rec, t)) (or_assoc b (not (same_record rec other)) (list_any (λ other. not (same_record rec other)) later))

known_after_none : (recs : List Record) → known_after None recs ≡ known_of recs
known_after_none [] = refl
known_after_none (rec ∷ later) = known_after_some rec false later

-- ---- one mark more

kept : (known : Record × Bool) (rec : Record) → (known.1 || same_record known.0 rec) ≡ true → known ≡ (known.0, known.1 || not (same_record known.0 rec))
kept known rec h =
    elim known.1 as (λ b. known.1 ≡ b → (b || same_record known.0 rec) ≡ true → known ≡ (known.0, b || not (same_record known.0 rec))) [
      | true ↦ λ is _. ap (λ b. (known.0, b)) is
      | false ↦ λ is same. ap (λ b. (known.0, b)) is ∙ ap (λ b. (known.0, not b)) (sym same)
    ] refl h

changed : (known : Record × Bool) (rec : Record) → (known.1 || same_record known.0 rec) ≡ false → (known.1 || not (same_record known.0 rec)) ≡ true
changed known rec h =
    elim known.1 as (λ b. (b || same_record known.0 rec) ≡ false → (b || not (same_record known.0 rec)) ≡ true) [
      | true ↦ λ e. cc
      | false ↦ λ e. ap not e
    ] h

find_confirmed : (c : Confirmed) (position : ℕ) (rec : Record) (q : ℕ)
    → find q (with_confirmed c position rec) ≡ cond (position == q) (Some (known_next (find q c) rec)) (find q c)
find_confirmed c position rec q =
    elim (find position c) as (λ o. find position c ≡ o → find q (with_known o c position rec) ≡ cond (position == q) (Some (known_next (find q c) rec)) (find q c)) [
      | None ↦ λ none.
          find_insert c position (rec, false) q ∙ rw (flipped q position) (elim (position == q) as (λ b. (position == q) ≡ b → cond b (Some (rec, false)) (find q c) ≡ cond b (Some (known_next (find q c) rec)) (find q c)) [
            | true ↦ λ is. rw (sym (same_number position q is), none) refl
            | false ↦ λ _. refl
          ] refl)
      | Some known ↦ λ some.
          elim (known.1 || same_record known.0 rec) as (λ t. (known.1 || same_record known.0 rec) ≡ t → find q (cond t c (insert_entry nat_cmp c position (known.0, true))) ≡ cond (position == q) (Some (known_next (find q c) rec)) (find q c)) [
            | true ↦ λ same.
                elim (position == q) as (λ b. (position == q) ≡ b → find q c ≡ cond b (Some (known_next (find q c) rec)) (find q c)) [
                  | true ↦ λ is. rw (sym (same_number position q is), some) (ap Some (kept known rec same))
                  | false ↦ λ _. refl
                ] refl
            | false ↦ λ other.
                find_insert c position (known.0, true) q ∙ rw (flipped q position) (elim (position == q) as (λ b. (position == q) ≡ b → cond b (Some (known.0, true)) (find q c) ≡ cond b (Some (known_next (find q c) rec)) (find q c)) [
                  | true ↦ λ is. rw (sym (same_number position q is), some) (ap (λ t. Some (known.0, t)) (sym (changed known rec other)))
                  | false ↦ λ _. refl
                ] refl)
          ] refl
    ] refl

-- the records that a mark confirms at a position
abbrev records_by : ℕ → Mark → List Record
records_by q mark = records_at (cons_option (confirmation_in mark) []) q

records_cons : (mark : Mark) (later : List Mark) (q : ℕ) (known : Option (Record × Bool))
    → known_after known (records_at (confirmations (mark ∷ later)) q) ≡ known_after (known_after known (records_by q mark)) (records_at (confirmations later) q)
records_cons (marks.Confirm position rec) later q known =
    elim (position == q) as (λ b. known_after known (cons_option (cond b (Some rec) None) (records_at (confirmations later) q)) ≡ known_after (known_after known (cons_option (cond b (Some rec) None) [])) (records_at (confirmations later) q)) [
      | true ↦ refl
      | false ↦ refl
    ]
records_cons mark later q known = refl

find_mark : (c : Confirmed) (mark : Mark) (q : ℕ) → find q (with_mark c mark) ≡ known_after (find q c) (records_by q mark)
find_mark c (marks.Confirm position rec) q =
    find_confirmed c position rec q ∙ elim (position == q) as (λ b. cond b (Some (known_next (find q c) rec)) (find q c) ≡ known_after (find q c) (cons_option (cond b (Some rec) None) [])) [
      | true ↦ refl
      | false ↦ refl
    ]
find_mark c mark q = refl

find_marks : (c : Confirmed) (shown : List Mark) (q : ℕ) → find q (with_marks c shown) ≡ known_after (find q c) (records_at (confirmations shown) q)
find_marks c [] q = refl
find_marks c (mark ∷ later) q =
    find_marks (with_mark c mark) later q ∙ ap (λ known. known_after known (records_at (confirmations later) q)) (find_mark c mark q) ∙ sym (records_cons mark later q (find q c))

find_confirmations : (shown : List Mark) (q : ℕ) → find q (with_marks [] shown) ≡ known_of (records_at (confirmations shown) q)
find_confirmations shown q = find_marks [] shown q ∙ known_after_none (records_at (confirmations shown) q)

-- ---- positions rise, and lie below the end

RisesFrom_mark : (c : Confirmed) (mark : Mark) → RisesFrom 0 c → RisesFrom 0 (with_mark c mark)
RisesFrom_mark c (marks.Confirm position rec) r =
    elim (find position c) as (λ o. RisesFrom 0 (with_known o c position rec)) [
      | None ↦ RisesFrom_insert 0 c position (rec, false) (omega arith) r
      | Some known ↦ elim (known.1 || same_record known.0 rec) as (λ t. RisesFrom 0 (cond t c (insert_entry nat_cmp c position (known.0, true)))) [
        | true ↦ r
        | false ↦ RisesFrom_insert 0 c position (known.0, true) (omega arith) r
      ]
    ]
RisesFrom_mark c mark r = r

RisesFrom_marks : (c : Confirmed) (shown : List Mark) → RisesFrom 0 c → RisesFrom 0 (with_marks c shown)
RisesFrom_marks c [] r = r
RisesFrom_marks c (mark ∷ later) r = RisesFrom_marks (with_mark c mark) later (RisesFrom_mark c mark r)

end_rises : (a : ℕ) (confirmed : List (ℕ × Record)) → a ≤ fold (λ end c. max end (c.0 + 1)) a confirmed
end_rises a [] = omega arith
end_rises a (c ∷ confirmed) = let later = end_rises (max a (c.0 + 1)) confirmed in omega arith

confirmed_below : (a : ℕ) (confirmed : List (ℕ × Record)) (q : ℕ) → IsSome (known_of (records_at confirmed q))
    → q < fold (λ end c. max end (c.0 + 1)) a confirmed
confirmed_below a [] q h = cc
confirmed_below a (c ∷ confirmed) q h =
    elim (c.0 == q) as (λ b. (c.0 == q) ≡ b → IsSome (known_of (cons_option (cond b (Some c.1) None) (records_at confirmed q))) → q < fold (λ end c. max end (c.0 + 1)) (max a (c.0 + 1)) confirmed) [
      | true ↦ λ is _.
          let same : c.0 ≡ q = same_number c.0 q is in
          let rises = end_rises (max a (c.0 + 1)) confirmed in
          omega arith
      | false ↦ λ _ later. confirmed_below (max a (c.0 + 1)) confirmed q later
    ] refl h

-- ---- as text

first_known : (position : ℕ) (recs : List Record)
    → option_map_or (log_line position) (slice_get recs 0) [] ≡ option_map_or (λ known. log_line position known.0) (known_of recs) []
first_known position [] = refl
first_known position (rec ∷ later) = refl

differ_known : (recs : List Record) → differ recs ≡ option_map_or (λ (known : Record × Bool). known.1) (known_of recs) false
differ_known [] = refl
differ_known (rec ∷ later) = refl

abbrev known_at : List Mark → ℕ → Option (Record × Bool)
known_at shown q = known_of (records_at (confirmations shown) q)

entries : (shown : List Mark) → filter_map (entry_for (known_at shown)) (range_with_len 0 (end_confirmed (confirmations shown))) ≡ with_marks [] shown
entries shown =
    entries_of_range (end_confirmed (confirmations shown)) 0 (with_marks [] shown) (known_at shown) (RisesFrom_marks [] shown tt) (λ q _. sym (find_confirmations shown q))
    (λ q _ s. let few : q < end_confirmed (confirmations shown) = confirmed_below 0 (confirmations shown) q s in omega arith)

pub confirmed_lines_is : (shown : List Mark) → confirmed_lines (with_marks [] shown) ≡ log_lines (confirmations shown)
confirmed_lines_is shown =
    ap confirmed_lines (sym (entries shown))
    ∙ sym (flat_map_for (λ position known. log_line position known.0) (known_at shown) (range_with_len 0 (end_confirmed (confirmations shown))))
    ∙ sym (flat_map_same (line_of_position (confirmations shown)) (λ position. option_map_or (λ known. log_line position known.0) (known_at shown position) []) (λ position. first_known position (records_at (confirmations shown) position)) (range_with_len 0 (end_confirmed (confirmations shown))))

pub differing_is : (shown : List Mark) → differing (with_marks [] shown) ≡ count_differing (confirmations shown)
differing_is shown =
    ap differing (sym (entries shown))
    ∙ sym (count_by_for (λ known. known.1) (known_at shown) (range_with_len 0 (end_confirmed (confirmations shown))))
    ∙ sym (count_by_same (λ position. differ (records_at (confirmations shown) position)) (λ position. option_map_or (λ known. known.1) (known_at shown position) false) (λ position. differ_known (records_at (confirmations shown) position)) (range_with_len 0 (end_confirmed (confirmations shown))))
