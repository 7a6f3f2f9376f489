-- What a consumer's entries show, gathered in order, is its marks, and how many positions it confirmed early.
use Rattle.std.proofs.Common.{◌≡◌, ℕ, ◌+◌, ◌<◌, ◌≤◌, ◌==◌, ◌||◌, ◌&&◌, nat_lt, not, Bool, true, false, cond, List, [], ◌∷◌, ◌++◌, length, Option, Some, None, refl, sym, ap, subst, ◌∙◌, fold, arith, append_assoc, append-nil, length-append}
use Rattle.std.specs.List.{list_any, flat_map}
use Rattle.std.specs.Option.{IfSome, option_or, option_map_or, is_some}
use Rattle.std.proofs.lemmas.Bool.Decides.{nat_tests}
use Rattle.std.proofs.lemmas.List.Concat.{flat_map-append}
use Rattle.std.proofs.lemmas.List.Elements.{filter_map-append}
use Rattle.std.proofs.lemmas.List.Sums.{fold_push}
use Rattle.msg_wire.specs.Nodes.{same_node}
use Rattle.net_model.specs.Pasts.{Past, marks_of, marks_at}
use Rattle.runs.specs.Names.{Config, Record, Mark, HistoryEntry}
use Rattle.runs.specs.Names.nodes
use Rattle.runs.specs.Names.marks
use Rattle.runs.specs.Marks.{confirmation_in, confirmations, notice_in, notices, output_in, outputs, after_mark, applied_by}
use Rattle.report_text.specs.Consumers.{undone_in, count_undone, out_line, is_apply_at, is_applied_early, early_in, early_among, count_early, lines_of_consumer}
use Rattle.report_text.specs.inside.Consuming.{Consumed, nothing_consumed, applied_at_after, early_after, with_own_mark, with_own_marks, consumed_lines}
use Rattle.report_text.proofs.Keyed.{find, find_insert, flipped, or_none, or_assoc}

-- ---- the last place at which a test holds, places counted from one on

abbrev last_place : (Mark → Bool) → ℕ → List Mark → Option ℕ
last_place test n [] = None
last_place test n (mark ∷ later) = option_or (last_place test (n + 1) later) (cond (test mark) (Some n) None)

last_push : (test : Mark → Bool) (n : ℕ) (earlier : List Mark) (mark : Mark)
    → last_place test n (earlier ++ mark ∷ []) ≡ cond (test mark) (Some (n + length earlier)) (last_place test n earlier)
last_push test n [] mark = elim (test mark) as (λ b. cond b (Some n) None ≡ cond b (Some (n + 0)) None) [ true ↦ ap Some (omega arith) | false ↦ refl ]
last_push test n (first ∷ earlier) mark =
    ap (λ o. option_or o (cond (test first) (Some n) None)) (last_push test (n + 1) earlier mark)
    ∙ elim (test mark) as (λ b. option_or (cond b (Some (n + 1 + length earlier)) (last_place test (n + 1) earlier)) (cond (test first) (Some n) None) ≡ cond b (Some (n + length (first ∷ earlier))) (last_place test n (first ∷ earlier))) [
      | true ↦ ap Some (omega arith)
      | false ↦ refl
    ]

last_append : (test : Mark → Bool) (n : ℕ) (earlier here : List Mark)
    → last_place test n (earlier ++ here) ≡ option_or (last_place test (n + length earlier) here) (last_place test n earlier)
last_append test n [] here = sym (or_none (last_place test (n + 0) here) ∙ ap (λ k. last_place test k here) (omega arith))
last_append test n (first ∷ earlier) here =
    ap (λ o. option_or o (cond (test first) (Some n) None)) (last_append test (n + 1) earlier here)
    ∙ or_assoc (last_place test (n + 1 + length earlier) here) (last_place test (n + 1) earlier) (cond (test first) (Some n) None)
    ∙ ap (λ k. option_or (last_place test k here) (last_place test n (first ∷ earlier))) (omega arith)

last_any : (test : Mark → Bool) (n : ℕ) (shown : List Mark) → is_some (last_place test n shown) ≡ list_any test shown
last_any test n [] = refl
last_any test n (mark ∷ later) =
    elim (last_place test (n + 1) later) as (λ o. last_place test (n + 1) later ≡ o → is_some (option_or o (cond (test mark) (Some n) None)) ≡ (test mark || list_any test later)) [
      | None ↦ λ is.
          let none : list_any test later ≡ false = sym (last_any test (n + 1) later) ∙ ap is_some is in
          rw none (elim (test mark) as (λ b. is_some (cond b (Some n) None) ≡ (b || false)) [ true ↦ refl | false ↦ refl ])
      | Some at ↦ λ is.
          let some : list_any test later ≡ true = sym (last_any test (n + 1) later) ∙ ap is_some is in
          rw some (elim (test mark) as (λ b. true ≡ (b || true)) [ true ↦ refl | false ↦ refl ])
    ] refl

last_from : (test : Mark → Bool) (n : ℕ) (shown : List Mark) → IfSome (last_place test n shown) (λ at. n ≤ at)
last_from test n [] = tt
last_from test n (mark ∷ later) =
    elim (last_place test (n + 1) later) as (λ o. IfSome o (λ at. n + 1 ≤ at) → IfSome (option_or o (cond (test mark) (Some n) None)) (λ at. n ≤ at)) [
      | None ↦ λ _. elim (test mark) as (λ b. IfSome (cond b (Some n) None) (λ at. n ≤ at)) [ true ↦ omega arith | false ↦ tt ]
      | Some at ↦ λ h. omega arith
    ] (last_from test (n + 1) later)

last_within : (test : Mark → Bool) (n : ℕ) (shown : List Mark) → IfSome (last_place test n shown) (λ at. at < n + length shown)
last_within test n [] = tt
last_within test n (mark ∷ later) =
    elim (last_place test (n + 1) later) as (λ o. IfSome o (λ at. at < n + 1 + length later) → IfSome (option_or o (cond (test mark) (Some n) None)) (λ at. at < n + length (mark ∷ later))) [
      | None ↦ λ _. elim (test mark) as (λ b. IfSome (cond b (Some n) None) (λ at. at < n + length (mark ∷ later))) [ true ↦ omega arith | false ↦ tt ]
      | Some at ↦ λ h. omega arith
    ] (last_within test (n + 1) later)

abbrev is_before : ℕ → Option ℕ → Bool
is_before start o = option_map_or (λ at. nat_lt at start) o false

below_start : (at start : ℕ) → at < start → nat_lt at start ≡ true
below_start at start h = grind (arith, nat_tests)

from_start : (at start : ℕ) → start ≤ at → nat_lt at start ≡ false
from_start at start h = grind (arith, nat_tests)

-- a place before those of this entry, and none among those
before_is : (start : ℕ) (o p : Option ℕ) → IfSome o (λ at. at < start) → IfSome p (λ at. start ≤ at)
    → is_before start (option_or p o) ≡ (is_some o && not (is_some p))
before_is start None None h k = refl
before_is start (Some at) None h k = below_start at start h
before_is start None (Some at) h k = from_start at start k
before_is start (Some a) (Some at) h k = from_start at start k

within_zero : (o : Option ℕ) (n : ℕ) → IfSome o (λ at. at < 0 + n) → IfSome o (λ at. at < n)
within_zero None n h = tt
within_zero (Some at) n h = omega arith

early_is : (test : Mark → Bool) (earlier here : List Mark)
    → is_before (length earlier) (last_place test 0 (earlier ++ here)) ≡ (list_any test earlier && not (list_any test here))
early_is test earlier here =
    ap (is_before (length earlier)) (last_append test 0 earlier here ∙ ap (λ k. option_or (last_place test k here) (last_place test 0 earlier)) (omega arith))
    ∙ before_is (length earlier) (last_place test 0 earlier) (last_place test (length earlier) here)
    (within_zero (last_place test 0 earlier) (length earlier) (last_within test 0 earlier)) (last_from test (length earlier) here)
    ∙ ap (λ b. b && not (is_some (last_place test (length earlier) here))) (last_any test 0 earlier)
    ∙ ap (λ b. list_any test earlier && not b) (last_any test (length earlier) here)

-- ---- one mark more

count_undone_push : (log : List Record) (earlier : List Mark) (mark : Mark)
    → count_undone log (earlier ++ mark ∷ []) ≡ count_undone log earlier + undone_in (fold after_mark log earlier) mark
count_undone_push log [] mark = omega arith
count_undone_push log (first ∷ earlier) mark = let rest = count_undone_push (after_mark log first) earlier mark in omega arith

placed_none : (shown : List Mark) (mark : Mark) (applied_at : List (ℕ × ℕ)) (q : ℕ) → is_apply_at q mark ≡ false
    → find q applied_at ≡ last_place (is_apply_at q) 0 shown → find q applied_at ≡ last_place (is_apply_at q) 0 (shown ++ mark ∷ [])
placed_none shown mark applied_at q none e = e ∙ sym (last_push (is_apply_at q) 0 shown mark ∙ ap (λ b. cond b (Some (0 + length shown)) (last_place (is_apply_at q) 0 shown)) none)

-- what was gathered of the consumer of a number is what its marks say, but for early confirmations
pub record IsSaid (number : ℕ) (shown : List Mark) (c : Consumed) : Type 0 where
  pub marks : c.marks ≡ shown
  pub places : (q : ℕ) → find q c.applied_at ≡ last_place (is_apply_at q) 0 shown
  pub confirmed : c.confirmed ≡ length (confirmations shown)
  pub log : c.log ≡ applied_by shown
  pub undone : c.undone ≡ count_undone [] shown
  pub notices : c.notices ≡ notices shown
  pub out_lines : c.out_lines ≡ flat_map (out_line number) (outputs shown)

places_after : (number : ℕ) (shown : List Mark) (c : Consumed) (mark : Mark) (q : ℕ) → IsSaid number shown c
    → find q (applied_at_after c mark) ≡ last_place (is_apply_at q) 0 (shown ++ mark ∷ [])
places_after number shown c (marks.Apply position rec) q p =
    find_insert c.applied_at position (length c.marks) q ∙ ap (λ b. cond b (Some (length c.marks)) (find q c.applied_at)) (flipped q position)
    ∙ ap (cond (position == q) (Some (length c.marks))) (p.places q) ∙ ap (λ n. cond (position == q) (Some n) (last_place (is_apply_at q) 0 shown)) (ap length p.marks ∙ omega arith)
    ∙ sym (last_push (is_apply_at q) 0 shown (marks.Apply position rec))
places_after number shown c mark q p = placed_none shown mark c.applied_at q refl (p.places q)

IsSaid_more : (number start : ℕ) (shown : List Mark) (c : Consumed) (mark : Mark) → IsSaid number shown c
    → IsSaid number (shown ++ mark ∷ []) (with_own_mark number start c mark)
IsSaid_more number start shown c mark p = record {
  marks = ap (λ ms. ms ++ mark ∷ []) p.marks;
  places = λ q. places_after number shown c mark q p;
  confirmed = ap (λ n. n + length (confirmations (mark ∷ []))) p.confirmed ∙ sym (ap length (filter_map-append confirmation_in shown (mark ∷ [])) ∙ length-append (confirmations shown) (confirmations (mark ∷ [])));
  log = ap (λ log. after_mark log mark) p.log ∙ sym (fold_push after_mark [] shown mark);
  undone = ap (λ n. n + undone_in c.log mark) p.undone ∙ ap (λ log. count_undone [] shown + undone_in log mark) p.log ∙ sym (count_undone_push [] shown mark);
  notices = ap (λ firsts. firsts ++ notices (mark ∷ [])) p.notices ∙ sym (filter_map-append notice_in shown (mark ∷ []));
  out_lines =
      ap (λ lines. lines ++ flat_map (out_line number) (outputs (mark ∷ []))) p.out_lines
      ∙ sym (ap (flat_map (out_line number)) (filter_map-append output_in shown (mark ∷ [])) ∙ flat_map-append (out_line number) (outputs shown) (outputs (mark ∷ [])));
}

early_more : (number : ℕ) (earlier here : List Mark) (c : Consumed) (mark : Mark) → IsSaid number (earlier ++ here) c
    → early_after (length earlier) c mark ≡ c.early + early_in earlier here mark
early_more number earlier here c (marks.Confirm position rec) p =
    ap (λ o. cond (is_before (length earlier) o) (c.early + 1) c.early) (p.places position)
    ∙ ap (λ b. cond b (c.early + 1) c.early) (early_is (is_apply_at position) earlier here)
    ∙ elim (is_applied_early earlier here position) as (λ b. cond b (c.early + 1) c.early ≡ c.early + cond b 1 0) [ true ↦ refl | false ↦ omega arith ]
early_more number earlier here c mark p = omega arith

-- ---- the marks of one entry more

pub record IsAfter (number : ℕ) (earlier here later : List Mark) (before : ℕ) (c : Consumed) : Type 0 where
  pub said : IsSaid number (earlier ++ (here ++ later)) c
  pub early : c.early ≡ before + early_among earlier here later

after_marks : (number : ℕ) (earlier here later : List Mark) (c : Consumed) → IsSaid number (earlier ++ here) c
    → IsAfter number earlier here later c.early (fold (with_own_mark number (length earlier)) c later)
after_marks number earlier here [] c p = record { said = rw append-nil p; early = omega arith }
after_marks number earlier here (mark ∷ later) c p =
    let more : IsSaid number (earlier ++ (here ++ mark ∷ [])) (with_own_mark number (length earlier) c mark) =
    rw (← append_assoc earlier here (mark ∷ [])) (IsSaid_more number (length earlier) (earlier ++ here) c mark p) in
    let rest = after_marks number earlier (here ++ mark ∷ []) later (with_own_mark number (length earlier) c mark) more in
    let early = early_more number earlier here c mark p in
    record {
      said = rw (← append_assoc here (mark ∷ []) later) rest.said;
      early = rest.early ∙ omega arith;
    }

-- ---- a consumer after a past

pub record IsConsumed (number : ℕ) (past : Past) (c : Consumed) : Type 0 where
  pub said : IsSaid number (marks_of (nodes.Consumer number) past) c
  pub early : c.early ≡ count_early (nodes.Consumer number) past

pub IsConsumed_none : (number : ℕ) → IsConsumed number [] nothing_consumed
IsConsumed_none number = record {
  said = record { marks = refl; places = λ q. refl; confirmed = refl; log = refl; undone = refl; notices = refl; out_lines = refl };
  early = refl;
}

-- its own entry, and one of another node
pub IsConsumed_own : (number : ℕ) (past : Past) (e : HistoryEntry) (c : Consumed) → same_node e.node (nodes.Consumer number) ≡ true → IsConsumed number past c
    → IsConsumed number (e ∷ past) (with_own_marks number c e.marks)
IsConsumed_own number past e c own h =
    let earlier : List Mark = marks_of (nodes.Consumer number) past in
    let at : marks_at (nodes.Consumer number) e ≡ e.marks = ap (λ b. cond b e.marks []) own in
    let said : IsSaid number (earlier ++ []) c = rw append-nil h.said in
    let after : IsAfter number earlier [] e.marks c.early (with_own_marks number c e.marks) =
    subst (λ n. IsAfter number earlier [] e.marks c.early (fold (with_own_mark number n) c e.marks)) (ap length (sym h.said.marks)) (after_marks number earlier [] e.marks c said) in
    record {
      said = rw at after.said;
      early = rw (at, ← h.early) after.early;
    }

pub IsConsumed_other : (number : ℕ) (past : Past) (e : HistoryEntry) (c : Consumed) → same_node e.node (nodes.Consumer number) ≡ false
    → IsConsumed number past c → IsConsumed number (e ∷ past) c
IsConsumed_other number past e c other h =
    let at : marks_at (nodes.Consumer number) e ≡ [] = ap (λ b. cond b e.marks []) other in
    record {
      said = rw (at, append-nil) h.said;
      early = rw at (h.early ∙ omega arith);
    }

pub consumed_lines_is : (cfg : Config) (past : Past) (number : ℕ) (c : Consumed) → IsConsumed number past c
    → consumed_lines cfg number c ≡ lines_of_consumer cfg past number
consumed_lines_is cfg past number c h = rw (h.said.confirmed, h.said.log, h.early, h.said.undone, h.said.notices, h.said.out_lines) refl
