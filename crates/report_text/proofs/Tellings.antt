-- What was told, gathered in order, is the first entry of each slot, and its lines are those of the slots.
use Rattle.std.proofs.Common.{◌≡◌, ℕ, zero, suc, ◌+◌, ◌<◌, ◌≤◌, ◌==◌, ◌&&◌, max, true, false, cond, List, [], ◌∷◌, ◌++◌, map, length, Option, Some, None, refl, sym, ap, ◌∙◌, fold, arith, add-one}
use Rattle.std.specs.List.{AllByRecursion, range_with_len, filter_map, flat_map, cons_option, slice_get}
use Rattle.std.specs.Option.{is_some, IsSome, option_or, option_map_or, some_prefix}
use Rattle.std.specs.BTreeMap.{insert_entry}
use Rattle.std.specs.Ordering.{nat_cmp}
use Rattle.std.proofs.lemmas.Bool.Decides.{nat_tests}
use Rattle.std.proofs.lemmas.List.FromFn.{length-range_with_len}
use Rattle.std.proofs.lemmas.List.{map-append, length-map}
use Rattle.quota_table.specs.Entries.{IsValidEntry}
use Rattle.msg_wire.specs.Valid.{IsValidWhat}
use Rattle.msg_wire.specs.Steps.{AreValidMessages}
use Rattle.cut_core.specs.Agreements.{Agreement, agreement_from}
use Rattle.cut_core.specs.Fold.{applied, HasValidTable}
use Rattle.cut_core.specs.Reasons.{fault_of}
use Rattle.cut_core.proofs.AgreeingLemmas.{slots_applied_all, applied_all_push}
use Rattle.node_rules.specs.Nodes.{first_window}
use Rattle.runs.specs.Names.{Config, Entry, Message, What}
use Rattle.runs.specs.Names.entries
use Rattle.runs.specs.Names.whats
use Rattle.runs.specs.Known.{agreed_after}
use Rattle.report_text.specs.Slots.{told_by, first_told, end_told_by, end_told, told_below, is_void, slot_line, line_of_slot, slot_lines}
use Rattle.report_text.specs.inside.Telling.{Told, with_told, with_what, with_message, with_messages, IsValidTold, is_void_after, after_told, told_lines}
use Rattle.report_text.proofs.Keyed.{find, RisesFrom, RisesFrom_insert, find_insert, find_below, at_is, itself, same_number, not_same_above, all_insert, flipped, or_none, or_assoc}

-- ---- the first entry of each slot

first_cons : {A : Type 0} (o : Option A) (xs : List A) → slice_get (cons_option o xs) 0 ≡ option_or o (slice_get xs 0)
first_cons None xs = refl
first_cons (Some x) xs = refl

find_told : (told : Told) (slot : ℕ) (entry : Entry) (q : ℕ) → find q (with_told told slot entry) ≡ option_or (find q told) (cond (slot == q) (Some entry) None)
find_told told slot entry q =
    elim (find slot told) as (λ o. find slot told ≡ o → find q (cond (is_some o) told (insert_entry nat_cmp told slot entry)) ≡ option_or (find q told) (cond (slot == q) (Some entry) None)) [
      | None ↦ λ none.
          find_insert told slot entry q ∙ rw (flipped q slot) (elim (slot == q) as (λ b. (slot == q) ≡ b → cond b (Some entry) (find q told) ≡ option_or (find q told) (cond b (Some entry) None)) [
            | true ↦ λ is. rw (sym (same_number slot q is), none) refl
            | false ↦ λ _. sym (or_none (find q told))
          ] refl)
      | Some x ↦ λ some.
          elim (slot == q) as (λ b. (slot == q) ≡ b → find q told ≡ option_or (find q told) (cond b (Some entry) None)) [
            | true ↦ λ is. rw (sym (same_number slot q is), some) refl
            | false ↦ λ _. sym (or_none (find q told))
          ] refl
    ] refl

find_what : (told : Told) (what : What) (q : ℕ) → find q (with_what told what) ≡ option_or (find q told) (told_by q what)
find_what told (whats.Decided slot count entry) q = find_told told slot entry q
find_what told what q = sym (or_none (find q told))

pub find_messages : (told : Told) (messages : List Message) (q : ℕ) → find q (with_messages told messages) ≡ option_or (find q told) (first_told messages q)
find_messages told [] q = sym (or_none (find q told))
find_messages told (m ∷ messages) q =
    find_messages (with_message told m) messages q ∙ ap (λ o. option_or o (first_told messages q)) (find_what told m.what q)
    ∙ or_assoc (find q told) (told_by q m.what) (first_told messages q)
    ∙ ap (option_or (find q told)) (sym (first_cons (told_by q m.what) (filter_map (λ (m : Message). told_by q m.what) messages)))

-- ---- slots rise, and are valid

RisesFrom_told : (told : Told) (slot : ℕ) (entry : Entry) → RisesFrom 0 told → RisesFrom 0 (with_told told slot entry)
RisesFrom_told told slot entry r =
    elim (is_some (find slot told)) as (λ b. RisesFrom 0 (cond b told (insert_entry nat_cmp told slot entry))) [
      | true ↦ r
      | false ↦ RisesFrom_insert 0 told slot entry (omega arith) r
    ]

RisesFrom_what : (told : Told) (what : What) → RisesFrom 0 told → RisesFrom 0 (with_what told what)
RisesFrom_what told (whats.Decided slot count entry) r = RisesFrom_told told slot entry r
RisesFrom_what told what r = r

pub RisesFrom_messages : (told : Told) (messages : List Message) → RisesFrom 0 told → RisesFrom 0 (with_messages told messages)
RisesFrom_messages told [] r = r
RisesFrom_messages told (m ∷ messages) r = RisesFrom_messages (with_message told m) messages (RisesFrom_what told m.what r)

HasValidTable_of : (entry : Entry) → IsValidEntry entry → HasValidTable entry
HasValidTable_of entries.Nothing v = tt
HasValidTable_of (entries.Cut window round) v = tt
HasValidTable_of (entries.Table after rounds rows) v = (v.1.0, v.1.1, v.2)
HasValidTable_of (entries.Remove window shard) v = tt

valid_told : (told : Told) (slot : ℕ) (entry : Entry) → IsValidTold (slot, entry) → AllByRecursion IsValidTold told
    → AllByRecursion IsValidTold (with_told told slot entry)
valid_told told slot entry v all =
    elim (is_some (find slot told)) as (λ b. AllByRecursion IsValidTold (cond b told (insert_entry nat_cmp told slot entry))) [
      | true ↦ all
      | false ↦ all_insert IsValidTold told slot entry v all
    ]

valid_what : (told : Told) (what : What) → IsValidWhat what → AllByRecursion IsValidTold told → AllByRecursion IsValidTold (with_what told what)
valid_what told (whats.Decided slot count entry) v all = valid_told told slot entry (v.0, HasValidTable_of entry v.3) all
valid_what told what v all = all

pub valid_messages : (told : Told) (messages : List Message) → AreValidMessages messages → AllByRecursion IsValidTold told
    → AllByRecursion IsValidTold (with_messages told messages)
valid_messages told [] v all = all
valid_messages told (m ∷ messages) v all = valid_messages (with_message told m) messages v.1 (valid_what told m.what v.0.what all)

-- ---- no slot past the end was told

end_rises : (a : ℕ) (messages : List Message) → a ≤ fold (λ end (m : Message). max end (end_told_by m.what)) a messages
end_rises a [] = omega arith
end_rises a (m ∷ messages) = let later = end_rises (max a (end_told_by m.what)) messages in omega arith

told_by_below : (q : ℕ) (what : What) → IsSome (told_by q what) → q < end_told_by what
told_by_below q (whats.Decided slot count entry) h =
    elim (slot == q) as (λ b. (slot == q) ≡ b → IsSome (cond b (Some entry) None) → q < slot + 1) [
      | true ↦ λ is _. let same : slot ≡ q = same_number slot q is in omega arith
      | false ↦ λ _ none. cc
    ] refl h
told_by_below q what h = cc

told_is_below : (a : ℕ) (messages : List Message) (q : ℕ) → IsSome (first_told messages q)
    → q < fold (λ end (m : Message). max end (end_told_by m.what)) a messages
told_is_below a [] q h = cc
told_is_below a (m ∷ messages) q h =
    elim (told_by q m.what) as (λ o. told_by q m.what ≡ o → IsSome (slice_get (cons_option o (filter_map (λ (m : Message). told_by q m.what) messages)) 0) → q < fold (λ end (m : Message). max end (end_told_by m.what)) (max a (end_told_by m.what)) messages) [
      | None ↦ λ _ later. told_is_below (max a (end_told_by m.what)) messages q later
      | Some entry ↦ λ here _.
          let below : q < end_told_by m.what = told_by_below q m.what (rw here refl) in
          let rises = end_rises (max a (end_told_by m.what)) messages in
          omega arith
    ] refl h

-- ---- entries up to the first slot that was not told

range_push : (a n : ℕ) → range_with_len a (n + 1) ≡ range_with_len a n ++ (a + n) ∷ []
range_push a zero = ap (λ k. k ∷ []) (omega arith)
range_push a (suc n) =
    ap (range_with_len a) (add-one (suc n)) ∙ ap (λ rest. a ∷ rest) (sym (ap (range_with_len (a + 1)) (add-one n)) ∙ range_push (a + 1) n ∙ ap (λ k. range_with_len (a + 1) n ++ k ∷ []) (omega arith))

not_zero : (n : ℕ) → (0 == suc n) ≡ false
not_zero n = grind (arith, nat_tests)

same_next : (m n : ℕ) → (suc m == suc n) ≡ (m == n)
same_next m n = grind (arith, nat_tests)

prefix_none : {A : Type 0} (os : List (Option A)) → some_prefix (os ++ None ∷ []) ≡ some_prefix os
prefix_none [] = refl
prefix_none (None ∷ os) = refl
prefix_none (Some x ∷ os) = ap (λ rest. x ∷ rest) (prefix_none os)

prefix_some : {A : Type 0} (os : List (Option A)) (x : A)
    → some_prefix (os ++ Some x ∷ []) ≡ cond (length (some_prefix os) == length os) (some_prefix os ++ x ∷ []) (some_prefix os)
prefix_some [] x = refl
prefix_some (None ∷ os) x = rw (not_zero (length os)) refl
prefix_some (Some y ∷ os) x =
    rw (same_next (length (some_prefix os)) (length os)) (ap (λ rest. y ∷ rest) (prefix_some os x) ∙ elim (length (some_prefix os) == length os) as (λ b. y ∷ cond b (some_prefix os ++ x ∷ []) (some_prefix os) ≡ cond b (y ∷ (some_prefix os ++ x ∷ [])) (y ∷ some_prefix os)) [ true ↦ refl | false ↦ refl ])

module _ (cfg : Config) (messages : List Message) where
  -- what was agreed by the entries below a slot
  abbrev agreed_below : ℕ → Agreement
  agreed_below n = agreed_after cfg (told_below messages n)

  slots_below : (n : ℕ) → (agreed_below n).slots ≡ length (told_below messages n)
  slots_below n = slots_applied_all (agreement_from (first_window cfg)) (told_below messages n) ∙ omega arith

  below_more : (n : ℕ) → told_below messages (n + 1) ≡ some_prefix (map (first_told messages) (range_with_len 0 n) ++ first_told messages n ∷ [])
  below_more n = ap (λ ks. some_prefix (map (first_told messages) ks)) (range_push 0 n) ∙ ap some_prefix (map-append (first_told messages) (range_with_len 0 n) ((0 + n) ∷ [])) ∙ ap (λ k. some_prefix (map (first_told messages) (range_with_len 0 n) ++ first_told messages k ∷ [])) (omega arith)

  below_none : (n : ℕ) → first_told messages n ≡ None → agreed_below (n + 1) ≡ agreed_below n
  below_none n none = ap (agreed_after cfg) (below_more n ∙ ap (λ o. some_prefix (map (first_told messages) (range_with_len 0 n) ++ o ∷ [])) none ∙ prefix_none (map (first_told messages) (range_with_len 0 n)))

  length_below : (n : ℕ) → length (map (first_told messages) (range_with_len 0 n)) ≡ n
  length_below n = length-map (range_with_len 0 n) (first_told messages) ∙ length-range_with_len 0 n

  below_some : (n : ℕ) (entry : Entry) → first_told messages n ≡ Some entry → agreed_below (n + 1) ≡ after_told (agreed_below n) n entry
  below_some n entry some =
      let more : told_below messages (n + 1) ≡ cond (length (told_below messages n) == n) (told_below messages n ++ entry ∷ []) (told_below messages n) =
      below_more n ∙ ap (λ o. some_prefix (map (first_told messages) (range_with_len 0 n) ++ o ∷ [])) some ∙ prefix_some (map (first_told messages) (range_with_len 0 n)) entry
      ∙ ap (λ m. cond (length (told_below messages n) == m) (told_below messages n ++ entry ∷ []) (told_below messages n)) (length_below n) in
      ap (agreed_after cfg) more ∙ elim (length (told_below messages n) == n) as (λ b. agreed_after cfg (cond b (told_below messages n ++ entry ∷ []) (told_below messages n)) ≡ cond b (applied (agreed_below n) entry) (agreed_below n)) [
        | true ↦ applied_all_push (agreement_from (first_window cfg)) (told_below messages n) entry
        | false ↦ refl
      ] ∙ ap (λ s. cond (s == n) (applied (agreed_below n) entry) (agreed_below n)) (sym (slots_below n))

  void_below : (n : ℕ) (entry : Entry) → is_void_after (agreed_below n) n entry ≡ is_void cfg messages n entry
  void_below n entry = ap (λ s. (s == n) && is_some (fault_of (agreed_below n) entry)) (slots_below n)

  -- the lines of what was told from a slot on
  lines_of_range : (count n : ℕ) (told : Told) → RisesFrom n told → ((q : ℕ) → n ≤ q → first_told messages q ≡ find q told)
      → ((q : ℕ) → n ≤ q → IsSome (first_told messages q) → q < n + count) → told_lines (agreed_below n) told ≡ flat_map (line_of_slot cfg messages) (range_with_len n count)
  lines_of_range zero n [] r tells within = refl
  lines_of_range zero n (e ∷ told) r tells within =
      let found : first_told messages e.0 ≡ Some e.1 = tells e.0 r.0 ∙ rw (at_is e.0 e.0, itself e.0) refl in
      let few : e.0 < n + 0 = within e.0 r.0 (rw found refl) in
      absurd (omega (arith, r.0))
  lines_of_range (suc count) n [] r tells within =
      let none : first_told messages n ≡ None = tells n (omega arith) in
      rw none (lines_of_range count (n + 1) [] tt (λ q h. tells q (omega arith)) (λ q h s. let w : q < n + suc count = within q (omega arith) s in omega arith))
  lines_of_range (suc count) n (e ∷ told) r tells within =
      elim (n == e.0) as (λ b. (n == e.0) ≡ b → told_lines (agreed_below n) (e ∷ told) ≡ flat_map (line_of_slot cfg messages) (range_with_len n (suc count))) [
        | true ↦ λ is.
            let same : e.0 ≡ n = sym (same_number n e.0 is) in
            let found : first_told messages n ≡ Some e.1 = tells n (omega arith) ∙ rw (at_is n e.0, is) refl in
            let rest : told_lines (agreed_below (n + 1)) told ≡ flat_map (line_of_slot cfg messages) (range_with_len (n + 1) count) =
            lines_of_range count (n + 1) told (rw same at r.1)
            (λ q h. tells q (omega arith) ∙ rw (at_is q e.0, not_same_above q e.0 (omega arith)) refl)
            (λ q h s. let w : q < n + suc count = within q (omega arith) s in omega arith) in
            let after : told_lines (after_told (agreed_below n) n e.1) told ≡ flat_map (line_of_slot cfg messages) (range_with_len (n + 1) count) =
            ap (λ a. told_lines a told) (sym (below_some n e.1 found)) ∙ rest in
            let line : line_of_slot cfg messages n ≡ slot_line n e.1 (is_void_after (agreed_below n) n e.1) =
            ap (λ o. option_map_or (λ entry. slot_line n entry (is_void cfg messages n entry)) o []) found ∙ ap (slot_line n e.1) (sym (void_below n e.1)) in
            ap (λ k. slot_line k e.1 (is_void_after (agreed_below n) k e.1) ++ told_lines (after_told (agreed_below n) k e.1) told) same
            ∙ ap (λ rest. slot_line n e.1 (is_void_after (agreed_below n) n e.1) ++ rest) after
            ∙ ap (λ first. first ++ flat_map (line_of_slot cfg messages) (range_with_len (n + 1) count)) (sym line)
        | false ↦ λ is.
            let above : n + 1 ≤ e.0 = grind (arith, nat_tests, r.0) in
            let none : first_told messages n ≡ None = tells n (omega arith) ∙ find_below (n + 1) (e ∷ told) n (above, r.1) (omega arith) in
            let rest : told_lines (agreed_below (n + 1)) (e ∷ told) ≡ flat_map (line_of_slot cfg messages) (range_with_len (n + 1) count) =
            lines_of_range count (n + 1) (e ∷ told) (above, r.1) (λ q h. tells q (omega arith)) (λ q h s. let w : q < n + suc count = within q (omega arith) s in omega arith) in
            ap (λ a. told_lines a (e ∷ told)) (sym (below_none n none)) ∙ rest
            ∙ ap (λ o. option_map_or (λ entry. slot_line n entry (is_void cfg messages n entry)) o [] ++ flat_map (line_of_slot cfg messages) (range_with_len (n + 1) count)) (sym none)
      ] refl

  pub told_lines_is : told_lines (agreement_from (first_window cfg)) (with_messages [] messages) ≡ slot_lines cfg messages
  told_lines_is =
      lines_of_range (end_told messages) 0 (with_messages [] messages) (RisesFrom_messages [] messages tt) (λ q _. sym (find_messages [] messages q))
      (λ q _ s. let few : q < end_told messages = told_is_below 0 messages q s in omega arith)
