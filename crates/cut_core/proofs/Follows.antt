-- The fields that the code keeps stand for the agreement after each kind of step.
use Rattle.std.proofs.Common.{◌≡◌, ℕ, zero, suc, ◌+◌, ◌-◌, ◌*◌, ◌<◌, ◌≤◌, true, false, List, [], ◌∷◌, ◌++◌, length, take, replicate, slice_index, Option, Some, None, refl, sym, ap, ◌∙◌, subst, inl, inr, arith, append-nil, append_assoc, length-append}
use Rattle.std.specs.List.{slice_get, flat_map}
use Rattle.std.proofs.Math.ListN.{replicate-append-replicate}
use Rattle.std.proofs.lemmas.Bool.{cases_lt}
use Rattle.std.proofs.lemmas.List.{take-append-le, take_all}
use Rattle.std.proofs.lemmas.List.Concat.{flat_map-append}
use Rattle.std.proofs.lemmas.Option.{slice_get_within}
use Rattle.quota_table.specs.declared.rows.Row.{Row}
use Rattle.quota_table.specs.Rows.{IsTable, has_shard}
use Rattle.fix_ante.specs.declared.spots.Spot.{Spot}
use Rattle.fix_ante.specs.declared.spots.Owner.{Owner}
use Rattle.fix_ante.specs.Windows.{Window, IsWindow, width_of, window_after, without_of}
use Rattle.fix_ante.specs.Layout.{round_of, rounds_from}
use Rattle.fix_ante.proofs.Entries.{slice_get_append_left, slice_get_append_right}
use Rattle.fix_ante.proofs.LayoutLemmas.{length_rounds_from, rounds_from_add}
use Rattle.fix_ante.proofs.Successors.{start_after_le}
use Rattle.cut_core.specs.declared.past.Past.{Past}
use Rattle.cut_core.specs.declared.agreed.Agreed.TheInside.{Inside}
use Rattle.cut_core.specs.Agreements.{Agreement, Gone, agreement_from, count_of, is_gone}
use Rattle.cut_core.specs.Fold.{with_round, dropped_rows, opened, after_table, after_remove}
use Rattle.cut_core.specs.Soundness.{IsFirst, IsSound, HasFinalEnds}
use Rattle.cut_core.specs.inside.Kept.{owners_in, numbers_in, IsOver, AreOver, agreement_of, IsAgreed, followed}
use Rattle.cut_core.proofs.Kept.{IsSound_round, IsSound_table}
use Rattle.cut_core.proofs.Ends.{HasFinalEnds_round, IsDistinct_nil}

-- ---- the first window

IsSound_from_first : (w : Window) → IsWindow w → IsFirst w → IsSound (agreement_from w)
IsSound_from_first w is first = record {
  window = is;
  short = is.some;
  covered = omega (arith, first.base);
  starts = λ shard _. omega (arith, start_after_le w.base (width_of w) 0 shard w.spots (omega arith) is.starts, first.base);
  dense = λ shard. refl;
  rows = λ shard _. refl;
  grant = tt;
  reach = omega (arith, first.base);
}

-- ---- rounds more

rounds_more : (spots : List Spot) (from to : ℕ) → from ≤ to → rounds_from spots 0 to ≡ rounds_from spots 0 from ++ rounds_from spots from (to - from)
rounds_more spots from to le =
    let all : to ≡ from + (to - from) = omega arith in
    let next : 0 + from ≡ from = omega arith in
    ap (rounds_from spots 0) all ∙ rounds_from_add spots 0 from (to - from) ∙ ap (λ n. rounds_from spots 0 from ++ rounds_from spots n (to - from)) next

owners_more : (before : List Owner) (spots : List Spot) (from to : ℕ) → from ≤ to
    → before ++ rounds_from spots 0 to ≡ (before ++ rounds_from spots 0 from) ++ rounds_from spots from (to - from)
owners_more before spots from to le =
    ap (λ t. before ++ t) (rounds_more spots from to le) ∙ sym (append_assoc before (rounds_from spots 0 from) (rounds_from spots from (to - from)))

numbers_more : (before : List ℕ) (number width from to : ℕ) → from ≤ to
    → before ++ replicate (to * width) number ≡ (before ++ replicate (from * width) number) ++ replicate ((to - from) * width) number
numbers_more before number width from to le =
    let all : to ≡ from + (to - from) = omega arith in
    let sum : (from + (to - from)) * width ≡ from * width + (to - from) * width = omega arith in
    let parts : to * width ≡ from * width + (to - from) * width = ap (λ n. n * width) all ∙ sum in
    ap (λ n. before ++ replicate n number) parts
    ∙ ap (λ t. before ++ t) (sym (replicate-append-replicate (from * width) ((to - from) * width) number))
    ∙ sym (append_assoc before (replicate (from * width) number) (replicate ((to - from) * width) number))

one_round : (spots : List Spot) (from to : ℕ) → to ≡ from + 1 → rounds_from spots from (to - from) ≡ round_of spots from
one_round spots from to is =
    let one : to - from ≡ suc zero = omega arith in
    ap (rounds_from spots from) one ∙ append-nil (round_of spots from)

one_width : (width from to : ℕ) → to ≡ from + 1 → (to - from) * width ≡ width
one_width width from to is = let one : to - from ≡ 1 = omega arith in ap (λ n. n * width) one ∙ omega arith

pub round_view : (i : Inside)
    → agreement_of (record i { slots = i.slots + 1; rounds = i.rounds + 1 }) ≡ record (with_round (agreement_of i)) { slots = i.slots + 1 }
round_view i =
    let a = agreement_of i in
    let make : List Owner → List ℕ → Agreement = λ covered numbers. record a { slots = i.slots + 1; rounds = i.rounds + 1; covered = covered; numbers = numbers } in
    let covered = owners_more (flat_map owners_in i.past.items) i.current.spots i.rounds (i.rounds + 1) (omega arith) in
    let numbers = numbers_more (flat_map numbers_in i.past.items) i.current.number (width_of i.current) i.rounds (i.rounds + 1) (omega arith) in
    ap (λ c. make c (flat_map numbers_in i.past.items ++ replicate ((i.rounds + 1) * width_of i.current) i.current.number)) (covered ∙ ap (λ t. a.covered ++ t) (one_round i.current.spots i.rounds (i.rounds + 1) refl))
    ∙ ap (make (a.covered ++ round_of i.current.spots i.rounds)) (numbers ∙ ap (λ n. a.numbers ++ replicate n i.current.number) (one_width (width_of i.current) i.rounds (i.rounds + 1) refl))

pub IsAgreed_round : (i : Inside) → IsAgreed i → i.slots < 1000000 → i.rounds + 1 < i.current.rounds
    → IsAgreed (record i { slots = i.slots + 1; rounds = i.rounds + 1 })
IsAgreed_round i is below short = record {
  sound = subst IsSound (sym (round_view i)) (IsSound_round (agreement_of i) is.sound short);
  final =
      let after = HasFinalEnds_round (agreement_of i) is.sound is.final in
      let counted : HasFinalEnds (record (with_round (agreement_of i)) { slots = i.slots + 1 }) = record { distinct = after.distinct; within = after.within; ends = after.ends } in
      subst HasFinalEnds (sym (round_view i)) counted;
  few = omega arith;
  over = is.over;
}

-- ---- the current window is over

pub AreOver_push : (past : List Past) (p : Past) → AreOver past → IsOver (flat_map owners_in past) p → AreOver (past ++ p ∷ [])
AreOver_push past p over last = λ at q e.
    elim (cases_lt at (length past)) [
      | inl early ↦
          let entry : slice_get past at ≡ Some q = sym (slice_get_append_left past (p ∷ []) at early) ∙ e in
          subst (λ ps. IsOver (flat_map owners_in ps) q) (sym (take-append-le at past (p ∷ []) (omega arith))) (over at q entry)
      | inr late ↦
          let within = slice_get_within (past ++ p ∷ []) at q e in
          let here : at ≡ length past + 0 = omega (arith, length-append past (p ∷ [])) in
          let entry : slice_get (p ∷ []) 0 ≡ Some q = sym (slice_get_append_right past (p ∷ []) (length past) 0 refl) ∙ (ap (slice_get (past ++ p ∷ [])) (sym here) ∙ e) in
          let same : p ≡ q = cc in
          let before : take at (past ++ p ∷ []) ≡ past = take-append-le at past (p ∷ []) (omega arith) ∙ take_all at past late in
          subst (λ ps. IsOver (flat_map owners_in ps) q) (sym before) (subst (IsOver (flat_map owners_in past)) same last)
    ]

flat_map_push : {A : Type 0} (f : Past → List A) (past : List Past) (p : Past) → flat_map f (past ++ p ∷ []) ≡ flat_map f past ++ f p
flat_map_push f past p = flat_map-append f past (p ∷ []) ∙ ap (λ t. flat_map f past ++ t) (append-nil (f p))

none_of : (number width : ℕ) → replicate (0 * width) number ≡ []
none_of number width = let none : 0 * width ≡ 0 = omega arith in ap (λ n. replicate n number) none

pub followed_view : (i j : Inside) (rounds end : ℕ) (ends : List ℕ) → i.rounds ≤ rounds → j.slots ≡ i.slots + 1
    → j.past.items ≡ i.past.items ++ record { window = i.current; rounds = rounds; end = end; ends = ends } ∷ [] → j.rounds ≡ 0 → j.granted ≡ None
    → agreement_of j ≡ followed (agreement_of i) rounds j.current j.gone.items
followed_view i j rounds end ends from slots past none free =
    let p : Past = record { window = i.current; rounds = rounds; end = end; ends = ends } in
    let a = agreement_of i in
    let make : ℕ → List Owner → List ℕ → ℕ → Option Window → Agreement = λ s c n r g. record { slots = s; covered = c; numbers = n; current = j.current; rounds = r; granted = g; gone = j.gone.items } in
    let covered : flat_map owners_in j.past.items ++ rounds_from j.current.spots 0 j.rounds ≡ a.covered ++ rounds_from i.current.spots i.rounds (rounds - i.rounds) =
    ap (λ r. flat_map owners_in j.past.items ++ rounds_from j.current.spots 0 r) none
    ∙ append-nil (flat_map owners_in j.past.items)
    ∙ ap (flat_map owners_in) past
    ∙ flat_map_push owners_in i.past.items p
    ∙ owners_more (flat_map owners_in i.past.items) i.current.spots i.rounds rounds from in
    let numbers : flat_map numbers_in j.past.items ++ replicate (j.rounds * width_of j.current) j.current.number ≡ a.numbers ++ replicate ((rounds - i.rounds) * width_of i.current) i.current.number =
    ap (λ r. flat_map numbers_in j.past.items ++ replicate (r * width_of j.current) j.current.number) none
    ∙ ap (λ t. flat_map numbers_in j.past.items ++ t) (none_of j.current.number (width_of j.current))
    ∙ append-nil (flat_map numbers_in j.past.items)
    ∙ ap (flat_map numbers_in) past
    ∙ flat_map_push numbers_in i.past.items p
    ∙ numbers_more (flat_map numbers_in i.past.items) i.current.number (width_of i.current) i.rounds rounds from in
    let b = agreement_of j in
    let c = followed a rounds j.current j.gone.items in
    ap (λ s. make s b.covered b.numbers b.rounds b.granted) slots
    ∙ ap (λ o. make c.slots o b.numbers b.rounds b.granted) covered
    ∙ ap (λ n. make c.slots c.covered n b.rounds b.granted) numbers
    ∙ ap (λ r. make c.slots c.covered c.numbers r b.granted) none
    ∙ ap (make c.slots c.covered c.numbers 0) free

pub IsAgreed_follow : (i j : Inside) (rounds end : ℕ) (ends : List ℕ) → IsAgreed i → i.slots < 1000000 → i.rounds ≤ rounds → rounds ≤ i.current.rounds
    → end ≡ i.current.base + rounds * width_of i.current
    → ((shard : ℕ) → shard < 6 → slice_index ends shard ≡ count_of shard (followed (agreement_of i) rounds j.current j.gone.items).covered)
    → IsSound (followed (agreement_of i) rounds j.current j.gone.items)
    → HasFinalEnds (followed (agreement_of i) rounds j.current j.gone.items)
    → j.slots ≡ i.slots + 1 → j.past.items ≡ i.past.items ++ record { window = i.current; rounds = rounds; end = end; ends = ends } ∷ [] → j.rounds ≡ 0 → j.granted ≡ None → IsAgreed j
IsAgreed_follow i j rounds end ends is below from most last counts sound settled slots past none free =
    let p : Past = record { window = i.current; rounds = rounds; end = end; ends = ends } in
    let before = flat_map owners_in i.past.items in
    let view = followed_view i j rounds end ends from slots past none free in
    let base : i.current.base ≡ length before =
    omega (arith, is.sound.covered, length-append before (rounds_from i.current.spots 0 i.rounds), length_rounds_from i.current.spots 0 i.rounds) in
    let more = owners_more before i.current.spots i.rounds rounds from in
    let over : IsOver before p = record {
      window = is.sound.window;
      base = base;
      rounds = most;
      end = omega (arith, last, length-append before (rounds_from i.current.spots 0 rounds), length_rounds_from i.current.spots 0 rounds);
      ends = λ shard h. counts shard h ∙ ap (count_of shard) (sym more);
    } in
    record {
      sound = subst IsSound (sym view) sound;
      final = subst HasFinalEnds (sym view) settled;
      few = omega arith;
      over = subst AreOver (sym past) (AreOver_push i.past.items p is.over over);
    }

-- ---- what follows where a grant is opened, and where a shard is removed

pub followed_opened : (a : Agreement) (w : Window) → a.rounds + 1 ≡ a.current.rounds
    → followed a a.current.rounds w (a.gone ++ dropped_rows (with_round a) w) ≡ record (opened (with_round a) w) { slots = a.slots + 1 }
followed_opened a w last =
    let make : List Owner → List ℕ → Agreement = λ covered numbers. record {
      slots = a.slots + 1;
      covered = covered;
      numbers = numbers;
      current = w;
      rounds = 0;
      granted = None;
      gone = a.gone ++ dropped_rows (with_round a) w;
    } in
    ap (λ t. make (a.covered ++ t) (a.numbers ++ replicate ((a.current.rounds - a.rounds) * width_of a.current) a.current.number)) (one_round a.current.spots a.rounds a.current.rounds (sym last))
    ∙ ap (λ n. make (a.covered ++ round_of a.current.spots a.rounds) (a.numbers ++ replicate n a.current.number)) (one_width (width_of a.current) a.rounds a.current.rounds (sym last))

pub followed_removed : (a : Agreement) (shard : ℕ)
    → followed a a.rounds (without_of a.current (a.slots + 1) a.rounds shard) (a.gone ++ record { shard = shard; end = count_of shard a.covered } ∷ []) ≡ record (after_remove a shard) { slots = a.slots + 1 }
followed_removed a shard =
    let none : a.rounds - a.rounds ≡ zero = omega arith in
    let make : List Owner → List ℕ → Agreement = λ covered numbers. record {
      slots = a.slots + 1;
      covered = covered;
      numbers = numbers;
      current = without_of a.current (a.slots + 1) a.rounds shard;
      rounds = 0;
      granted = None;
      gone = a.gone ++ record { shard = shard; end = count_of shard a.covered } ∷ [];
    } in
    ap (λ n. make (a.covered ++ rounds_from a.current.spots a.rounds n) (a.numbers ++ replicate (n * width_of a.current) a.current.number)) none
    ∙ ap (λ c. make c (a.numbers ++ replicate (0 * width_of a.current) a.current.number)) (append-nil a.covered)
    ∙ ap (make a.covered) (ap (λ t. a.numbers ++ t) (none_of a.current.number (width_of a.current)) ∙ append-nil a.numbers)

-- ---- the first state, and one whose fields are equal

same_view : (i j : Inside) → j.slots ≡ i.slots → j.past.items ≡ i.past.items → j.current ≡ i.current → j.rounds ≡ i.rounds → j.granted ≡ i.granted
    → j.gone.items ≡ i.gone.items → agreement_of j ≡ agreement_of i
same_view i j slots past current rounds granted gone =
    let make : ℕ → List Past → Window → ℕ → Option Window → List Gone → Agreement = λ s p w r g gs. record {
      slots = s;
      covered = flat_map owners_in p ++ rounds_from w.spots 0 r;
      numbers = flat_map numbers_in p ++ replicate (r * width_of w) w.number;
      current = w;
      rounds = r;
      granted = g;
      gone = gs;
    } in
    ap (λ s. make s j.past.items j.current j.rounds j.granted j.gone.items) slots
    ∙ ap (λ p. make i.slots p j.current j.rounds j.granted j.gone.items) past
    ∙ ap (λ w. make i.slots i.past.items w j.rounds j.granted j.gone.items) current
    ∙ ap (λ r. make i.slots i.past.items i.current r j.granted j.gone.items) rounds
    ∙ ap (λ g. make i.slots i.past.items i.current i.rounds g j.gone.items) granted
    ∙ ap (make i.slots i.past.items i.current i.rounds i.granted) gone

pub IsAgreed_same : (i j : Inside) → j.slots ≡ i.slots → j.past.items ≡ i.past.items → j.current ≡ i.current → j.rounds ≡ i.rounds → j.granted ≡ i.granted
    → j.gone.items ≡ i.gone.items → IsAgreed i → IsAgreed j
IsAgreed_same i j slots past current rounds granted gone is =
    let view = same_view i j slots past current rounds granted gone in
    record {
      sound = subst IsSound (sym view) is.sound;
      final = subst HasFinalEnds (sym view) is.final;
      few = omega (arith, is.few);
      over = subst AreOver (sym past) is.over;
    }

pub first_view : (i : Inside) → i.slots ≡ 0 → i.past.items ≡ [] → i.rounds ≡ 0 → i.granted ≡ None → i.gone.items ≡ []
    → agreement_of i ≡ agreement_from i.current
first_view i slots past rounds granted gone =
    let make : ℕ → List Owner → List ℕ → ℕ → Option Window → List Gone → Agreement = λ s o n r g gs. record { slots = s; covered = o; numbers = n; current = i.current; rounds = r; granted = g; gone = gs } in
    let a = agreement_of i in
    let covered : a.covered ≡ [] = ap (λ p. flat_map owners_in p ++ rounds_from i.current.spots 0 i.rounds) past ∙ ap (rounds_from i.current.spots 0) rounds in
    let numbers : a.numbers ≡ [] = ap (λ p. flat_map numbers_in p ++ replicate (i.rounds * width_of i.current) i.current.number) past ∙ ap (λ r. replicate (r * width_of i.current) i.current.number) rounds ∙ none_of i.current.number (width_of i.current) in
    ap (λ s. make s a.covered a.numbers a.rounds a.granted a.gone) slots
    ∙ ap (λ o. make 0 o a.numbers a.rounds a.granted a.gone) covered
    ∙ ap (λ n. make 0 [] n a.rounds a.granted a.gone) numbers
    ∙ ap (λ r. make 0 [] [] r a.granted a.gone) rounds
    ∙ ap (λ g. make 0 [] [] 0 g a.gone) granted
    ∙ ap (make 0 [] [] 0 None) gone

no_past : (p : Past) (at : ℕ) → slice_get [] at ≡ Some p → IsOver (flat_map owners_in (take at [])) p
no_past p at e = absurd (cc)

pub IsAgreed_first : (i : Inside) → IsWindow i.current → IsFirst i.current → i.slots ≡ 0 → i.past.items ≡ [] → i.rounds ≡ 0 → i.granted ≡ None
    → i.gone.items ≡ [] → IsAgreed i
IsAgreed_first i window first slots past rounds granted gone =
    let view = first_view i slots past rounds granted gone in
    let none : HasFinalEnds (agreement_from i.current) = record { distinct = IsDistinct_nil; within = λ shard no. absurd (cc); ends = tt } in
    record {
      sound = subst IsSound (sym view) (IsSound_from_first i.current window first);
      final = subst HasFinalEnds (sym view) none;
      few = omega arith;
      over = subst AreOver (sym past) (λ at p e. no_past p at e);
    }

-- ---- a window is granted

pub IsAgreed_grant : (i j : Inside) (w : Window) (rounds : ℕ) (rows : List Row) → IsAgreed i → i.slots < 1000000 → 1 ≤ rounds → rounds ≤ 1024 → IsTable rows
    → ((shard : ℕ) → has_shard shard rows ≡ true → is_gone (agreement_of i) shard ≡ false) → w ≡ window_after i.current (i.slots + 1) rounds rows
    → agreement_of j ≡ record (agreement_of i) { slots = i.slots + 1; granted = Some w } → j.past.items ≡ i.past.items → j.slots ≡ i.slots + 1 → IsAgreed j
IsAgreed_grant i j w rounds rows is below some most table stays next view past slots =
    let a = agreement_of i in
    let granted : ℕ → Window → Agreement = λ s g. record a { slots = s; granted = Some g } in
    let whole : agreement_of j ≡ record (after_table a rounds rows) { slots = a.slots + 1 } = view ∙ ap (granted (i.slots + 1)) next in
    let settled : HasFinalEnds (record (after_table a rounds rows) { slots = a.slots + 1 }) = record { distinct = is.final.distinct; within = is.final.within; ends = is.final.ends } in
    record {
      sound = subst IsSound (sym whole) (IsSound_table a rounds rows is.sound below some most table stays);
      final = subst HasFinalEnds (sym whole) settled;
      few = omega arith;
      over = subst AreOver (sym past) is.over;
    }

-- what the end of the current window leaves, from what its parts were before
pub record IsFollowed (a : Agreement) (rounds : ℕ) (w : Window) (j : Inside) : Type 0 where
  pub kept : IsAgreed j
  pub view : agreement_of j ≡ followed a rounds w j.gone.items

pub follow_kept : (i j : Inside) (a : Agreement) (held w : Window) (rounds end : ℕ) (ends : List ℕ) (reserved : List Past) → agreement_of i ≡ a → IsAgreed i
    → a.slots < 1000000 → a.rounds ≤ rounds → rounds ≤ a.current.rounds
    → held ≡ i.current → j.current ≡ w → reserved ≡ i.past.items
    → j.past.items ≡ reserved ++ record { window = held; rounds = rounds; end = end; ends = ends } ∷ []
    → end ≡ i.current.base + rounds * width_of i.current
    → ((shard : ℕ) → shard < 6 → slice_index ends shard ≡ count_of shard (followed a rounds w j.gone.items).covered)
    → IsSound (followed a rounds w j.gone.items) → HasFinalEnds (followed a rounds w j.gone.items)
    → j.slots ≡ i.slots + 1 → j.rounds ≡ 0 → j.granted ≡ None → IsFollowed a rounds w j
follow_kept i j a held w rounds end ends reserved view is few from most hold next room pushed last counts sound settled slots none free =
    let over : Window → Past = λ x. record { window = x; rounds = rounds; end = end; ends = ends } in
    let past : j.past.items ≡ i.past.items ++ over i.current ∷ [] = pushed ∙ ap (λ items. items ++ over held ∷ []) room ∙ ap (λ x. i.past.items ++ over x ∷ []) hold in
    let coming : followed a rounds w j.gone.items ≡ followed (agreement_of i) rounds j.current j.gone.items =
    ap (λ (b : Agreement). followed b rounds w j.gone.items) (sym view) ∙ ap (λ x. followed (agreement_of i) rounds x j.gone.items) (sym next) in
    let entries = ap (λ (b : Agreement). b.slots) view in
    let covered = ap (λ (b : Agreement). b.rounds) view in
    let all = ap (λ (b : Agreement). b.current.rounds) view in
    record {
      kept = IsAgreed_follow i j rounds end ends is (omega arith) (omega arith) (omega arith) last (λ shard below. counts shard below ∙ ap (λ (b : Agreement). count_of shard b.covered) coming) (subst IsSound coming sound) (subst HasFinalEnds coming settled) slots past none free;
      view = followed_view i j rounds end ends (omega arith) slots past none free ∙ sym coming;
    }
