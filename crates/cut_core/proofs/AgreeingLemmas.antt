-- More entries keep what was covered, and the map below the first position of every removal between.
use Rattle.std.proofs.Common.{◌≡◌, ℕ, ◌+◌, ◌<◌, ◌≤◌, ◌==◌, true, not, List, [], ◌∷◌, ◌++◌, length, Option, Some, None, refl, sym, ap, ◌∙◌, inl, inr, arith, append-nil, length-append}
use Rattle.std.specs.List.{slice_get, AllByRecursion}
use Rattle.std.proofs.lemmas.Bool.{cases_Bool, cond-true, cond-false, eqb-true, both_ways, not-false}
use Rattle.std.proofs.lemmas.Option.{slice_get_within, slice_get_cases}
use Rattle.quota_table.specs.declared.entry.Entry.{Entry}
use Rattle.quota_table.specs.declared.entry.Entry.TheVariants.{Nothing, Cut, Table, Remove}
use Rattle.fix_ante.specs.declared.spots.Owner.{Owner}
use Rattle.fix_ante.specs.Windows.{Window, has_row, window_after}
use Rattle.fix_ante.specs.Layout.{round_of, layout_of}
use Rattle.fix_ante.proofs.Entries.{slice_get_append_left}
use Rattle.cut_core.specs.declared.effects.Reason.{Reason}
use Rattle.cut_core.specs.declared.effects.Reason.TheVariants.{WrongWindow, WrongRound, NoGrant, NotARow}
use Rattle.cut_core.specs.Agreements.{Agreement, is_last_round}
use Rattle.cut_core.specs.Reasons.{grant_fault, granted_fault, fault_of}
use Rattle.cut_core.specs.Fold.{with_round, open_granted, after_cut, after_entry, unless_void, applied, applied_all, HasValidTable}
use Rattle.cut_core.specs.Effects.{effect_where_fit, void_or, effect_of}
use Rattle.cut_core.specs.Map.{map_of, mapped, located}
use Rattle.cut_core.specs.MapsAgree.{IsBelowFirst, IsBelowFirsts}
use Rattle.cut_core.specs.Soundness.{IsSound}
use Rattle.cut_core.proofs.Sound.{no_fault, IsSound_applied}
use Rattle.cut_core.proofs.Maps.{map_round, map_opened, map_table, map_remove}

-- ---- covered positions only grow at their end

open_covered : (a : Agreement) (g : Option Window) → (open_granted a g).covered ≡ a.covered
open_covered a None = refl
open_covered a (Some w) = refl

grown_fit : (a : Agreement) (entry : Entry) → (more : List Owner) × ((after_entry a entry).covered ≡ a.covered ++ more)
grown_fit a Nothing = ([], sym (append-nil a.covered))
grown_fit a (Cut window round) =
    let covered : Agreement → List Owner = λ x. x.covered in (
      round_of a.current.spots a.rounds,
      elim (cases_Bool (is_last_round a)) [
        | inl last ↦ ap covered (cond-true (is_last_round a) (open_granted (with_round a) a.granted) (with_round a) last) ∙ open_covered (with_round a) a.granted
        | inr more ↦ ap covered (cond-false (is_last_round a) (open_granted (with_round a) a.granted) (with_round a) more)
      ],
    )
grown_fit a (Table after rounds rows) = ([], sym (append-nil a.covered))
grown_fit a (Remove window shard) = ([], sym (append-nil a.covered))

grown : (a : Agreement) (entry : Entry) (fault : Option Reason)
    → (more : List Owner) × ((unless_void fault a (after_entry a entry)).covered ≡ a.covered ++ more)
grown a entry None = grown_fit a entry
grown a entry (Some reason) = ([], sym (append-nil a.covered))

-- an entry covers what it covers after what was covered
pub covered_applied : (a : Agreement) (entry : Entry) → (more : List Owner) × ((applied a entry).covered ≡ a.covered ++ more)
covered_applied a entry = grown a entry (fault_of a entry)

-- a covered position stays covered, by its owner
pub located_applied_all : (a : Agreement) (entries : List Entry) (p : ℕ) → p < length a.covered
    → (p < length (applied_all a entries).covered) × (located (applied_all a entries) p ≡ located a p)
located_applied_all a [] p h = (h, refl)
located_applied_all a (entry ∷ entries) p h =
    let more = covered_applied a entry in
    let size : length (applied a entry).covered ≡ length a.covered + length more.0 = ap length more.1 ∙ length-append a.covered more.0 in
    let rest = located_applied_all (applied a entry) entries p (omega arith) in
    (rest.0, rest.1 ∙ (ap (λ xs. slice_get xs p) more.1 ∙ slice_get_append_left a.covered more.0 p h))

-- ---- maps agree below the first positions

none_granted : (g : Option Window) (later : Option Reason) → granted_fault g later ≡ None → g ≡ None
none_granted None later e = refl
none_granted (Some w) later e = absurd (cc)

agree_opened : (a : Agreement) (g : Option Window) (p : ℕ) → is_last_round a ≡ true → grant_fault (is_last_round a) g ≡ None → a.granted ≡ g
    → mapped (open_granted (with_round a) g) p ≡ mapped a p
agree_opened a None p last fits is = absurd (both_ways _ ((no_fault (is_last_round a) NoGrant None fits).0) last)
agree_opened a (Some w) p last fits is = ap (λ xs. slice_get xs p) (map_opened a w (eqb-true (a.rounds + 1) a.current.rounds last) is)

agree_cut : (a : Agreement) (p : ℕ) → IsSound a → grant_fault (is_last_round a) a.granted ≡ None → mapped (after_cut a) p ≡ mapped a p
agree_cut a p is fits =
    let at : Agreement → Option Owner = λ x. mapped x p in
    elim (cases_Bool (is_last_round a)) [
      | inl last ↦ ap at (cond-true (is_last_round a) (open_granted (with_round a) a.granted) (with_round a) last) ∙ agree_opened a a.granted p last fits refl
      | inr more ↦ ap at (cond-false (is_last_round a) (open_granted (with_round a) a.granted) (with_round a) more) ∙ ap (λ xs. slice_get xs p) (map_round a is.short)
    ]

agree_fit : (a : Agreement) (entry : Entry) (p : ℕ) → IsSound a → fault_of a entry ≡ None → p < length (map_of a) → IsBelowFirst (effect_where_fit a entry) p
    → mapped (after_entry a entry) p ≡ mapped a p
agree_fit a Nothing p is fits within below = refl
agree_fit a (Cut window round) p is fits within below =
    let named = no_fault (not (window == a.current.number)) (WrongWindow a.current.number) _ fits in
    let next = no_fault (not (round == a.rounds)) (WrongRound a.rounds) _ named.1 in
    agree_cut a p is next.1
agree_fit a (Table after rounds rows) p is fits within below =
    let named = no_fault (not (after == a.current.number)) (WrongWindow a.current.number) _ fits in
    let w = window_after a.current (a.slots + 1) rounds rows in
    ap (λ xs. slice_get xs p) (map_table a rounds w (none_granted a.granted _ named.1)) ∙ slice_get_append_left (map_of a) (layout_of w) p within
agree_fit a (Remove window shard) p is fits within below =
    let named = no_fault (not (window == a.current.number)) (WrongWindow a.current.number) _ fits in
    let row = no_fault (not (has_row shard a.current.spots)) (NotARow shard) _ named.1 in
    map_remove a shard p is (not-false (has_row shard a.current.spots) row.0) below

agree_entry : (a : Agreement) (entry : Entry) (fault : Option Reason) (p : ℕ) → IsSound a → fault_of a entry ≡ fault → p < length (map_of a)
    → IsBelowFirst (void_or fault (effect_where_fit a entry)) p → mapped (unless_void fault a (after_entry a entry)) p ≡ mapped a p
agree_entry a entry None p is e within below = agree_fit a entry p is e within below
agree_entry a entry (Some reason) p is e within below = refl

-- after one entry the map agrees at a position below its first
pub mapped_applied : (a : Agreement) (entry : Entry) (p : ℕ) → IsSound a → p < length (map_of a) → IsBelowFirst (effect_of a entry) p
    → mapped (applied a entry) p ≡ mapped a p
mapped_applied a entry p is within below = agree_entry a entry (fault_of a entry) p is refl within below

-- equal entries of two lists are both within
both_within : {X : Type 0} (xs ys : List X) (p : ℕ) → slice_get ys p ≡ slice_get xs p → p < length xs → p < length ys
both_within xs ys p e h =
    elim ((slice_get_cases xs p).1) [
      | inl there ↦ slice_get_within ys p there.0 (e ∙ there.2)
      | inr past ↦ absurd (omega (arith, past.0))
    ]

-- after more entries the map agrees at a position below the first of every removal between
pub mapped_applied_all : (a : Agreement) (entries : List Entry) (p : ℕ) → IsSound a → a.slots + length entries ≤ 1000000 → AllByRecursion HasValidTable entries
    → p < length (map_of a) → IsBelowFirsts a entries p → (p < length (map_of (applied_all a entries))) × (mapped (applied_all a entries) p ≡ mapped a p)
mapped_applied_all a [] p is few valid within below = (within, refl)
mapped_applied_all a (entry ∷ entries) p is few valid within below =
    let one = mapped_applied a entry p is within below.0 in
    let rest = mapped_applied_all (applied a entry) entries p (IsSound_applied a entry is (omega arith) valid.0) (omega arith) valid.1 (both_within (map_of a) (map_of (applied a entry)) p one within) below.1 in
    (rest.0, rest.1 ∙ one)

-- each entry takes a slot
pub slots_applied_all : (a : Agreement) (entries : List Entry) → (applied_all a entries).slots ≡ a.slots + length entries
slots_applied_all a [] = omega arith
slots_applied_all a (entry ∷ entries) = slots_applied_all (applied a entry) entries ∙ omega arith

-- one entry more at the end
pub applied_all_push : (a : Agreement) (entries : List Entry) (entry : Entry) → applied_all a (entries ++ entry ∷ []) ≡ applied (applied_all a entries) entry
applied_all_push a [] entry = refl
applied_all_push a (first ∷ entries) entry = applied_all_push (applied a first) entries entry
