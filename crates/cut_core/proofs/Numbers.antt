-- The numbers of the windows in which the positions of the map stand.
use Rattle.std.proofs.Common.{◌≡◌, ℕ, zero, suc, ◌+◌, ◌-◌, ◌<◌, ◌≤◌, List, [], ◌∷◌, ◌++◌, length, replicate, Option, Some, None, refl, ap, ◌∙◌, inl, inr, arith, length-append}
use Rattle.std.specs.List.{slice_get}
use Rattle.std.proofs.lemmas.Bool.{cases_Bool, cond-true, cond-false}
use Rattle.std.proofs.lemmas.List.{length-replicate}
use Rattle.quota_table.specs.declared.entry.Entry.{Entry}
use Rattle.quota_table.specs.declared.entry.Entry.TheVariants.{Nothing, Cut, Table, Remove}
use Rattle.fix_ante.specs.Windows.{Window, width_of, end_of}
use Rattle.fix_ante.specs.Layout.{round_of, layout_of}
use Rattle.fix_ante.proofs.Entries.{slice_get_append_left, slice_get_append_right}
use Rattle.fix_ante.proofs.LayoutLemmas.{length_round_of, length_layout_of}
use Rattle.cut_core.specs.declared.effects.Reason.{Reason}
use Rattle.cut_core.specs.Agreements.{Agreement, is_last_round}
use Rattle.cut_core.specs.Reasons.{fault_of}
use Rattle.cut_core.specs.Fold.{with_round, open_granted, after_cut, after_entry, unless_void, applied, applied_all}
use Rattle.cut_core.specs.Map.{rest_of, granted_layout, granted_numbers, map_of, numbers_of}
use Rattle.cut_core.specs.Soundness.{IsSound, IsGrant}
use Rattle.cut_core.proofs.Parts.{length_rest}

-- each covered position has the number of its window
abbrev pub IsNumbered : Agreement → Type 0
IsNumbered a = length a.numbers ≡ length a.covered

numbered_round : (a : Agreement) → IsNumbered a → IsNumbered (with_round a)
numbered_round a is =
    let width = width_of a.current in
    let round = round_of a.current.spots a.rounds in
    omega (arith, is, length-append a.numbers (replicate width a.current.number), length-replicate width a.current.number, length-append a.covered round, length_round_of a.current.spots a.rounds)

numbered_open : (a : Agreement) (g : Option Window) → IsNumbered a → IsNumbered (open_granted a g)
numbered_open a None is = is
numbered_open a (Some w) is = is

numbered_cut : (a : Agreement) → IsNumbered a → IsNumbered (after_cut a)
numbered_cut a is =
    let round = numbered_round a is in
    elim (cases_Bool (is_last_round a)) [
      | inl last ↦ rw (cond-true (is_last_round a) (open_granted (with_round a) a.granted) (with_round a) last) (numbered_open (with_round a) a.granted round)
      | inr more ↦ rw (cond-false (is_last_round a) (open_granted (with_round a) a.granted) (with_round a) more) round
    ]

numbered_fit : (a : Agreement) (entry : Entry) → IsNumbered a → IsNumbered (after_entry a entry)
numbered_fit a Nothing is = is
numbered_fit a (Cut window round) is = numbered_cut a is
numbered_fit a (Table after rounds rows) is = is
numbered_fit a (Remove window shard) is = is

numbered_entry : (a : Agreement) (entry : Entry) (fault : Option Reason) → IsNumbered a → IsNumbered (unless_void fault a (after_entry a entry))
numbered_entry a entry None is = numbered_fit a entry is
numbered_entry a entry (Some reason) is = is

-- each entry keeps it
pub IsNumbered_applied : (a : Agreement) (entry : Entry) → IsNumbered a → IsNumbered (applied a entry)
IsNumbered_applied a entry is = numbered_entry a entry (fault_of a entry) is

pub IsNumbered_applied_all : (a : Agreement) (entries : List Entry) → IsNumbered a → IsNumbered (applied_all a entries)
IsNumbered_applied_all a [] is = is
IsNumbered_applied_all a (entry ∷ entries) is = IsNumbered_applied_all (applied a entry) entries (IsNumbered_applied a entry is)

-- ---- the number at a position

pub numbers_covered : (a : Agreement) (p : ℕ) → IsNumbered a → p < length a.covered → slice_get (numbers_of a) p ≡ slice_get a.numbers p
numbers_covered a p is below = slice_get_append_left a.numbers (replicate (length (rest_of a)) a.current.number ++ granted_numbers a.granted) p (omega arith)

slice_get_replicate : {X : Type 0} (count i : ℕ) (x : X) → i < count → slice_get (replicate count x) i ≡ Some x
slice_get_replicate zero i x h = absurd (omega arith)
slice_get_replicate (suc count) zero x h = refl
slice_get_replicate (suc count) (suc i) x h = slice_get_replicate count i x (omega arith)

pub numbers_current : (a : Agreement) (p : ℕ) → IsSound a → IsNumbered a → length a.covered ≤ p → p < end_of a.current
    → slice_get (numbers_of a) p ≡ Some a.current.number
numbers_current a p sound is from below =
    let i = p - length a.covered in
    let rest = replicate (length (rest_of a)) a.current.number in
    let split : p ≡ length a.numbers + i = omega arith in
    let within : i < length (rest_of a) = omega (arith, length_rest a sound) in
    let size : i < length rest = omega (arith, length-replicate (length (rest_of a)) a.current.number) in
    ap (slice_get (numbers_of a)) split
    ∙ slice_get_append_right a.numbers (rest ++ granted_numbers a.granted) (length a.numbers) i refl
    ∙ slice_get_append_left rest (granted_numbers a.granted) i size
    ∙ slice_get_replicate (length (rest_of a)) i a.current.number within

pub numbers_granted : (a : Agreement) (w : Window) (p : ℕ) → IsSound a → IsNumbered a → a.granted ≡ Some w → IsGrant a w → end_of a.current ≤ p → p < end_of w
    → slice_get (numbers_of a) p ≡ Some w.number
numbers_granted a w p sound is granted grant from below =
    let i = p - end_of a.current in
    let rest = replicate (length (rest_of a)) a.current.number in
    let size = length_rest a sound in
    let split : p ≡ length a.numbers + (length (rest_of a) + i) = omega arith in
    let within : i < length (layout_of w) = omega (arith, grant.base, length_layout_of w) in
    ap (slice_get (numbers_of a)) split
    ∙ slice_get_append_right a.numbers (rest ++ granted_numbers a.granted) (length a.numbers) (length (rest_of a) + i) refl
    ∙ slice_get_append_right rest (granted_numbers a.granted) (length (rest_of a)) i (length-replicate (length (rest_of a)) a.current.number)
    ∙ ap (λ g. slice_get (granted_numbers g) i) granted
    ∙ slice_get_replicate (length (layout_of w)) i w.number within

length_granted_numbers : (g : Option Window) → length (granted_numbers g) ≡ length (granted_layout g)
length_granted_numbers None = refl
length_granted_numbers (Some w) = length-replicate (length (layout_of w)) w.number

-- the map has as many numbers as owners
pub length_numbers_of : (a : Agreement) → IsNumbered a → length (numbers_of a) ≡ length (map_of a)
length_numbers_of a is =
    let rest = replicate (length (rest_of a)) a.current.number in
    omega (
      arith,
      length-append a.numbers (rest ++ granted_numbers a.granted),
      length-append rest (granted_numbers a.granted),
      length-replicate (length (rest_of a)) a.current.number,
      length_granted_numbers a.granted,
      length-append a.covered (rest_of a ++ granted_layout a.granted),
      length-append (rest_of a) (granted_layout a.granted),
    )
