-- Flags of which all below a number are set: the first that isn't.
use Rattle.std.proofs.Common.{◌≡◌, ℕ, zero, suc, ◌+◌, ◌<◌, ◌≤◌, Bool, true, false, not, cond, List, [], ◌∷◌, ◌++◌, length, Option, Some, None, refl, ap, ◌∙◌, arith}
use Rattle.std.specs.List.{slice_get, position_from}
use Rattle.std.proofs.lemmas.List.{length-append}
use Rattle.fix_ante.proofs.Entries.{slice_get_append_left}
use Rattle.world.specs.inside.Outboxes.{AreSettledBelow}

-- with more flags
pub still_below : (next : ℕ) (flags later more : List Bool) → later ≡ flags ++ more → next ≤ length flags → AreSettledBelow next flags
    → AreSettledBelow next later
still_below next flags later more e within below number under =
    ap (λ (xs : List Bool). slice_get xs number) e ∙ slice_get_append_left flags more number (omega (arith, under, within)) ∙ below number under

pub longer : (next : ℕ) (flags later more : List Bool) → later ≡ flags ++ more → next ≤ length flags → next ≤ length later
longer next flags later more e within = omega (arith, ap length e, length-append flags more, within)

-- ---- the first flag that isn't set

set_first : (b : Bool) (flags : List Bool) (next : ℕ) → AreSettledBelow (suc next) (b ∷ flags) → b ≡ true
set_first b flags next below = let first : Some b ≡ Some true = below 0 (omega arith) in cc

first_from : (a : ℕ) (flags : List Bool) (next : ℕ) → AreSettledBelow next flags → slice_get flags next ≡ Some false
    → position_from not a flags ≡ Some (a + next)
first_from a [] next below there = absurd (cc)
first_from a (b ∷ flags) zero below there =
    let clear : b ≡ false = cc in
    let at : a ≡ a + 0 = omega arith in
    ap (λ (x : Bool). cond (not x) (Some a) (position_from not (a + 1) flags)) clear ∙ ap (λ (k : ℕ). Some k) at
first_from a (b ∷ flags) (suc next) below there =
    let at : a + 1 + next ≡ a + suc next = omega arith in
    ap (λ (x : Bool). cond (not x) (Some a) (position_from not (a + 1) flags)) (set_first b flags next below)
    ∙ first_from (a + 1) flags next (λ k under. below (suc k) (omega (arith, under))) there
    ∙ ap (λ (k : ℕ). Some k) at

none_from : (a : ℕ) (flags : List Bool) → AreSettledBelow (length flags) flags → position_from not a flags ≡ None
none_from a [] below = refl
none_from a (b ∷ flags) below =
    ap (λ (x : Bool). cond (not x) (Some a) (position_from not (a + 1) flags)) (set_first b flags (length flags) below)
    ∙ none_from (a + 1) flags (λ k under. below (suc k) (omega (arith, under)))

pub first_open : (flags : List Bool) (next : ℕ) → AreSettledBelow next flags → slice_get flags next ≡ Some false → position_from not 0 flags ≡ Some next
first_open flags next below there =
    let at : 0 + next ≡ next = omega arith in
    first_from 0 flags next below there ∙ ap (λ (k : ℕ). Some k) at

pub none_open : (flags : List Bool) (next : ℕ) → length flags ≤ next → AreSettledBelow next flags → position_from not 0 flags ≡ None
none_open flags next past below = none_from 0 flags (λ k under. below k (omega (arith, under, past)))

-- the first flag that isn't set is one of the flags
open_at : (b : Bool) (a count number : ℕ) (later : Option ℕ) → (later ≡ Some number → number < a + 1 + count) → cond (not b) (Some a) later ≡ Some number
    → number < a + suc count
open_at true a count number later below e = omega (arith, below e)
open_at false a count number later below e = let here : a ≡ number = cc in omega (arith, here)

open_from : (a : ℕ) (flags : List Bool) (number : ℕ) → position_from not a flags ≡ Some number → number < a + length flags
open_from a [] number e = absurd (cc)
open_from a (b ∷ flags) number e = open_at b a (length flags) number (position_from not (a + 1) flags) (open_from (a + 1) flags number) e

pub open_within : (flags : List Bool) (number : ℕ) → position_from not 0 flags ≡ Some number → number < length flags
open_within flags number e = omega (arith, open_from 0 flags number e)
