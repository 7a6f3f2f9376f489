-- The covered position that is looked up stands in the window that the search finds.
use Rattle.std.proofs.Common.{◌≡◌, ℕ, zero, suc, ◌+◌, ◌-◌, ◌*◌, ◌<◌, ◌≤◌, true, false, inl, inr, List, [], ◌++◌, length, take, drop, replicate, slice_index, Option, Some, None, refl, sym, ap, ◌∙◌, subst, arith, append-nil, append_assoc, length-append}
use Rattle.std.specs.Prelude.{nat_le}
use Rattle.std.specs.List.{slice_get, flat_map}
use Rattle.std.specs.List.Sorted.{IsNonDecreasingBy, IsPartitionPoint}
use Rattle.std.specs.Option.{option_map, unwrap_or, MatchOption, IfSome, IsSome}
use Rattle.std.proofs.lemmas.Bool.{cases_Bool}
use Rattle.std.proofs.lemmas.List.{length-replicate}
use Rattle.std.proofs.lemmas.Option.{slice_get_past, slice_get_within}
use Rattle.fix_ante.specs.declared.spots.Owner.{Owner}
use Rattle.fix_ante.specs.Windows.{Window, has_row, width_of}
use Rattle.fix_ante.specs.Layout.{rounds_from, index_of}
use Rattle.fix_ante.proofs.Entries.{slice_get_append_left, slice_get_append_right}
use Rattle.fix_ante.proofs.LayoutLemmas.{length_rounds_from}
use Rattle.cut_core.specs.declared.past.Past.{Past}
use Rattle.cut_core.specs.declared.agreed.Agreed.TheInside.{Inside}
use Rattle.cut_core.specs.Agreements.{Agreement, count_of, is_gone}
use Rattle.cut_core.specs.Map.{located, placed, covered_locals}
use Rattle.cut_core.specs.Soundness.{IsSound, HasFinalEnds}
use Rattle.cut_core.specs.inside.Kept.{owners_in, numbers_in, AreOver, agreement_of, IsAgreed, window_from, IsPast, StandsIn, IsPastLocal, HasLocal}
use Rattle.cut_core.proofs.Dense.{IsDense, placed_located, slice_get_index_of, index_of_dense}
use Rattle.cut_core.proofs.Finding.{slice_get_window, index_of_window, count_of_front, dense_found, index_of_dense_past}
use Rattle.cut_core.proofs.Pasts.{covered_by, covered_by_split, numbers_by_split, length_numbers_in, Grows, IsKeyOf, IsFoundAt, rising, found_at}
use Rattle.cut_core.proofs.Ends.{row_within}
use Rattle.cut_core.proofs.Counts.{start_after_absent}

-- ---- the two measures

pub grows_length : Grows length
grows_length = record { none = refl; more = λ xs ys. omega (arith, length-append xs ys) }

pub grows_count : (shard : ℕ) → Grows (count_of shard)
grows_count shard = record { none = refl; more = λ xs ys. count_of_front shard xs ys }

pub ends_key : (past : List Past) → AreOver past → IsKeyOf length (λ (p : Past). p.end) past
ends_key past over = λ at p e. (over at p e).end

pub locals_key : (past : List Past) (shard : ℕ) → AreOver past → shard < 6 → IsKeyOf (count_of shard) (λ (p : Past). slice_index p.ends shard) past
locals_key past shard over below = λ at p e. (over at p e).ends shard below

-- ---- the covered positions, around the window that a search finds

around : (past : List Past) (current : List Owner) (at : ℕ) (p : Past) → slice_get past at ≡ Some p
    → flat_map owners_in past ++ current ≡ covered_by at past ++ (owners_in p ++ (flat_map owners_in (drop (suc at) past) ++ current))
around past current at p e =
    let before = covered_by at past in
    let after = flat_map owners_in (drop (suc at) past) in
    ap (λ t. t ++ current) (covered_by_split past at p e)
    ∙ append_assoc before (owners_in p ++ after) current
    ∙ ap (λ t. before ++ t) (append_assoc (owners_in p) after current)

numbers_around : (past : List Past) (current : List ℕ) (at : ℕ) (p : Past) → slice_get past at ≡ Some p
    → flat_map numbers_in past ++ current ≡ flat_map numbers_in (take at past) ++ (numbers_in p ++ (flat_map numbers_in (drop (suc at) past) ++ current))
numbers_around past current at p e =
    let before = flat_map numbers_in (take at past) in
    let after = flat_map numbers_in (drop (suc at) past) in
    ap (λ t. t ++ current) (numbers_by_split past at p e)
    ∙ append_assoc before (numbers_in p ++ after) current
    ∙ ap (λ t. before ++ t) (append_assoc (numbers_in p) after current)

slice_get_replicate : (count number i : ℕ) → i < count → slice_get (replicate count number) i ≡ Some number
slice_get_replicate zero number i h = absurd (omega arith)
slice_get_replicate (suc count) number zero h = refl
slice_get_replicate (suc count) number (suc i) h = slice_get_replicate count number i (omega arith)

slice_get_numbers : (before after : List ℕ) (count number p : ℕ) → length before ≤ p → p < length before + count
    → slice_get (before ++ (replicate count number ++ after)) p ≡ Some number
slice_get_numbers before after count number p from below =
    let at = p - length before in
    let split : p ≡ length before + at = omega arith in
    ap (slice_get (before ++ (replicate count number ++ after))) split
    ∙ slice_get_append_right before (replicate count number ++ after) (length before) at refl
    ∙ slice_get_append_left (replicate count number) after at (omega (arith, length-replicate {A = ℕ} count number))
    ∙ slice_get_replicate count number at (omega arith)

-- where the current window begins
pub current_base : (i : Inside) → IsAgreed i → i.current.base ≡ length (flat_map owners_in i.past.items)
current_base i is =
    omega (arith, is.sound.covered, length-append (flat_map owners_in i.past.items) (rounds_from i.current.spots 0 i.rounds), length_rounds_from i.current.spots 0 i.rounds)

-- ---- the window of a position

-- a covered position past all windows that are over stands in the current one
stands_in_current : (i : Inside) (position : ℕ) → IsAgreed i → position < length (agreement_of i).covered → length (flat_map owners_in i.past.items) ≤ position
    → StandsIn (agreement_of i) position i.current
stands_in_current i position is within high =
    let past = i.past.items in
    let before = flat_map owners_in past in
    let seen = rounds_from i.current.spots 0 i.rounds in
    let count = i.rounds * width_of i.current in
    let numbers = replicate count i.current.number in
    let base = current_base i is in
    let sizes = length_numbers_in past in
    record {
      valid = is.sound.window;
      owner = ap (λ t. slice_get (before ++ t) position) (sym (append-nil seen)) ∙ slice_get_window i.current i.rounds before [] position (omega (arith, is.sound.short)) base high within;
      number = ap (λ t. slice_get (flat_map numbers_in past ++ t) position) (sym (append-nil numbers))
          ∙ slice_get_numbers (flat_map numbers_in past) [] count i.current.number position (omega arith) (omega (arith, is.sound.covered));
    }

stands_by : (i : Inside) (position at : ℕ) (found : Option Past) → IsAgreed i → position < length (agreement_of i).covered → slice_get i.past.items at ≡ found
    → length (covered_by at i.past.items) ≤ position
    → MatchOption found (length (flat_map owners_in i.past.items) ≤ position) (λ p. position < length (covered_by at i.past.items ++ owners_in p))
    → StandsIn (agreement_of i) position (unwrap_or (option_map (λ (p : Past). p.window) found) i.current)
stands_by i position at (Some p) is within e low high =
    let past = i.past.items in
    let over = is.over at p e in
    let seen = rounds_from i.current.spots 0 i.rounds in
    let count = p.rounds * width_of p.window in
    let sizes = length_numbers_in (take at past) in
    record {
      valid = over.window;
      owner = ap (λ os. slice_get os position) (around past seen at p e) ∙ slice_get_window p.window p.rounds (covered_by at past) (flat_map owners_in (drop (suc at) past) ++ seen) position over.rounds over.base low high;
      number = ap (λ ns. slice_get ns position) (numbers_around past (replicate (i.rounds * width_of i.current) i.current.number) at p e)
          ∙ slice_get_numbers (flat_map numbers_in (take at past)) (flat_map numbers_in (drop (suc at) past) ++ replicate (i.rounds * width_of i.current) i.current.number) count p.window.number position (omega arith)
          (omega (arith, length-append (covered_by at past) (owners_in p), length_rounds_from p.window.spots 0 p.rounds));
    }
stands_by i position at None is within e low high = stands_in_current i position is within high

pub stands_in : (i : Inside) (position at : ℕ) → IsAgreed i → position < length (agreement_of i).covered → IsFoundAt length i.past.items position at
    → StandsIn (agreement_of i) position (window_from i.past.items at i.current)
stands_in i position at is within found = stands_by i position at (slice_get i.past.items at) is within refl found.0 found.1

pub length_numbers : (i : Inside) → length (agreement_of i).numbers ≡ length (agreement_of i).covered
length_numbers i =
    let count = i.rounds * width_of i.current in
    omega (arith, length_numbers_in i.past.items, length-append (flat_map numbers_in i.past.items) (replicate count i.current.number), length-replicate {A = ℕ} count i.current.number, length-append (flat_map owners_in i.past.items) (rounds_from i.current.spots 0 i.rounds), length_rounds_from i.current.spots 0 i.rounds)

pub is_past : (i : Inside) (position : ℕ) → length (agreement_of i).covered ≤ position → IsPast (agreement_of i) position
is_past i position past =
    record {
      past = past;
      owner = slice_get_past (agreement_of i).covered position past;
      number = slice_get_past (agreement_of i).numbers position (omega (arith, length_numbers i));
    }

-- ---- the window of a local

is_some : {X : Type 0} (o : Option X) (x : X) → o ≡ Some x → IsSome o
is_some None x e = absurd (cc)
is_some (Some y) x e = refl

pub placed_some : (a : Agreement) (shard local : ℕ) → IsSound a → local < covered_locals a shard → IsSome (placed a shard local)
placed_some a shard local is below =
    let found = dense_found a.covered shard local (is.dense shard) below in
    is_some (placed a shard local) found.0 (index_of_dense a.covered shard local found.0 0 (count_of shard a.covered) (is.dense shard) found.1)

local_by : (i : Inside) (shard local at : ℕ) (found : Option Past) → IsAgreed i → local < covered_locals (agreement_of i) shard
    → slice_get i.past.items at ≡ found
    → count_of shard (covered_by at i.past.items) ≤ local
    → MatchOption found (count_of shard (flat_map owners_in i.past.items) ≤ local) (λ p. local < count_of shard (covered_by at i.past.items ++ owners_in p))
    → HasLocal (agreement_of i) shard local (unwrap_or (option_map (λ (p : Past). p.window) found) i.current)
local_by i shard local at (Some p) is within e low high =
    let past = i.past.items in
    let over = is.over at p e in
    let seen = rounds_from i.current.spots 0 i.rounds in
    let parts = around past seen at p e in
    record {
      some = placed_some (agreement_of i) shard local is.sound within;
      place = ap (λ os. index_of os shard local) parts
          ∙ index_of_window p.window p.rounds (covered_by at past) (flat_map owners_in (drop (suc at) past) ++ seen) shard local over.window over.rounds over.base (subst (IsDense shard) parts (is.sound.dense shard)) low high;
    }
local_by i shard local at None is within e low high =
    let before = flat_map owners_in i.past.items in
    let seen = rounds_from i.current.spots 0 i.rounds in
    let parts : before ++ seen ≡ before ++ (seen ++ []) = ap (λ t. before ++ t) (sym (append-nil seen)) in
    record {
      some = placed_some (agreement_of i) shard local is.sound within;
      place = ap (λ os. index_of os shard local) parts
          ∙ index_of_window i.current i.rounds before [] shard local is.sound.window (omega (arith, is.sound.short)) (current_base i is) (subst (IsDense shard) parts (is.sound.dense shard)) high within;
    }

pub has_local : (i : Inside) (shard local at : ℕ) → IsAgreed i → local < covered_locals (agreement_of i) shard
    → IsFoundAt (count_of shard) i.past.items local at → HasLocal (agreement_of i) shard local (window_from i.past.items at i.current)
has_local i shard local at is within found = local_by i shard local at (slice_get i.past.items at) is within refl found.0 found.1

pub is_past_local : (a : Agreement) (shard local : ℕ) → IsSound a → covered_locals a shard ≤ local → IsPastLocal a shard local
is_past_local a shard local is past = record { past = past; place = index_of_dense_past a.covered shard local (is.dense shard) past }

-- ---- an owner and its place

place_by : (a : Agreement) (p : ℕ) (found : Option Owner) → IsSound a → located a p ≡ found → IfSome found (λ o. placed a o.shard o.local ≡ Some p)
place_by a p None is e = tt
place_by a p (Some o) is e = placed_located a p o is e

pub located_IfSome : (a : Agreement) (p : ℕ) → IsSound a → IfSome (located a p) (λ o. placed a o.shard o.local ≡ Some p)
located_IfSome a p is = place_by a p (located a p) is refl

owner_by : (a : Agreement) (shard local : ℕ) (found : Option ℕ) → placed a shard local ≡ found
    → IfSome found (λ p. located a p ≡ Some (record { shard = shard; local = local }))
owner_by a shard local None e = tt
owner_by a shard local (Some p) e = slice_get_index_of a.covered shard local p e

pub placed_IfSome : (a : Agreement) (shard local : ℕ) → IfSome (placed a shard local) (λ p. located a p ≡ Some (record { shard = shard; local = local }))
placed_IfSome a shard local = owner_by a shard local (placed a shard local) refl

below_by : (a : Agreement) (shard local : ℕ) (found : Option ℕ) → placed a shard local ≡ found → IfSome found (λ p. p < length a.covered)
below_by a shard local None e = tt
below_by a shard local (Some p) e = slice_get_within a.covered p _ (slice_get_index_of a.covered shard local p e)

pub placed_below : (a : Agreement) (shard local : ℕ) → IfSome (placed a shard local) (λ p. p < length a.covered)
placed_below a shard local = below_by a shard local (placed a shard local) refl

-- ---- what a search from the fields tells of the value

pub rising_ends : (i : Inside) (past : List Past) → IsAgreed i → past ≡ i.past.items → IsNonDecreasingBy (λ (p : Past). p.end) past
rising_ends i past is same =
    subst (IsNonDecreasingBy (λ (p : Past). p.end)) (sym same) (rising length (λ (p : Past). p.end) i.past.items grows_length (ends_key i.past.items is.over))

pub rising_locals : (i : Inside) (past : List Past) (shard : ℕ) → IsAgreed i → past ≡ i.past.items → shard < 6
    → IsNonDecreasingBy (λ (p : Past). slice_index p.ends shard) past
rising_locals i past shard is same below =
    subst (IsNonDecreasingBy (λ (p : Past). slice_index p.ends shard)) (sym same) (rising (count_of shard) (λ (p : Past). slice_index p.ends shard) i.past.items (grows_count shard) (locals_key i.past.items shard is.over below))

pub window_found : (i : Inside) (a : Agreement) (position at : ℕ) (past again : List Past) (w : Window) → agreement_of i ≡ a → IsAgreed i
    → position < length a.covered → past ≡ i.past.items → again ≡ i.past.items → at ≤ length past
    → IsPartitionPoint (λ (p : Past). nat_le p.end position ≡ true) (λ (p : Past). nat_le p.end position ≡ false) past at
    → w ≡ window_from again at i.current → StandsIn a position w
window_found i a position at past again w view is within same twice bound point from =
    let key : Past → ℕ = λ p. p.end in
    let here : IsPartitionPoint (λ (p : Past). nat_le p.end position ≡ true) (λ (p : Past). nat_le p.end position ≡ false) i.past.items at = subst (λ ps. IsPartitionPoint (λ (p : Past). nat_le p.end position ≡ true) (λ (p : Past). nat_le p.end position ≡ false) ps at) same point in
    let found = found_at length key i.past.items position at grows_length (ends_key i.past.items is.over) (omega (arith, ap length same)) here in
    let covered = ap (λ (b : Agreement). length b.covered) view in
    let stands = stands_in i position at is (omega arith) found in
    subst (StandsIn a position) (sym (from ∙ ap (λ ps. window_from ps at i.current) twice)) (subst (λ (b : Agreement). StandsIn b position (window_from i.past.items at i.current)) view stands)

pub current_found : (i : Inside) (a : Agreement) (position : ℕ) → agreement_of i ≡ a → IsAgreed i → position < length a.covered → i.current.base ≤ position
    → StandsIn a position i.current
current_found i a position view is within from =
    let covered = ap (λ (b : Agreement). length b.covered) view in
    let stands = stands_in_current i position is (omega arith) (omega (arith, current_base i is)) in
    subst (λ (b : Agreement). StandsIn b position i.current) view stands

pub past_position : (i : Inside) (a : Agreement) (position : ℕ) → agreement_of i ≡ a → length a.covered ≤ position → IsPast a position
past_position i a position view past =
    subst (λ (b : Agreement). IsPast b position) view (is_past i position (omega (arith, ap (λ (b : Agreement). length b.covered) view)))

pub local_found : (i : Inside) (a : Agreement) (shard local at : ℕ) (past again : List Past) (w : Window) → agreement_of i ≡ a → IsAgreed i → shard < 6
    → local < covered_locals a shard → past ≡ i.past.items → again ≡ i.past.items → at ≤ length past
    → IsPartitionPoint (λ (p : Past). nat_le (slice_index p.ends shard) local ≡ true) (λ (p : Past). nat_le (slice_index p.ends shard) local ≡ false) past at
    → w ≡ window_from again at i.current → HasLocal a shard local w
local_found i a shard local at past again w view is below within same twice bound point from =
    let key : Past → ℕ = λ p. slice_index p.ends shard in
    let here : IsPartitionPoint (λ (p : Past). nat_le (slice_index p.ends shard) local ≡ true) (λ (p : Past). nat_le (slice_index p.ends shard) local ≡ false) i.past.items at = subst (λ ps. IsPartitionPoint (λ (p : Past). nat_le (slice_index p.ends shard) local ≡ true) (λ (p : Past). nat_le (slice_index p.ends shard) local ≡ false) ps at) same point in
    let found = found_at (count_of shard) key i.past.items local at (grows_count shard) (locals_key i.past.items shard is.over below) (omega (arith, ap length same)) here in
    let covered = ap (λ (b : Agreement). covered_locals b shard) view in
    let has = has_local i shard local at is (omega arith) found in
    subst (HasLocal a shard local) (sym (from ∙ ap (λ ps. window_from ps at i.current) twice)) (subst (λ (b : Agreement). HasLocal b shard local (window_from i.past.items at i.current)) view has)

-- no local of a number that is no shard's is covered
pub no_locals : (a : Agreement) (shard : ℕ) → IsSound a → HasFinalEnds a → 6 ≤ shard → covered_locals a shard ≡ 0
no_locals a shard is final above =
    let stays : is_gone a shard ≡ false = elim (cases_Bool (is_gone a shard)) [
      | inl gone ↦ absurd (let below = final.within shard gone in omega arith)
      | inr other ↦ other
    ] in
    let absent : has_row shard a.current.spots ≡ false = elim (cases_Bool (has_row shard a.current.spots)) [
      | inl row ↦ absurd (let below = row_within a.current.spots shard is.window.table.within row in omega arith)
      | inr other ↦ other
    ] in
    sym (is.starts shard stays) ∙ start_after_absent a.current.spots a.rounds shard absent
