-- Lists of places: the first with a number, and the last below an end.
use Rattle.std.proofs.Common.{◌≡◌, ℕ, zero, suc, ◌+◌, ◌-◌, ◌<◌, ◌≤◌, nat_lt, true, false, List, [], ◌∷◌, ◌++◌, length, take, drop, get_or, Option, Some, None, refl, sym, ap, ◌∙◌, drop-cons, arith}
use Rattle.std.specs.Option.{option_or, option_map, option_to_list}
use Rattle.std.specs.List.{slice_get, cons_option}
use Rattle.std.specs.List.Sorted.{IsPartitionPoint}
use Rattle.std.proofs.lemmas.List.{get_or-drop, length-drop, take-append-drop, length-take-le, get_or-take}
use Rattle.std.proofs.lemmas.Option.{slice_get-get_or}
use Rattle.shard_log.specs.declared.index.Place.{Place}
use Rattle.shard_log.specs.inside.Places.{last_below, first_with, number_below, local_with}

pub option_or_assoc : {T : Type 0} (a b c : Option T) → option_or (option_or a b) c ≡ option_or a (option_or b c)
option_or_assoc None b c = refl
option_or_assoc (Some x) b c = refl

pub option_or_none : {T : Type 0} (a : Option T) → option_or a None ≡ a
option_or_none None = refl
option_or_none (Some x) = refl

pub cons_option_nil : {X : Type 0} (o : Option X) → cons_option o [] ≡ option_to_list o
cons_option_nil None = refl
cons_option_nil (Some x) = refl

pub first_with_push : (number : ℕ) (ps : List Place) (p : Place) → first_with number (ps ++ p ∷ []) ≡ option_or (first_with number ps) (local_with number p)
first_with_push number [] p = option_or_none (local_with number p)
first_with_push number (q ∷ ps) p =
    ap (option_or (local_with number q)) (first_with_push number ps p) ∙ sym (option_or_assoc (local_with number q) (first_with number ps) (local_with number p))

pub last_below_append : (end : ℕ) (ps qs : List Place) → last_below end (ps ++ qs) ≡ option_or (last_below end qs) (last_below end ps)
last_below_append end [] qs = sym (option_or_none (last_below end qs))
last_below_append end (p ∷ ps) qs =
    ap (λ o. option_or o (number_below end p)) (last_below_append end ps qs) ∙ option_or_assoc (last_below end qs) (last_below end ps) (number_below end p)

pub last_below_past : (end : ℕ) (ps : List Place) → ((k : ℕ) (d : Place) → k < length ps → nat_lt (get_or ps k d).local end ≡ false) → last_below end ps ≡ None
last_below_past end [] past = refl
last_below_past end (p ∷ ps) past =
    let here : nat_lt p.local end ≡ false = past 0 p (omega arith) in
    let rest : last_below end ps ≡ None = last_below_past end ps (λ k d h. past (suc k) d (omega arith)) in
    grind arith

-- after a place below `end`, and none below it later, its number is the last
last_below_at : (end : ℕ) (before : List Place) (p : Place) (after : List Place) → nat_lt p.local end ≡ true
    → ((k : ℕ) (d : Place) → k < length after → nat_lt (get_or after k d).local end ≡ false) → last_below end (before ++ p ∷ after) ≡ Some p.number
last_below_at end before p after here past =
    let rest : last_below end after ≡ None = last_below_past end after past in
    let from : last_below end (p ∷ after) ≡ Some p.number = grind arith in
    last_below_append end before (p ∷ after) ∙ ap (λ o. option_or o (last_below end before)) from

-- the number of the last place below `end` is that of the last one before the point up to which they are below it
pub last_below_point : (end count : ℕ) (ps : List Place) → count ≤ length ps
    → IsPartitionPoint (λ (p : Place). nat_lt p.local end ≡ true) (λ (p : Place). nat_lt p.local end ≡ false) ps count
    → last_below end ps ≡ option_map (λ (p : Place). p.number) (slice_get (take count ps) (length (take count ps) - 1))
last_below_point end zero ps bound point = last_below_past end ps (λ k d h. point.1 k d (omega arith) h)
last_below_point end (suc n) ps bound point =
    let d : Place = record { local = 0; number = 0 } in
    let here : nat_lt (get_or ps n d).local end ≡ true = point.0 n d (omega arith) (omega arith) in
    let past : (k : ℕ) (e : Place) → k < length (drop (suc n) ps) → nat_lt (get_or (drop (suc n) ps) k e).local end ≡ false =
    λ k e h. rw get_or-drop (point.1 (suc n + k) e (omega arith) (omega (arith, length-drop (suc n) ps))) in
    let split : ps ≡ take n ps ++ get_or ps n d ∷ drop (suc n) ps = sym (take-append-drop n ps) ∙ ap (λ xs. take n ps ++ xs) (drop-cons ps n d bound) in
    let len : length (take (suc n) ps) ≡ suc n = length-take-le (suc n) ps bound in
    let end_is : length (take (suc n) ps) - 1 ≡ n = omega arith in
    let last : slice_get (take (suc n) ps) (length (take (suc n) ps) - 1) ≡ Some (get_or ps n d) =
    ap (slice_get (take (suc n) ps)) end_is ∙ slice_get-get_or (take (suc n) ps) n d (omega arith) ∙ ap Some (get_or-take (suc n) ps n d (omega arith)) in
    ap (last_below end) split ∙ last_below_at end (take n ps) (get_or ps n d) (drop (suc n) ps) here past ∙ sym (ap (option_map (λ (p : Place). p.number)) last)
