-- The records of all shards: where one shard's change, or all of them in the same way, and where shards that are gone are closed, one gone
-- shard after another or one shard after another.
use Rattle.std.proofs.Common.{◌≡◌, ◌⊎◌, ℕ, zero, suc, List, [], ◌∷◌, map, refl, sym, ap, inl, inr, subst, ◌+◌, ◌<◌, ◌≤◌, ◌==◌, nat_lt, Bool, true, length, length-set, Option, Some, None, ◌∙◌, arith}
use Rattle.std.specs.Prelude.{slice_set}
use Rattle.std.specs.List.{AllByRecursion, filter, fold, range_with_len}
use Rattle.std.proofs.lemmas.List.Elements.{All-set, All-from_recursion, recursion_from_All, filter_passes}
use Rattle.spec_delivery.specs.Lanes.{LaneState, fresh_lane, IsInReach, HoldsInReach, held_at, closed}
use Rattle.spec_delivery.specs.Buffers.{lane_of, without_records, with_end}
use Rattle.consumer_node.specs.inside.Names.{IsLane, Gone, end_among, close}
use Rattle.consumer_node.proofs.Lanes.{lane_fresh, lane_emptied, lane_closed, held_closed}
use Rattle.std.specs.Option.{option_map_or}
use Rattle.std.proofs.lemmas.Bool.{cases_Bool, cases_eq, cond-true, cond-false, eqb-true, eqb-false, lt-ltb}
use Rattle.std.proofs.lemmas.List.{get_or-set_same, get_or-set_other, set-get_or, ext_get_or}
use Rattle.cut_core.proofs.Ends.{AreCounts, end_among_counted}
use Rattle.node_rules.specs.Names.{Record}
use Rattle.node_rules.proofs.Lists.{all_weaken}
use Rattle.consumer_node.specs.inside.Closing.{close_shard}

-- ---- one shard's records change

-- each lane is the old one, or it is the shard's and the new one
pub lane_set : (lanes : List LaneState) (shard : ℕ) (lane : LaneState) (other : ℕ)
    → (lane_of (slice_set lanes shard lane) other ≡ lane_of lanes other) ⊎ ((shard ≡ other) × (lane_of (slice_set lanes shard lane) other ≡ lane))
lane_set [] shard lane other = inl refl
lane_set (x ∷ xs) zero lane zero = inr (refl, refl)
lane_set (x ∷ xs) zero lane (suc other) = inl refl
lane_set (x ∷ xs) (suc shard) lane zero = inl refl
lane_set (x ∷ xs) (suc shard) lane (suc other) = elim (lane_set xs shard lane other) [
  | inl same ↦ inl same
  | inr here ↦ inr (ap suc here.0, here.1)
]

-- what relates each lane to itself, and the shard's to the new one, relates each to what it becomes
pub set_each : (P : LaneState → LaneState → Type 0) (lanes : List LaneState) (shard : ℕ) (lane : LaneState) → ((l : LaneState) → P l l)
    → P (lane_of lanes shard) lane → (other : ℕ)
    → P (lane_of lanes other) (lane_of (slice_set lanes shard lane) other)
set_each P lanes shard lane itself changed other = elim (lane_set lanes shard lane other) [
  | inl same ↦ subst (P (lane_of lanes other)) (sym same) (itself (lane_of lanes other))
  | inr here ↦ subst (P (lane_of lanes other)) (sym here.1) (subst (λ s. P (lane_of lanes s) lane) here.0 changed)
]

-- what holds of each lane, and of one of which nothing is known, holds of a shard's
pub all_of : (P : LaneState → Type 0) (lanes : List LaneState) (shard : ℕ) → P fresh_lane → AllByRecursion P lanes → P (lane_of lanes shard)
all_of P [] shard none h = none
all_of P (x ∷ xs) zero none h = h.0
all_of P (x ∷ xs) (suc shard) none h = all_of P xs shard none h.1

pub all_lane : (lanes : List LaneState) (shard : ℕ) → AllByRecursion IsLane lanes → IsLane (lane_of lanes shard)
all_lane lanes shard h = all_of IsLane lanes shard lane_fresh h

pub all_set : {X : Type 0} (P : X → Type 0) (xs : List X) (i : ℕ) (x : X) → AllByRecursion P xs → P x → AllByRecursion P (slice_set xs i x)
all_set P xs i x all here = recursion_from_All P (slice_set xs i x) (All-set P xs i x here (All-from_recursion P xs all))

-- ---- all of them change

pub lane_mapped : (change : LaneState → LaneState) (lanes : List LaneState) (shard : ℕ) → change fresh_lane ≡ fresh_lane
    → lane_of (map change lanes) shard ≡ change (lane_of lanes shard)
lane_mapped change [] shard none = sym none
lane_mapped change (x ∷ xs) zero none = refl
lane_mapped change (x ∷ xs) (suc shard) none = lane_mapped change xs shard none

pub all_emptied : (lanes : List LaneState) → AllByRecursion IsLane (without_records lanes)
all_emptied [] = tt
all_emptied (x ∷ xs) = (lane_emptied x, all_emptied xs)

-- ---- one shard

-- what becomes of the records of a shard that may be gone
abbrev pub ended : Option ℕ → LaneState → LaneState
ended None lane = lane
ended (Some end) lane = closed lane end

pub ended_floor : (end : Option ℕ) (lane : LaneState) → (ended end lane).floor ≡ lane.floor
ended_floor None lane = refl
ended_floor (Some end) lane = refl

pub ended_end : (end : Option ℕ) (lane : LaneState) → (end ≡ None → lane.end ≡ None) → (ended end lane).end ≡ end
ended_end None lane none = none refl
ended_end (Some end) lane none = refl

-- what is held below the end stays
pub ended_held : (end : Option ℕ) (lane : LaneState) (local : ℕ) → ((at : ℕ) → end ≡ Some at → local < at) → held_at (ended end lane) local ≡ held_at lane local
ended_held None lane local below = refl
ended_held (Some end) lane local below = held_closed lane end local (below end refl)

filter_kept : {X : Type 0} (p : X → Bool) (xs : List X) → AllByRecursion (λ x. p x ≡ true) xs → filter p xs ≡ xs
filter_kept p [] passes = refl
filter_kept p (x ∷ xs) passes = cond-true (p x) (x ∷ filter p xs) (filter p xs) passes.0 ∙ ap (λ rest. x ∷ rest) (filter_kept p xs passes.1)

-- a shard that has an end, and whose records are all before it, is closed there
closed_same : (lane : LaneState) (end : ℕ) → AllByRecursion (λ e. nat_lt e.0 end ≡ true) lane.held → lane.end ≡ Some end → closed lane end ≡ lane
closed_same lane end before is =
    let made : Option ℕ → List (ℕ × Record) → LaneState = λ other held. record { floor = lane.floor; end = other; held = held } in
    ap (λ other. made other (filter (λ e. nat_lt e.0 end) lane.held)) (sym is) ∙ ap (made lane.end) (filter_kept (λ e. nat_lt e.0 end) lane.held before)

pub with_end_same : (lanes : List LaneState) (shard end : ℕ) → HoldsInReach (lane_of lanes shard) → (lane_of lanes shard).end ≡ Some end
    → with_end lanes shard end ≡ lanes
with_end_same lanes shard end reach is =
    let lane = lane_of lanes shard in
    let before = all_weaken (λ (e : ℕ × Record). IsInReach lane e.0) (λ e. nat_lt e.0 end ≡ true) lane.held (λ e within. let known = rw is at within in lt-ltb e.0 end known.2) reach in
    ap (slice_set lanes shard) (closed_same lane end before is) ∙ set-get_or lanes shard fresh_lane

-- ---- one gone shard after another

pub length_closed : (gs : List Gone) (lanes : List LaneState) → length (fold close lanes gs) ≡ length lanes
length_closed [] lanes = refl
length_closed (g ∷ gs) lanes = length_closed gs (close lanes g) ∙ length-set lanes g.shard (closed (lane_of lanes g.shard) g.end)

pub all_closed : (gs : List Gone) (lanes : List LaneState) → AllByRecursion IsLane lanes → AllByRecursion IsLane (fold close lanes gs)
all_closed [] lanes h = h
all_closed (g ∷ gs) lanes h =
    all_closed gs (close lanes g) (all_set IsLane lanes g.shard (closed (lane_of lanes g.shard) g.end) h (lane_closed (lane_of lanes g.shard) g.end (all_lane lanes g.shard h)))

-- a shard that is closed ends there, where it stands among others again
ended_again : (count : ℕ → ℕ) (gs : List Gone) (shard end : ℕ) (lane : LaneState) → AreCounts count gs → end ≡ count shard
    → ended (end_among gs shard) (closed lane end) ≡ closed lane end
ended_again count gs shard end lane counts is =
    elim (end_among gs shard) as (λ (o : Option ℕ). end_among gs shard ≡ o → ended o (closed lane end) ≡ closed lane end) [
      | None ↦ λ e. refl
      | Some other ↦ λ e.
          ap (closed (closed lane end)) (end_among_counted count gs shard other counts e ∙ sym is)
          ∙ closed_same (closed lane end) end (recursion_from_All _ _ (filter_passes (λ (e : ℕ × Record). nat_lt e.0 end) lane.held)) refl
    ] refl

pub lane_at_end : (count : ℕ → ℕ) (gs : List Gone) (lanes : List LaneState) (shard : ℕ) → AreCounts count gs → shard < length lanes
    → lane_of (fold close lanes gs) shard ≡ ended (end_among gs shard) (lane_of lanes shard)
lane_at_end count [] lanes shard counts within = refl
lane_at_end count (g ∷ gs) lanes shard counts within =
    let lane = closed (lane_of lanes g.shard) g.end in
    let next = lane_at_end count gs (close lanes g) shard counts.1 (omega (arith, within, length-set lanes g.shard lane)) in
    elim (cases_Bool (g.shard == shard)) [
      | inl here ↦
          let same : g.shard ≡ shard = eqb-true g.shard shard here in
          let there : lane_of (close lanes g) shard ≡ closed (lane_of lanes shard) g.end =
          ap (lane_of (close lanes g)) (sym same) ∙ get_or-set_same lanes g.shard lane fresh_lane (omega (arith, same, within)) ∙ ap (λ n. closed (lane_of lanes n) g.end) same in
          next ∙ ap (ended (end_among gs shard)) there ∙ ended_again count gs shard g.end (lane_of lanes shard) counts.1 (counts.0 ∙ ap count same)
          ∙ ap (λ (o : Option ℕ). ended o (lane_of lanes shard)) (sym (cond-true (g.shard == shard) (Some g.end) (end_among gs shard) here))
      | inr other ↦
          next ∙ ap (ended (end_among gs shard)) (get_or-set_other lanes g.shard shard lane fresh_lane (λ e. eqb-false g.shard shard other (sym e)))
          ∙ ap (λ (o : Option ℕ). ended o (lane_of lanes shard)) (sym (cond-false (g.shard == shard) (Some g.end) (end_among gs shard) other))
    ]

-- ---- one shard after another

shard_set : (lanes : List LaneState) (shard : ℕ) (end : Option ℕ)
    → option_map_or (λ end. with_end lanes shard end) end lanes ≡ slice_set lanes shard (ended end (lane_of lanes shard))
shard_set lanes shard None = sym (set-get_or lanes shard fresh_lane)
shard_set lanes shard (Some end) = refl

shard_length : (gone : List Gone) (lanes : List LaneState) (shard : ℕ) → length (close_shard gone lanes shard) ≡ length lanes
shard_length gone lanes shard = ap length (shard_set lanes shard (end_among gone shard)) ∙ length-set lanes shard _

shards_length : (gone : List Gone) (lanes : List LaneState) (from count : ℕ) → length (fold (close_shard gone) lanes (range_with_len from count)) ≡ length lanes
shards_length gone lanes from zero = refl
shards_length gone lanes from (suc count) = shards_length gone (close_shard gone lanes from) (from + 1) count ∙ shard_length gone lanes from

shards_before : (gone : List Gone) (lanes : List LaneState) (from count shard : ℕ) → shard < from
    → lane_of (fold (close_shard gone) lanes (range_with_len from count)) shard ≡ lane_of lanes shard
shards_before gone lanes from zero shard below = refl
shards_before gone lanes from (suc count) shard below =
    shards_before gone (close_shard gone lanes from) (from + 1) count shard (omega arith)
    ∙ ap (λ ls. lane_of ls shard) (shard_set lanes from (end_among gone from)) ∙ get_or-set_other lanes from shard _ fresh_lane (λ same. omega (arith, same, below))

shards_at : (gone : List Gone) (lanes : List LaneState) (from count shard : ℕ) → from ≤ shard → shard < from + count → shard < length lanes
    → lane_of (fold (close_shard gone) lanes (range_with_len from count)) shard ≡ ended (end_among gone shard) (lane_of lanes shard)
shards_at gone lanes from zero shard past below within = absurd (omega arith)
shards_at gone lanes from (suc count) shard past below within =
    let next = close_shard gone lanes from in
    let set = ap (λ ls. lane_of ls shard) (shard_set lanes from (end_among gone from)) in
    elim (cases_eq from shard) [
      | inl here ↦
          shards_before gone next (from + 1) count shard (omega (arith, here)) ∙ set
          ∙ subst (λ (n : ℕ). lane_of (slice_set lanes n (ended (end_among gone n) (lane_of lanes n))) shard ≡ ended (end_among gone shard) (lane_of lanes shard)) (sym here)
          (get_or-set_same lanes shard _ fresh_lane within)
      | inr apart ↦
          let stays : lane_of next shard ≡ lane_of lanes shard = set ∙ get_or-set_other lanes from shard _ fresh_lane (λ e. apart (sym e)) in
          shards_at gone next (from + 1) count shard (omega (arith, apart)) (omega arith) (omega (arith, shard_length gone lanes from, within))
          ∙ ap (ended (end_among gone shard)) stays
    ]

pub close_shards : (count : ℕ → ℕ) (gone : List Gone) (lanes : List LaneState) → AreCounts count gone → length lanes ≡ 6
    → fold (close_shard gone) lanes (range_with_len 0 6) ≡ fold close lanes gone
close_shards count gone lanes counts six =
    ext_get_or fresh_lane _ _ (shards_length gone lanes 0 6 ∙ sym (length_closed gone lanes))
    (λ shard below.
    let within : shard < length lanes = omega (arith, below, shards_length gone lanes 0 6) in
    shards_at gone lanes 0 6 shard (omega arith) (omega (arith, within, six)) within ∙ sym (lane_at_end count gone lanes shard counts within))
