-- The records that a consumer applied beyond the confirmed ones: each is held of its position's owner, and valid; they are at most 3,840.
use Rattle.std.proofs.Common.{◌≡◌, ℕ, zero, suc, ◌+◌, ◌-◌, ◌<◌, ◌≤◌, ◌==◌, List, [], ◌∷◌, ◌++◌, length, length-append, take, Option, Some, None, refl, sym, ap, ◌∙◌, subst, inl, inr, arith}
use Rattle.std.specs.List.{AllByRecursion, slice_get}
use Rattle.std.specs.Option.{option_and_then}
use Rattle.std.proofs.lemmas.Bool.{cases_Bool, cases_lt, eqb-true}
use Rattle.std.proofs.lemmas.List.{take-append-le, length-take-le}
use Rattle.std.proofs.lemmas.Option.{slice_get_within, same_Some}
use Rattle.consumer_node.specs.inside.Names.{Owner, IsValidRecord, Agreement, count_of, lane_of, Node, agreed_by, ConsumerState, held_of, held_for, IsOwn, IsConsumer}
use Rattle.record_codec.specs.declared.record.Record.{Record}
use Rattle.cut_core.specs.Map.{rest_of, granted_layout, map_of, mapped}
use Rattle.cut_core.proofs.Dense.{map_dense}
use Rattle.consumer_node.proofs.Lanes.{held_valid, held_reach}
use Rattle.consumer_node.proofs.Closings.{all_lane}
use Rattle.consumer_node.proofs.Owners.{IsAgreement, agreement_by}
use Rattle.consumer_node.proofs.Positions.{of_six, local_at, count_own, count_other, total, six_le, small_take}

-- ---- one of them

pub some_at : {X : Type 0} (xs : List X) (i : ℕ) → i < length xs → (x : X) × (slice_get xs i ≡ Some x)
some_at [] i below = absurd (omega arith)
some_at (x ∷ xs) zero below = (x, refl)
some_at (x ∷ xs) (suc i) below = some_at xs i (omega arith)

-- a record that is held for a position has an owner
pub owner_of_held : {A : Type 0} (a : Agreement) (s : ConsumerState A) (found : Option Owner) (rec : Record)
    → option_and_then (held_of s.lanes) found ≡ Some rec
    → (o : Owner) × (found ≡ Some o) × (held_of s.lanes o ≡ Some rec)
owner_of_held a s None rec e = absurd (cc)
owner_of_held a s (Some o) rec e = (o, refl, e)

-- the record that is applied at a place beyond the confirmed ones, and the owner of its position
pub record IsAppliedAt {A : Type 0} (a : Agreement) (s : ConsumerState A) (i : ℕ) : Type 0 where
  pub rec : Record
  pub owner : Owner
  pub applied : slice_get s.pending i ≡ Some rec
  pub position : mapped a (s.confirmed + i) ≡ Some owner
  pub held : held_of s.lanes owner ≡ Some rec

pub applied_at : {A : Type 0} (a : Agreement) (s : ConsumerState A) (i : ℕ) → i < length s.pending → held_for a s (s.confirmed + i) ≡ slice_get s.pending i
    → IsAppliedAt a s i
applied_at a s i below held =
    let there = some_at s.pending i below in
    let found = owner_of_held a s (mapped a (s.confirmed + i)) there.0 (held ∙ there.1) in
    record { rec = there.0; owner = found.0; applied = there.1; position = found.1; held = found.2 }

-- ---- they are valid

all_at : {X : Type 0} (P : X → Type 0) (xs : List X) → ((i : ℕ) (x : X) → i < length xs → slice_get xs i ≡ Some x → P x) → AllByRecursion P xs
all_at P [] each = tt
all_at P (x ∷ xs) each = (each 0 x (omega arith) refl, all_at P xs (λ i y below e. each (suc i) y (omega arith) e))

pub valid_at : {A : Type 0} (a : Agreement) (s : ConsumerState A) (i : ℕ) (rec : Record) → IsOwn a s → i < length s.pending → slice_get s.pending i ≡ Some rec
    → IsValidRecord rec
valid_at a s i rec is below e =
    let at = applied_at a s i below (is.applied i below) in
    subst IsValidRecord (same_Some at.rec rec (sym at.applied ∙ e)) (held_valid (lane_of s.lanes at.owner.shard) at.owner.local at.rec (all_lane s.lanes at.owner.shard is.lanes) at.held)

pub pending_valid : {A : Type 0} (a : Agreement) (s : ConsumerState A) → IsOwn a s → AllByRecursion IsValidRecord s.pending
pending_valid a s is = all_at IsValidRecord s.pending (λ i rec below e. valid_at a s i rec is below e)

-- ---- they are few

-- the first owners of the map up to the confirmed positions are covered ones
pub take_covered : (a : Agreement) (n : ℕ) → n ≤ length a.covered → take n (map_of a) ≡ take n a.covered
take_covered a n within = take-append-le n a.covered (rest_of a ++ granted_layout a.granted) within

map_longer : (a : Agreement) → length a.covered ≤ length (map_of a)
map_longer a = omega (arith, length-append a.covered (rest_of a ++ granted_layout a.granted))

-- the map reaches past all applied positions
pub applied_within : {A : Type 0} (a : Agreement) (s : ConsumerState A) → IsOwn a s → s.confirmed + length s.pending ≤ length (map_of a)
applied_within a s is = elim (cases_lt 0 (length s.pending)) [
  | inl some ↦
      let last = length s.pending - 1 in
      let below : last < length s.pending = omega arith in
      let at = applied_at a s last below (is.applied last below) in
      omega (arith, slice_get_within (map_of a) (s.confirmed + last) at.owner at.position)
  | inr none ↦ omega (arith, is.confirmed, map_longer a)
]

-- of each shard, no more than its reach past its floor
of_shard : {A : Type 0} (a : Agreement) (s : ConsumerState A) (n shard : ℕ) → IsAgreement a → IsOwn a s → n ≤ length s.pending → shard < 6
    → count_of shard (take (s.confirmed + n) (map_of a)) ≤ count_of shard (take s.confirmed a.covered) + 640
of_shard a s zero shard agreed is within small =
    let none : s.confirmed + 0 ≡ s.confirmed = omega arith in
    omega (arith, ap (λ k. count_of shard (take k (map_of a))) none, ap (count_of shard) (take_covered a s.confirmed is.confirmed))
of_shard a s (suc n) shard agreed is within small =
    let before = of_shard a s n shard agreed is (omega arith) small in
    let at = applied_at a s n (omega arith) (is.applied n (omega arith)) in
    let next : s.confirmed + suc n ≡ suc (s.confirmed + n) = omega arith in
    let more : count_of shard (take (s.confirmed + suc n) (map_of a)) ≡ count_of shard (take (suc (s.confirmed + n)) (map_of a)) = ap (λ k. count_of shard (take k (map_of a))) next in
    elim (cases_Bool (at.owner.shard == shard)) [
      | inl own ↦
          let same : at.owner.shard ≡ shard = eqb-true at.owner.shard shard own in
          let local : at.owner.local ≡ count_of at.owner.shard (take (s.confirmed + n) (map_of a)) = local_at (map_of a) (s.confirmed + n) at.owner (map_dense a at.owner.shard agreed.sound) at.position in
          let reach = held_reach (lane_of s.lanes at.owner.shard) at.owner.local at.rec (all_lane s.lanes at.owner.shard is.lanes) at.held in
          let floor : (lane_of s.lanes shard).floor ≡ count_of shard (take s.confirmed a.covered) = is.floors shard small in
          omega (
            arith,
            more,
            count_own (map_of a) (s.confirmed + n) at.owner shard at.position same,
            local,
            reach.1,
            floor,
            ap (λ k. (lane_of s.lanes k).floor) same,
            ap (λ k. count_of k (take (s.confirmed + n) (map_of a))) same,
          )
      | inr other ↦ omega (arith, more, count_other (map_of a) (s.confirmed + n) at.owner shard at.position other, before)
    ]

-- so at most 640 of each of the six shards are applied and not yet confirmed
pub few_pending : {A : Type 0} (a : Agreement) (s : ConsumerState A) → IsAgreement a → IsOwn a s → length s.pending ≤ 3840
few_pending a s agreed is =
    let k = length s.pending in
    let now = take (s.confirmed + k) (map_of a) in
    let first = take s.confirmed a.covered in
    let within = applied_within a s is in
    let all : of_six (λ shard. count_of shard now) ≡ length now = total now (small_take (s.confirmed + k) (map_of a) agreed.small) in
    let old : of_six (λ shard. count_of shard first) ≡ length first = total first (small_take s.confirmed a.covered agreed.covered) in
    let each = six_le (λ shard. count_of shard now) (λ shard. count_of shard first) 640 (λ shard small. of_shard a s k shard agreed is (omega arith) small) in
    omega (arith, all, old, each, length-take-le (s.confirmed + k) (map_of a) within, length-take-le s.confirmed a.covered is.confirmed)

-- ---- of a consumer

pub IsConsumer_few : {A : Type 0} (n : Node (ConsumerState A)) → IsConsumer n → length n.own.pending ≤ 3840
IsConsumer_few n is = few_pending (agreed_by n.base) n.own (agreement_by n.base is.base) is.own

pub IsConsumer_valid : {A : Type 0} (n : Node (ConsumerState A)) → IsConsumer n → AllByRecursion IsValidRecord n.own.pending
IsConsumer_valid n is = pending_valid (agreed_by n.base) n.own is.own
