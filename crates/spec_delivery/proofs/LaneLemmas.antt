-- What is held of a shard stays within its reach and in the order of its locals.
use Rattle.std.proofs.Common.{◌≡◌, ℕ, ◌+◌, ◌-◌, ◌<◌, ◌≤◌, Bool, true, false, nat_lt, cond, List, [], ◌∷◌, length, filter, Option, Some, None, ◌==◌, refl, sym, subst, arith}
use Rattle.std.specs.List.{AllByRecursion}
use Rattle.std.specs.List.Sorted.{IsStrictlySortedBy}
use Rattle.std.specs.Map.{keys_of, lookup, remove_entry}
use Rattle.std.specs.BTreeMap.{insert_entry}
use Rattle.std.specs.Option.{IsSome}
use Rattle.std.specs.Ordering.{nat_cmp, eq_by_cmp, match_ordering, is_eq}
use Rattle.std.specs.declared.cmp.Ordering.TheVariants.{Less, Equal, Greater}
use Rattle.std.proofs.lemmas.Bool.Decides.{nat_tests}
use Rattle.std.proofs.lemmas.Map.{none_passes_from_lookup}
use Rattle.std.proofs.lemmas.Cmp.{eq_by_cmp_equiv, nat_cmp_total}
use Rattle.std.proofs.lemmas.Map.Lookups.{exact_unsigned}
use Rattle.std.proofs.lemmas.Map.Keys.{sorted_head, sorted_tail}
use Rattle.record_codec.specs.declared.record.Record.{Record}
use Rattle.spec_delivery.specs.Lanes.{LaneState, IsInReach, HoldsInReach, held_at}

-- locals by their order
at_floor : (local floor : ℕ) → nat_lt local floor ≡ false → floor ≤ local
at_floor local floor h = grind (arith, nat_tests)

lower : (m n : ℕ) → nat_lt m n ≡ true → m < n
lower m n h = grind (arith, nat_tests)

same_local : (a b : ℕ) → eq_by_cmp nat_cmp a b ≡ true → a ≡ b
same_local a b h = elim (nat_cmp a b) as (λ o. nat_cmp a b ≡ o → is_eq o ≡ true → a ≡ b) [
  | Less ↦ λ _ e. cc
  | Equal ↦ λ is _. exact_unsigned a b is
  | Greater ↦ λ _ e. cc
] refl h

apart : (a b : ℕ) → a ≤ b → eq_by_cmp nat_cmp a b ≡ false → a + 1 ≤ b
apart a b least h = elim (nat_lt a b) as (λ t. nat_lt a b ≡ t → a + 1 ≤ b) [
  | true ↦ λ e. grind (arith, nat_tests)
  | false ↦ λ e.
      let same : a ≡ b = omega (arith, at_floor a b e) in
      let here : eq_by_cmp nat_cmp b b ≡ true = (eq_by_cmp_equiv nat_cmp_total).refl b in
      let not_here : eq_by_cmp nat_cmp b b ≡ false = rw same at h in
      cc
] refl

past : (a b : ℕ) → nat_cmp a b ≡ Less → a + 1 ≤ b
past a b h = elim (nat_lt a b) as (λ t. nat_lt a b ≡ t → cond t Less (cond (a == b) Equal Greater) ≡ Less → a + 1 ≤ b) [
  | true ↦ λ e _. grind (arith, nat_tests)
  | false ↦ λ _ e. elim (a == b) as (λ t. cond t Equal Greater ≡ Less → a + 1 ≤ b) [ true ↦ λ e. cc | false ↦ λ e. cc ] e
] refl h

-- what holds of each local that is held
module _ (P : ℕ → Type 0) where
  pub all_insert : (es : List (ℕ × Record)) (k : ℕ) (r : Record) → AllByRecursion (λ e. P e.0) es → P k
      → AllByRecursion (λ e. P e.0) (insert_entry nat_cmp es k r)
  all_insert [] k r h here = (here, tt)
  all_insert (e ∷ es) k r h here =
      elim (nat_cmp k e.0) as (λ o. AllByRecursion (λ e. P e.0) (match_ordering o ((k, r) ∷ e ∷ es) ((e.0, r) ∷ es) (e ∷ insert_entry nat_cmp es k r))) [
        | Less ↦ (here, h)
        | Equal ↦ (h.0, h.1)
        | Greater ↦ (h.0, all_insert es k r h.1 here)
      ]

  pub all_remove : (test : ℕ → Bool) (es : List (ℕ × Record)) → AllByRecursion (λ e. P e.0) es → AllByRecursion (λ e. P e.0) (remove_entry test es)
  all_remove test [] h = tt
  all_remove test (e ∷ es) h =
      elim (test e.0) as (λ b. AllByRecursion (λ e. P e.0) (cond b es (e ∷ remove_entry test es))) [
        | true ↦ h.1
        | false ↦ (h.0, all_remove test es h.1)
      ]

  pub all_lookup : (local : ℕ) (es : List (ℕ × Record)) → AllByRecursion (λ e. P e.0) es → IsSome (lookup (eq_by_cmp nat_cmp local) es) → P local
  all_lookup local [] h found = cc
  all_lookup local (e ∷ es) h found =
      elim (eq_by_cmp nat_cmp local e.0) as (λ b. eq_by_cmp nat_cmp local e.0 ≡ b → IsSome (cond b (Some e.1) (lookup (eq_by_cmp nat_cmp local) es)) → P local) [
        | true ↦ λ same _. rw (same_local local e.0 same) h.0
        | false ↦ λ _ rest. all_lookup local es h.1 rest
      ] refl found

  pub all_filter : (end : ℕ) (es : List (ℕ × Record)) → AllByRecursion (λ e. P e.0) es
      → AllByRecursion (λ e. P e.0 × e.0 < end) (filter (λ e. nat_lt e.0 end) es)
  all_filter end [] h = tt
  all_filter end (e ∷ es) h =
      elim (nat_lt e.0 end) as (λ b. nat_lt e.0 end ≡ b → AllByRecursion (λ e. P e.0 × e.0 < end) (cond b (e ∷ filter (λ e. nat_lt e.0 end) es) (filter (λ e. nat_lt e.0 end) es))) [
        | true ↦ λ below. ((h.0, lower e.0 end below), all_filter end es h.1)
        | false ↦ λ _. all_filter end es h.1
      ] refl

pub all_both : (P Q R : ℕ × Record → Type 0) → ((e : ℕ × Record) → P e → Q e → R e) → (es : List (ℕ × Record)) → AllByRecursion P es → AllByRecursion Q es
    → AllByRecursion R es
all_both P Q R both [] h k = tt
all_both P Q R both (e ∷ es) h k = (both e h.0 k.0, all_both P Q R both es h.1 k.1)

all_one : (P R : ℕ × Record → Type 0) → ((e : ℕ × Record) → P e → R e) → (es : List (ℕ × Record)) → AllByRecursion P es → AllByRecursion R es
all_one P R one [] h = tt
all_one P R one (e ∷ es) h = (one e h.0, all_one P R one es h.1)

-- what is held is in reach of the lane that follows
pub reach_raised : (floor : ℕ) (end : Option ℕ) (old new : List (ℕ × Record)) → HoldsInReach (record { floor = floor; end = end; held = old })
    → new ≡ remove_entry (eq_by_cmp nat_cmp floor) old → lookup (eq_by_cmp nat_cmp floor) new ≡ None
    → HoldsInReach (record { floor = floor + 1; end = end; held = new })
reach_raised floor end old new h is gone =
    let lane : LaneState = record { floor = floor; end = end; held = old } in
    let next : LaneState = record { floor = floor + 1; end = end; held = new } in
    let stay : AllByRecursion (λ e. IsInReach lane e.0) new = rw is (all_remove (IsInReach lane) (eq_by_cmp nat_cmp floor) old h) in
    let others : AllByRecursion (λ e. eq_by_cmp nat_cmp floor e.0 ≡ false) new = none_passes_from_lookup (eq_by_cmp nat_cmp floor) new gone in
    all_both (λ e. IsInReach lane e.0) (λ e. eq_by_cmp nat_cmp floor e.0 ≡ false) (λ e. IsInReach next e.0) (λ e r other. (apart floor e.0 r.0 other, omega (arith, r.1), r.2)) new stay others

pub reach_closed : (floor : ℕ) (end : Option ℕ) (new_end : ℕ) (old new : List (ℕ × Record)) → HoldsInReach (record { floor = floor; end = end; held = old })
    → new ≡ filter (λ e. nat_lt e.0 new_end) old → HoldsInReach (record { floor = floor; end = Some new_end; held = new })
reach_closed floor end new_end old new h is =
    let lane : LaneState = record { floor = floor; end = end; held = old } in
    let next : LaneState = record { floor = floor; end = Some new_end; held = new } in
    rw is (all_one (λ e. IsInReach lane e.0 × e.0 < new_end) (λ e. IsInReach next e.0) (λ e r. (r.0.0, r.0.1, r.1)) (filter (λ e. nat_lt e.0 new_end) old) (all_filter (IsInReach lane) new_end old h))

-- what is held is in order, so there are no more records than locals in reach
all_past : (k : ℕ) (es : List (ℕ × Record)) → AllByRecursion (λ y. nat_cmp k y ≡ Less) (keys_of es) → AllByRecursion (λ e. k + 1 ≤ e.0) es
all_past k [] h = tt
all_past k (e ∷ es) h = (past k e.0 h.0, all_past k es h.1)

few_between : (low high : ℕ) (es : List (ℕ × Record)) → AllByRecursion (λ e. low ≤ e.0) es → AllByRecursion (λ e. e.0 < high) es
    → IsStrictlySortedBy nat_cmp (keys_of es) → length es ≤ high - low
few_between low high [] least most order = omega arith
few_between low high (e ∷ es) least most order =
    let rest : length es ≤ high - (e.0 + 1) = few_between (e.0 + 1) high es (all_past e.0 es (sorted_head nat_cmp e.0 (keys_of es) order)) most.1 (sorted_tail nat_cmp e.0 (keys_of es) order) in
    omega (arith, least.0, most.0)

few_held : (lane : LaneState) → HoldsInReach lane → IsStrictlySortedBy nat_cmp (keys_of lane.held) → length lane.held ≤ 640
few_held lane h order =
    let least : AllByRecursion (λ e. lane.floor ≤ e.0) lane.held = all_one (λ e. IsInReach lane e.0) (λ e. lane.floor ≤ e.0) (λ e r. r.0) lane.held h in
    let most : AllByRecursion (λ e. e.0 < lane.floor + 640) lane.held = all_one (λ e. IsInReach lane e.0) (λ e. e.0 < lane.floor + 640) (λ e r. r.1) lane.held h in
    let few : length lane.held ≤ lane.floor + 640 - lane.floor = few_between lane.floor (lane.floor + 640) lane.held least most order in
    omega arith

-- what a view of the lane says
pub few_along : (lane now : LaneState) → lane ≡ now → HoldsInReach lane → IsStrictlySortedBy nat_cmp (keys_of lane.held) → length now.held ≤ 640
few_along lane now is h order = let P : LaneState → Type 0 = λ l. length l.held ≤ 640 in subst P is (few_held lane h order)

pub reach_along : (lane now : LaneState) → lane ≡ now → HoldsInReach lane → (local : ℕ) → IsSome (held_at now local) → IsInReach now local
reach_along lane now is h local =
    let P : LaneState → Type 0 = λ l. IsSome (held_at l local) → IsInReach l local in
    subst P is (all_lookup (IsInReach lane) local lane.held h)

pub in_reach_along : (lane now : LaneState) → lane ≡ now → (local : ℕ) → IsInReach now local → IsInReach lane local
in_reach_along lane now is local h = let P : LaneState → Type 0 = λ l. IsInReach l local in subst P (sym is) h
