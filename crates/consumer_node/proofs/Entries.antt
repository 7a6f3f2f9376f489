-- The records that are held of a shard, as entries in the order of their locals.
use Rattle.std.proofs.Common.{◌≡◌, ℕ, ◌<◌, ◌==◌, Bool, true, false, nat_lt, cond, List, [], ◌∷◌, filter, Option, Some, None, refl, sym, ap, ◌∙◌, subst, arith}
use Rattle.std.specs.List.{AllByRecursion}
use Rattle.std.specs.List.Sorted.{IsStrictlySortedBy}
use Rattle.std.specs.Option.{IfSome}
use Rattle.std.specs.Map.{keys_of, lookup, remove_entry}
use Rattle.std.specs.BTreeMap.{insert_entry}
use Rattle.std.specs.Ordering.{nat_cmp, eq_by_cmp, match_ordering}
use Rattle.std.specs.declared.cmp.Ordering.TheVariants.{Less, Equal, Greater}
use Rattle.std.proofs.lemmas.Bool.{cond-true, cond-false, lt-ltb, false_from_ne_true}
use Rattle.std.proofs.lemmas.Cmp.{eq_by_cmp_equiv, nat_cmp_total, ranked}
use Rattle.std.proofs.lemmas.List.Elements.{All-filter, All-from_recursion, recursion_from_All}
use Rattle.std.proofs.lemmas.Map.Entries.{All-lookup, lookup-filter-keys}
use Rattle.std.proofs.lemmas.Map.{lookup-remove_entry}
use Rattle.std.proofs.lemmas.Map.Lookups.{exact_unsigned}
use Rattle.std.proofs.lemmas.Map.Keys.{sorted_head, sorted_tail, IsDistinct-from_sorted}
use Rattle.record_codec.specs.declared.record.Record.{Record}
use Rattle.node_rules.proofs.Lists.{all_weaken}
use Rattle.spec_delivery.proofs.LaneLemmas.{all_insert, all_remove}

abbrev pub Entries : Type 0
Entries = List (ℕ × Record)

abbrev pub InOrder : Entries → Type 0
InOrder es = IsStrictlySortedBy nat_cmp (keys_of es)

-- the record at a local
abbrev pub at : ℕ → Entries → Option Record
at local es = lookup (eq_by_cmp nat_cmp local) es

-- ---- locals by their order

less_lt : (a b : ℕ) → nat_cmp a b ≡ Less → a < b
less_lt a b h = ranked a b Less (sym h)

greater_lt : (a b : ℕ) → nat_cmp a b ≡ Greater → b < a
greater_lt a b h = ranked a b Greater (sym h)

lt_less : (a b : ℕ) → a < b → nat_cmp a b ≡ Less
lt_less a b h = cond-true (nat_lt a b) Less (cond (a == b) Equal Greater) (lt-ltb a b h)

pub same_local : (a b : ℕ) → eq_by_cmp nat_cmp a b ≡ true → a ≡ b
same_local a b h = elim (nat_cmp a b) as (λ o. nat_cmp a b ≡ o → eq_by_cmp nat_cmp a b ≡ true → a ≡ b) [
  | Less ↦ λ c e. absurd (cc)
  | Equal ↦ λ c _. exact_unsigned a b c
  | Greater ↦ λ c e. absurd (cc)
] refl h

pub local_itself : (a : ℕ) → eq_by_cmp nat_cmp a a ≡ true
local_itself a = (eq_by_cmp_equiv nat_cmp_total).refl a

pub other_local : (a b : ℕ) → (a ≡ b → ⊥) → eq_by_cmp nat_cmp a b ≡ false
other_local a b apart = false_from_ne_true _ (λ e. apart (same_local a b e))

-- ---- entries in order

-- between the keys of entries and the entries
all_keys : (P : ℕ → Type 0) (es : Entries) → AllByRecursion (λ e. P e.0) es → AllByRecursion P (keys_of es)
all_keys P [] h = tt
all_keys P (e ∷ es) h = (h.0, all_keys P es h.1)

all_entries : (P : ℕ → Type 0) (es : Entries) → AllByRecursion P (keys_of es) → AllByRecursion (λ e. P e.0) es
all_entries P [] h = tt
all_entries P (e ∷ es) h = (h.0, all_entries P es h.1)

pub order_none : InOrder []
unfolding IsStrictlySortedBy
order_none = tt

order_first : (k : ℕ) (r : Record) (es : Entries) → AllByRecursion (λ e. k < e.0) es → InOrder es → InOrder ((k, r) ∷ es)
unfolding IsStrictlySortedBy
order_first k r es later h = (all_keys (λ n. nat_cmp k n ≡ Less) es (all_weaken (λ e. k < e.0) (λ e. nat_cmp k e.0 ≡ Less) es (λ e. lt_less k e.0) later), h)

later_keys : (e : ℕ × Record) (es : Entries) → InOrder (e ∷ es) → AllByRecursion (λ x. e.0 < x.0) es
later_keys e es h =
    all_weaken (λ x. nat_cmp e.0 x.0 ≡ Less) (λ x. e.0 < x.0) es (λ x. less_lt e.0 x.0)
    (all_entries (λ n. nat_cmp e.0 n ≡ Less) es (sorted_head nat_cmp e.0 (keys_of es) h))

later_order : (e : ℕ × Record) (es : Entries) → InOrder (e ∷ es) → InOrder es
later_order e es h = sorted_tail nat_cmp e.0 (keys_of es) h

pub order_insert : (es : Entries) (k : ℕ) (r : Record) → InOrder es → InOrder (insert_entry nat_cmp es k r)
order_insert [] k r h = order_first k r [] tt h
order_insert (e ∷ es) k r h =
    let later = later_keys e es h in
    elim (nat_cmp k e.0) as (λ o. nat_cmp k e.0 ≡ o → InOrder (match_ordering o ((k, r) ∷ e ∷ es) ((e.0, r) ∷ es) (e ∷ insert_entry nat_cmp es k r))) [
      | Less ↦ λ c.
          let first : k < e.0 = less_lt k e.0 c in
          order_first k r (e ∷ es) (first, all_weaken (λ x. e.0 < x.0) (λ x. k < x.0) es (λ x past. omega (arith, first, past)) later) h
      | Equal ↦ λ c. order_first e.0 r es later (later_order e es h)
      | Greater ↦ λ c. order_first e.0 e.1 (insert_entry nat_cmp es k r) (all_insert (λ n. e.0 < n) es k r later (greater_lt k e.0 c)) (order_insert es k r (later_order e es h))
    ] refl

pub order_remove : (test : ℕ → Bool) (es : Entries) → InOrder es → InOrder (remove_entry test es)
order_remove test [] h = h
order_remove test (e ∷ es) h =
    elim (test e.0) as (λ b. InOrder (cond b es (e ∷ remove_entry test es))) [
      | true ↦ later_order e es h
      | false ↦ order_first e.0 e.1 (remove_entry test es) (all_remove (λ n. e.0 < n) test es (later_keys e es h)) (order_remove test es (later_order e es h))
    ]

pub all_filter : (P : ℕ × Record → Type 0) (test : ℕ × Record → Bool) (es : Entries) → AllByRecursion P es → AllByRecursion P (filter test es)
all_filter P test es h = recursion_from_All P (filter test es) (All-filter test P es (All-from_recursion P es h))

pub order_filter : (test : ℕ × Record → Bool) (es : Entries) → InOrder es → InOrder (filter test es)
order_filter test [] h = h
order_filter test (e ∷ es) h =
    elim (test e) as (λ b. InOrder (cond b (e ∷ filter test es) (filter test es))) [
      | true ↦ order_first e.0 e.1 (filter test es) (all_filter (λ x. e.0 < x.0) test es (later_keys e es h)) (order_filter test es (later_order e es h))
      | false ↦ order_filter test es (later_order e es h)
    ]

-- ---- what holds of each record

pub records_insert : (P : Record → Type 0) (es : Entries) (k : ℕ) (r : Record) → AllByRecursion (λ e. P e.1) es → P r
    → AllByRecursion (λ e. P e.1) (insert_entry nat_cmp es k r)
records_insert P [] k r h here = (here, tt)
records_insert P (e ∷ es) k r h here =
    elim (nat_cmp k e.0) as (λ o. AllByRecursion (λ x. P x.1) (match_ordering o ((k, r) ∷ e ∷ es) ((e.0, r) ∷ es) (e ∷ insert_entry nat_cmp es k r))) [
      | Less ↦ (here, h)
      | Equal ↦ (here, h.1)
      | Greater ↦ (h.0, records_insert P es k r h.1 here)
    ]

pub records_remove : (P : Record → Type 0) (test : ℕ → Bool) (es : Entries) → AllByRecursion (λ e. P e.1) es
    → AllByRecursion (λ e. P e.1) (remove_entry test es)
records_remove P test [] h = tt
records_remove P test (e ∷ es) h =
    elim (test e.0) as (λ b. AllByRecursion (λ x. P x.1) (cond b es (e ∷ remove_entry test es))) [ true ↦ h.1 | false ↦ (h.0, records_remove P test es h.1) ]

pub record_found : (P : Record → Type 0) (local : ℕ) (es : Entries) (r : Record) → AllByRecursion (λ e. P e.1) es → at local es ≡ Some r → P r
record_found P local es r h e = subst (λ (found : Option Record). IfSome found P) e (All-lookup P (eq_by_cmp nat_cmp local) es (All-from_recursion (λ e. P e.1) es h))

-- ---- what is found

-- an entry more at a local leaves those at the others
found_other : (es : Entries) (k local : ℕ) (r : Record) → eq_by_cmp nat_cmp local k ≡ false → at local (insert_entry nat_cmp es k r) ≡ at local es
found_other [] k local r other = cond-false (eq_by_cmp nat_cmp local k) (Some r) None other
found_other (y ∷ es) k local r other =
    elim (nat_cmp k y.0) as (λ o. nat_cmp k y.0 ≡ o → at local (match_ordering o ((k, r) ∷ y ∷ es) ((y.0, r) ∷ es) (y ∷ insert_entry nat_cmp es k r)) ≡ at local (y ∷ es)) [
      | Less ↦ λ c. cond-false (eq_by_cmp nat_cmp local k) (Some r) (at local (y ∷ es)) other
      | Equal ↦ λ c.
          let apart : eq_by_cmp nat_cmp local y.0 ≡ false = subst (λ n. eq_by_cmp nat_cmp local n ≡ false) (exact_unsigned k y.0 c) other in
          cond-false (eq_by_cmp nat_cmp local y.0) (Some r) (at local es) apart ∙ sym (cond-false (eq_by_cmp nat_cmp local y.0) (Some y.1) (at local es) apart)
      | Greater ↦ λ c. ap (cond (eq_by_cmp nat_cmp local y.0) (Some y.1)) (found_other es k local r other)
    ] refl

-- so where nothing stands at its local, it hides none of them
pub found_insert : (es : Entries) (k local : ℕ) (r x : Record) → at k es ≡ None → at local es ≡ Some x → at local (insert_entry nat_cmp es k r) ≡ Some x
found_insert es k local r x free e =
    found_other es k local r (other_local local k (λ same. let here : at k es ≡ Some x = ap (λ n. at n es) (sym same) ∙ e in absurd (cc))) ∙ e

-- an entry that goes is found no more, and all others are
found_remove : (es : Entries) (k local : ℕ) → InOrder es
    → at local (remove_entry (eq_by_cmp nat_cmp k) es) ≡ cond (eq_by_cmp nat_cmp k local) None (at local es)
found_remove es k local h =
    lookup-remove_entry (eq_by_cmp_equiv nat_cmp_total) (eq_by_cmp nat_cmp k)
    (λ x y is. ap (λ n. eq_by_cmp nat_cmp n y) (same_local k x is))
    local es (IsDistinct-from_sorted nat_cmp (keys_of es) h)

pub removed : (es : Entries) (k : ℕ) → InOrder es → at k (remove_entry (eq_by_cmp nat_cmp k) es) ≡ None
removed es k h = found_remove es k k h ∙ cond-true _ None (at k es) (local_itself k)

pub others_stay : (es : Entries) (k local : ℕ) → InOrder es → (k ≡ local → ⊥) → at local (remove_entry (eq_by_cmp nat_cmp k) es) ≡ at local es
others_stay es k local h apart = found_remove es k local h ∙ cond-false _ None (at local es) (other_local k local apart)

-- what is below an end is found before the end
pub found_below : (end : ℕ) (es : Entries) (local : ℕ) → local < end → at local (filter (λ e. nat_lt e.0 end) es) ≡ at local es
found_below end es local below =
    lookup-filter-keys (eq_by_cmp nat_cmp local) (λ k. nat_lt k end) true (λ k same. lt-ltb k end (subst (λ n. n < end) (same_local local k same) below)) es
