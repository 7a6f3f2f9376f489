-- The store's list of entries is the map of the definition: looking up, adding, replacing and removing a key.
use Rattle.std.proofs.Common.{◌≡◌, ℕ, ◌-◌, ◌≤◌, Bool, true, false, cond, not, ◌&&◌, nat_le, is_some, List, [], ◌∷◌, ◌++◌, length, filter, Option, Some, None, refl, sym, ap, ◌∙◌, inl, inr, ◌⊎◌, arith}
use Rattle.std.specs.Ordering.{nat_cmp, eq_by_cmp}
use Rattle.std.specs.Cmp.{IsTotalOrder}
use Rattle.std.specs.Cmp.Lexicographic.{slice_cmp}
use Rattle.std.specs.Str.{bytes_eq}
use Rattle.std.specs.FinMap as finite
use Rattle.std.specs.FinMap.Entries.{find-append}
use Rattle.std.proofs.lemmas.Cmp.{nat_list_cmp_total, nat_list_eq_equiv}
use Rattle.std.proofs.lemmas.Bool.{false≢true}
use Rattle.std.proofs.lemmas.Bool.Decides.{nat_tests}
use Rattle.std.proofs.lemmas.Map.Text.{is_eq-slice_cmp}
use Rattle.std.proofs.lemmas.Slice.Eq.{bytes_eq-Decides}
use Rattle.app_law.specs.declared.kv.KvEntry.{KvEntry}
use Rattle.app_law.specs.declared.kv.KvUndo.TheVariants.{Was}
use Rattle.app_law.specs.inside.KvEntries.{pairs_of, value_under}
use Rattle.app_law.specs.KvStates.{KvState, IsKeyed}
use Rattle.app_law.specs.Kvs.{is_full_for, with_value, kv_restored}

abbrev order : List ℕ → List ℕ → Rattle.std.specs.declared.cmp.Ordering.Ordering
order = slice_cmp nat_cmp

abbrev same : List ℕ → List ℕ → Bool
same = eq_by_cmp (slice_cmp nat_cmp)

abbrev keyed_find : List ℕ → List (List ℕ × List ℕ) → Option (List ℕ)
keyed_find = finite.find (slice_cmp nat_cmp)

same_tells : (q k : List ℕ) → same q k ≡ true → q ≡ k
same_tells q k h = (bytes_eq-Decides q k).0 (sym (is_eq-slice_cmp q k) ∙ h)

same_itself : (k : List ℕ) → same k k ≡ true
same_itself k = is_eq-slice_cmp k k ∙ (bytes_eq-Decides k k).1 refl

same_turned : (q k : List ℕ) → same q k ≡ false → same k q ≡ false
same_turned q k h =
    elim (same k q) as (λ b. same k q ≡ b → b ≡ false) [
      | true ↦ λ e. absurd (false≢true (sym h ∙ (ap (λ x. same x k) (sym (same_tells k q e)) ∙ same_itself k)))
      | false ↦ λ e. refl
    ] refl

-- a test that is repeated
shadowed : {X : Type 0} (b : Bool) (x y z : X) → cond b x z ≡ cond b x (cond b y z)
shadowed true x y z = refl
shadowed false x y z = refl

nothing : (b : Bool) (o : Option (List ℕ)) → o ≡ None → cond b None o ≡ None
nothing true o e = refl
nothing false o e = e

over : {X : Type 0} (b : Bool) (x y z : X) → cond b x (cond b y z) ≡ cond b x z
over true x y z = refl
over false x y z = refl

-- two tests of which one fails
apart : {X : Type 0} (a b : Bool) (x y z : X) → (a ≡ true → b ≡ false) → cond a x (cond b y z) ≡ cond b y (cond a x z)
apart true b x y z h = rw (h refl) refl
apart false b x y z h = refl

-- the entries without a key's
abbrev without : List ℕ → List KvEntry → List KvEntry
without k es = filter (λ e. not (bytes_eq e.key k)) es

find_without : (k q : List ℕ) (es : List KvEntry) → keyed_find q (pairs_of (without k es)) ≡ cond (same q k) None (keyed_find q (pairs_of es))
find_without k q [] = elim (same q k) as (λ b. ◌≡◌ {A = Option (List ℕ)} None (cond b None None)) [ true ↦ refl | false ↦ refl ]
find_without k q (e ∷ es) =
    let rest : keyed_find q (pairs_of (without k es)) ≡ cond (same q k) None (keyed_find q (pairs_of es)) = find_without k q es in
    elim (bytes_eq e.key k) as (λ b. bytes_eq e.key k ≡ b → keyed_find q (pairs_of (cond (not b) (e ∷ without k es) (without k es))) ≡ cond (same q k) None (cond (same q e.key) (Some e.value) (keyed_find q (pairs_of es)))) [
      | true ↦ λ h.
          let at : e.key ≡ k = (bytes_eq-Decides e.key k).0 h in
          rest ∙ shadowed (same q k) None (Some e.value) (keyed_find q (pairs_of es)) ∙ ap (λ x. cond (same q k) None (cond (same q x) (Some e.value) (keyed_find q (pairs_of es)))) (sym at)
      | false ↦ λ h.
          let other : same q e.key ≡ true → same q k ≡ false = λ s. ap (λ x. same x k) (same_tells q e.key s) ∙ (is_eq-slice_cmp e.key k ∙ h) in
          ap (cond (same q e.key) (Some e.value)) rest ∙ apart (same q e.key) (same q k) (Some e.value) None (keyed_find q (pairs_of es)) other
    ] refl

pub IsKeyed_without : (k : List ℕ) (es : List KvEntry) → IsKeyed (pairs_of es) → IsKeyed (pairs_of (without k es))
IsKeyed_without k [] h = tt
IsKeyed_without k (e ∷ es) h =
    elim (bytes_eq e.key k) as (λ b. IsKeyed (pairs_of (cond (not b) (e ∷ without k es) (without k es)))) [
      | true ↦ IsKeyed_without k es h.1
      | false ↦ (find_without k e.key es ∙ nothing (same e.key k) (keyed_find e.key (pairs_of es)) h.0, IsKeyed_without k es h.1)
    ]

find_rest : (k : List ℕ) (e : List ℕ × List ℕ) (es : List (List ℕ × List ℕ)) → keyed_find k (e ∷ es) ≡ None → (same k e.0 ≡ false) × (keyed_find k es ≡ None)
find_rest k e es h =
    elim (same k e.0) as (λ b. cond b (Some e.1) (keyed_find k es) ≡ None → (b ≡ false) × (keyed_find k es ≡ None)) [
      | true ↦ λ h. absurd (cc)
      | false ↦ λ h. (refl, h)
    ] h

keyed_push : (es : List (List ℕ × List ℕ)) (k v : List ℕ) → IsKeyed es → keyed_find k es ≡ None → IsKeyed (es ++ (k, v) ∷ [])
keyed_push [] k v h none = (refl, tt)
keyed_push (e ∷ es) k v h none =
    let rest = find_rest k e es none in
    (find-append order nat_list_cmp_total es k v e.0 rest.1 ∙ (rw (same_turned k e.0 rest.0) h.0), keyed_push es k v h.1 rest.1)

pairs_push : (es : List KvEntry) (x : KvEntry) → pairs_of (es ++ x ∷ []) ≡ pairs_of es ++ (x.key, x.value) ∷ []
pairs_push [] x = refl
pairs_push (e ∷ es) x = ap (λ ps. (e.key, e.value) ∷ ps) (pairs_push es x)

pub IsKeyed_push : (es : List KvEntry) (x : KvEntry) → IsKeyed (pairs_of es) → keyed_find x.key (pairs_of es) ≡ None → IsKeyed (pairs_of (es ++ x ∷ []))
IsKeyed_push es x h none = rw (pairs_push es x) (keyed_push (pairs_of es) x.key x.value h none)

same_store : (m n : KvState) → ((q : List ℕ) → finite.get m q ≡ finite.get n q) → m ≡ n
same_store m n is = finite.same_map nat_list_cmp_total (finite.slice_cmp-IsAntisymmetric finite.nat_cmp-IsAntisymmetric) m n is

-- what the map of some pairs has under a key
pub get_pairs : (ps : List (List ℕ × List ℕ)) (q : List ℕ) → finite.get (finite.from_entries {R = slice_cmp nat_cmp} ps) q ≡ keyed_find q ps
get_pairs ps q = finite.get-from_entries nat_list_cmp_total ps q

-- the map once the entries of a key are dropped
pub map_without : (k : List ℕ) (es : List KvEntry)
    → finite.from_entries {R = slice_cmp nat_cmp} (pairs_of (without k es)) ≡ finite.remove (finite.from_entries (pairs_of es)) k
map_without k es =
    same_store _ _ (λ q. get_pairs (pairs_of (without k es)) q ∙ (find_without k q es ∙ sym (finite.get-remove nat_list_cmp_total (finite.from_entries (pairs_of es)) k q ∙ ap (cond (same q k) None) (get_pairs (pairs_of es) q))))

-- the map once an entry with a new key is there
pub map_push : (es : List KvEntry) (x : KvEntry) → keyed_find x.key (pairs_of es) ≡ None
    → finite.from_entries {R = slice_cmp nat_cmp} (pairs_of (es ++ x ∷ [])) ≡ finite.insert (finite.from_entries (pairs_of es)) x.key x.value
map_push es x none = rw (pairs_push es x) (finite.from_entries_push nat_list_cmp_total (finite.slice_cmp-IsAntisymmetric finite.nat_cmp-IsAntisymmetric) (pairs_of es) x.key x.value none)

-- as many keys as entries
pub len_pairs : (ps : List (List ℕ × List ℕ)) → IsKeyed ps → finite.len (finite.from_entries {R = slice_cmp nat_cmp} ps) ≡ length ps
len_pairs [] h = finite.len-empty (slice_cmp nat_cmp) (List ℕ)
len_pairs (e ∷ ps) h =
    let rest : finite.len (finite.from_entries {R = slice_cmp nat_cmp} ps) ≡ length ps = len_pairs ps h.1 in
    let new : finite.get (finite.from_entries {R = slice_cmp nat_cmp} ps) e.0 ≡ None = get_pairs ps e.0 ∙ h.0 in
    finite.len-insert nat_list_cmp_total (finite.from_entries ps) e.0 e.1 ∙ rw new (omega (arith, rest))

pub get_removed : (m : KvState) (k : List ℕ) → finite.get (finite.remove m k) k ≡ None
get_removed m k = finite.get-remove nat_list_cmp_total m k k ∙ rw (same_itself k) refl

-- a key that is dropped and set
pub insert_remove : (m : KvState) (k v : List ℕ) → finite.insert (finite.remove m k) k v ≡ finite.insert m k v
insert_remove m k v =
    same_store _ _ (λ q. finite.get-insert nat_list_cmp_total (finite.remove m k) k v q ∙ (ap (cond (same q k) (Some v)) (finite.get-remove nat_list_cmp_total m k q) ∙ (over (same q k) (Some v) None (finite.get m q) ∙ sym (finite.get-insert nat_list_cmp_total m k v q))))

-- one key fewer, where the key was there
pub len_removed : (m : KvState) (k : List ℕ) → finite.len (finite.remove m k) ≡ cond (is_some (finite.get m k)) (finite.len m - 1) (finite.len m)
len_removed m k = finite.len-remove nat_list_cmp_total m k

-- a key that has again what it had
given_back : (m n : KvState) (k v : List ℕ) → finite.get m k ≡ Some v → ((q : List ℕ) → same q k ≡ false → finite.get n q ≡ finite.get m q)
    → finite.insert n k v ≡ m
given_back m n k v had others =
    same_store _ _ (λ q. finite.get-insert nat_list_cmp_total n k v q ∙ elim (same q k) as (λ b. same q k ≡ b → cond b (Some v) (finite.get n q) ≡ finite.get m q) [
      | true ↦ λ e. sym had ∙ ap (finite.get m) (sym (same_tells q k e))
      | false ↦ λ e. others q e
    ] refl)

taken_away : (m n : KvState) (k : List ℕ) → finite.get m k ≡ None → ((q : List ℕ) → same q k ≡ false → finite.get n q ≡ finite.get m q) → finite.remove n k ≡ m
taken_away m n k had others =
    same_store _ _ (λ q. finite.get-remove nat_list_cmp_total n k q ∙ elim (same q k) as (λ b. same q k ≡ b → cond b None (finite.get n q) ≡ finite.get m q) [
      | true ↦ λ e. sym had ∙ ap (finite.get m) (sym (same_tells q k e))
      | false ↦ λ e. others q e
    ] refl)

others_insert : (m : KvState) (k v q : List ℕ) → same q k ≡ false → finite.get (finite.insert m k v) q ≡ finite.get m q
others_insert m k v q e = finite.get-insert nat_list_cmp_total m k v q ∙ rw e refl

others_remove : (m : KvState) (k q : List ℕ) → same q k ≡ false → finite.get (finite.remove m k) q ≡ finite.get m q
others_remove m k q e = finite.get-remove nat_list_cmp_total m k q ∙ rw e refl

get_inserted : (m : KvState) (k v : List ℕ) → finite.get (finite.insert m k v) k ≡ Some v
get_inserted m k v = finite.get-insert nat_list_cmp_total m k v k ∙ rw (same_itself k) refl

-- with a value under a key, whatever the key has then
others_with_value : (m : KvState) (k v q : List ℕ) → same q k ≡ false → finite.get (with_value m k v) q ≡ finite.get m q
others_with_value m k v q e =
    elim (is_full_for m k) as (λ b. finite.get (cond b m (finite.insert m k v)) q ≡ finite.get m q) [ true ↦ refl | false ↦ others_insert m k v q e ]

not_full : (m : KvState) (k : List ℕ) → (is_some (finite.get m k) ≡ true) ⊎ (finite.len m ≤ 31) → is_full_for m k ≡ false
not_full m k h = elim h [
  | inl there ↦ rw there refl
  | inr few ↦ grind (arith, nat_tests)
]

with_value_room : (m : KvState) (k v : List ℕ) → is_full_for m k ≡ false → with_value m k v ≡ finite.insert m k v
with_value_room m k v h = rw h refl

-- a key that was set has again what it had
pub restored_set : (m : KvState) (k v : List ℕ) → kv_restored (Was k (finite.get m k)) (with_value m k v) ≡ m
restored_set m k v =
    elim (finite.get m k) as (λ o. finite.get m k ≡ o → kv_restored (Was k o) (with_value m k v) ≡ m) [
      | None ↦ λ had. taken_away m (with_value m k v) k had (others_with_value m k v)
      | Some w ↦ λ had.
          let set : with_value m k v ≡ finite.insert m k v = with_value_room m k v (not_full m k (inl (rw had refl))) in
          let room : is_full_for (finite.insert m k v) k ≡ false = not_full (finite.insert m k v) k (inl (rw (get_inserted m k v) refl)) in
          rw set (with_value_room (finite.insert m k v) k w room ∙ given_back m (finite.insert m k v) k w had (others_insert m k v))
    ] refl

-- and so has one that was dropped
pub restored_remove : (m : KvState) (k : List ℕ) → finite.len m ≤ 32 → kv_restored (Was k (finite.get m k)) (finite.remove m k) ≡ m
restored_remove m k few =
    elim (finite.get m k) as (λ o. finite.get m k ≡ o → kv_restored (Was k o) (finite.remove m k) ≡ m) [
      | None ↦ λ had. taken_away m (finite.remove m k) k had (others_remove m k)
      | Some w ↦ λ had.
          let fewer : finite.len (finite.remove m k) ≡ finite.len m - 1 = len_removed m k ∙ rw had refl in
          let room : is_full_for (finite.remove m k) k ≡ false = not_full (finite.remove m k) k (inr (omega arith)) in
          with_value_room (finite.remove m k) k w room ∙ given_back m (finite.remove m k) k w had (others_remove m k)
    ] refl

-- a look from the front finds what the pairs have
pub value_under_find : (k : List ℕ) (es : List KvEntry) → value_under k es ≡ keyed_find k (pairs_of es)
value_under_find k [] = refl
value_under_find k (e ∷ es) =
    ap (λ b. cond b (Some e.value) (value_under k es)) (nat_list_eq_equiv.symm e.key k ∙ sym (is_eq-slice_cmp k e.key)) ∙ ap (cond (same k e.key) (Some e.value)) (value_under_find k es)

-- there is room for a key once it is dropped, where the store is not full for it
pub room_removed : (m : KvState) (k : List ℕ) → finite.len m ≤ 32 → is_full_for m k ≡ false → finite.len (finite.remove m k) ≤ 31
room_removed m k few h =
    elim (finite.get m k) as (λ o. finite.get m k ≡ o → finite.len (finite.remove m k) ≤ 31) [
      | None ↦ λ had.
          let left : finite.len (finite.remove m k) ≡ finite.len m = len_removed m k ∙ rw had refl in
          let room : nat_le 32 (finite.len m) ≡ false = (sym (ap (λ (o : Option (List ℕ)). not (is_some o) && nat_le 32 (finite.len m)) had)) ∙ h in
          grind (arith, nat_tests)
      | Some w ↦ λ had.
          let fewer : finite.len (finite.remove m k) ≡ finite.len m - 1 = len_removed m k ∙ rw had refl in
          omega arith
    ] refl

-- a key that is dropped and added has been set
pub with_value_added : (m : KvState) (k v : List ℕ) → is_full_for m k ≡ false → finite.insert (finite.remove m k) k v ≡ with_value m k v
with_value_added m k v h = insert_remove m k v ∙ sym (with_value_room m k v h)

pub ruleset setting = (get_removed, room_removed, with_value_added)

pub ruleset undoing = (restored_set, restored_remove)
