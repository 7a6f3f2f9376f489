-- Folds over one more number, and what a consumer applies and confirms one record after another.
use Rattle.std.proofs.Common.{◌≡◌, ℕ, zero, suc, ◌+◌, ◌-◌, ◌≤◌, ◌==◌, List, [], ◌∷◌, length, length-append, map, take, drop, Option, Some, None, Ok, Err, OnOk, refl, sym, ap, ◌∙◌, arith}
use Rattle.std.specs.Prelude.{min, Result}
use Rattle.std.specs.List.{slice_get, fold, range_with_len}
use Rattle.std.specs.Option.{option_map_or, option_and_then, some_prefix}
use Rattle.std.proofs.Math.Seq.{drop-cons}
use Rattle.std.proofs.lemmas.Grind.{fold-append}
use Rattle.std.proofs.lemmas.Option.{slice_get_within, get_or_from_slice_get}
use Rattle.consumer_node.specs.inside.Names.{Owner, map_of, Node, agreed_by, Turn, own_of, agreed, put_own, Meaning, held_for}
use Rattle.fix_ante.proofs.LocalLemmas.{range_with_len_append}
use Rattle.node_rules.specs.Names.{Record}
use Rattle.node_rules.proofs.Lists.{on_test}
use Rattle.consumer_node.specs.States.{ConsumerState, applied}
use Rattle.consumer_node.specs.Speculation.{held_of, to_apply, apply, apply_all, with_confirmed, confirm_at, confirm, confirm_some}
use Rattle.consumer_node.specs.inside.Confirming.{confirm_first, confirm_oldest, confirm_count}
use Rattle.consumer_node.proofs.Applied.{some_at}

-- ---- one number more

pub fold_more : {B : Type 0} (f : B → ℕ → B) (b : B) (first n : ℕ) → f (fold f b (range_with_len first n)) (first + n) ≡ fold f b (range_with_len first (n + 1))
fold_more f b first n = sym (fold-append f b (range_with_len first n) ((first + n) ∷ [])) ∙ ap (fold f b) (range_with_len_append first n 1)

pub fold_next : {B : Type 0} (f : B → ℕ → B) (b : B) (n : ℕ) → f (fold f b (range_with_len 0 n)) n ≡ fold f b (range_with_len 0 (n + 1))
fold_next f b n =
    let at : n ≡ 0 + n = omega arith in
    ap (f (fold f b (range_with_len 0 n))) at ∙ fold_more f b 0 n

-- what holds anyhow holds where a result is good
pub on_ok : {T E : Type 0} (r : Result T E) (P : Type 0) → P → OnOk r P
on_ok (Ok x) P p = p
on_ok (Err e) P p = tt

-- ---- applying

drop_none : {X : Type 0} (n : ℕ) (xs : List X) → slice_get xs n ≡ None → drop n xs ≡ []
drop_none zero [] e = refl
drop_none zero (x ∷ xs) e = absurd (cc)
drop_none (suc n) [] e = refl
drop_none (suc n) (x ∷ xs) e = drop_none n xs e

drop_some : {X : Type 0} (n : ℕ) (xs : List X) (x : X) → slice_get xs n ≡ Some x → drop n xs ≡ x ∷ drop (suc n) xs
drop_some n xs x e = drop-cons xs n x (slice_get_within xs n x e) ∙ ap (λ y. y ∷ drop (suc n) xs) (get_or_from_slice_get xs n x x e)

next_some : (f : Owner → Option Record) (os : List Owner) (n : ℕ) (rec : Record) → option_and_then f (slice_get os n) ≡ Some rec
    → some_prefix (map f (drop n os)) ≡ rec ∷ some_prefix (map f (drop (suc n) os))
next_some f os n rec e =
    elim (slice_get os n) as (λ (found : Option Owner). slice_get os n ≡ found → option_and_then f found ≡ Some rec → some_prefix (map f (drop n os)) ≡ rec ∷ some_prefix (map f (drop (suc n) os))) [
      | None ↦ λ here none. absurd (cc)
      | Some o ↦ λ here held.
          ap (λ rest. some_prefix (map f rest)) (drop_some n os o here) ∙ ap (λ (first : Option Record). some_prefix (first ∷ map f (drop (suc n) os))) held
    ] refl e

next_none : (f : Owner → Option Record) (os : List Owner) (n : ℕ) → option_and_then f (slice_get os n) ≡ None → some_prefix (map f (drop n os)) ≡ []
next_none f os n e =
    elim (slice_get os n) as (λ (found : Option Owner). slice_get os n ≡ found → option_and_then f found ≡ None → some_prefix (map f (drop n os)) ≡ []) [
      | None ↦ λ here none. ap (λ rest. some_prefix (map f rest)) (drop_none n os here)
      | Some o ↦ λ here held.
          ap (λ rest. some_prefix (map f rest)) (drop_some n os o here) ∙ ap (λ (first : Option Record). some_prefix (first ∷ map f (drop (suc n) os))) held
    ] refl e

-- the record of the next position is applied first
pub to_apply_next : {A : Type 0} (t : Turn (ConsumerState A)) (rec : Record) → held_for (agreed t) (own_of t) (applied t) ≡ Some rec
    → to_apply t ≡ rec ∷ to_apply (apply t rec)
to_apply_next t rec held =
    let f : Owner → Option Record = held_of (own_of t).lanes in
    let os : List Owner = map_of (agreed t) in
    let place : applied (apply t rec) ≡ suc (applied t) = omega (arith, length-append (own_of t).pending (rec ∷ [])) in
    next_some f os (applied t) rec held ∙ ap (λ (n : ℕ). rec ∷ some_prefix (map f (drop n os))) (sym place)

pub apply_next : {A : Type 0} (t : Turn (ConsumerState A)) (rec : Record) → held_for (agreed t) (own_of t) (applied t) ≡ Some rec
    → apply_all (apply t rec) ≡ apply_all t
apply_next t rec held = ap (fold apply t) (sym (to_apply_next t rec held))

pub apply_none : {A : Type 0} (t : Turn (ConsumerState A)) → held_for (agreed t) (own_of t) (applied t) ≡ None → t ≡ apply_all t
apply_none t held = ap (fold apply t) (sym (next_none (held_of (own_of t).lanes) (map_of (agreed t)) (applied t) held))

-- nothing is stored meanwhile
applies_stable : {A : Type 0} (recs : List Record) (t : Turn (ConsumerState A)) → (fold apply t recs).stable ≡ t.stable
applies_stable [] t = refl
applies_stable (rec ∷ recs) t = applies_stable recs (apply t rec)

pub apply_stable : {A : Type 0} (t : Turn (ConsumerState A)) → (apply_all t).stable ≡ t.stable
apply_stable t = applies_stable (to_apply t) t

-- ---- confirming

module _ {A : Type 0} (app : Meaning A) where
  count_first : (n : ℕ) (t : Turn (ConsumerState A)) → confirm_count app n (confirm_oldest app t) ≡ confirm_oldest app (confirm_count app n t)
  count_first zero t = refl
  count_first (suc n) t = ap (confirm_oldest app) (count_first n t)

  count_none : (n : ℕ) (t : Turn (ConsumerState A)) → (own_of t).pending ≡ [] → confirm_count app n t ≡ t
  count_none zero t none = refl
  count_none (suc n) t none =
      ap (confirm_oldest app) (count_none n t none) ∙ ap (λ (recs : List Record). confirm_first app recs t) none

  -- what follows of one confirmed record
  confirmed_state : (rec : Record) (o : Owner) (t : Turn (ConsumerState A))
      → (confirm_at app rec o t).state ≡ record { base = t.state.base; own = with_confirmed app rec o (own_of t) }
  confirmed_state rec o t =
      on_test (λ (u : Turn (ConsumerState A)). (put_own (with_confirmed app rec o (own_of t)) u).state ≡ record { base = t.state.base; own = with_confirmed app rec o (own_of t) })
      (length (app.output (own_of t).base rec) == 0) _ _ (λ _. refl) (λ _. refl)

  counted : (n : ℕ) (t : Turn (ConsumerState A)) (pending : List Record) → (own_of t).pending ≡ pending → n ≤ length (agreed t).covered - (own_of t).confirmed
      → fold (confirm app) t (take n pending) ≡ confirm_count app n t
  counted zero t [] is few = refl
  counted zero t (rec ∷ rest) is few = refl
  counted (suc n) t [] is few = sym (count_none (suc n) t is)
  counted (suc n) t (rec ∷ rest) is few =
      let at = some_at (agreed t).covered (own_of t).confirmed (omega (arith, few)) in
      let o : Owner = at.0 in
      let after : Turn (ConsumerState A) = confirm_at app rec o t in
      let one : confirm app t rec ≡ after = ap (λ (owner : Option Owner). option_map_or (λ u. confirm_at app rec u t) owner t) at.1 in
      let first : confirm_oldest app t ≡ after = ap (λ (recs : List Record). confirm_first app recs t) is ∙ one in
      let state = confirmed_state rec o t in
      let left : (own_of after).pending ≡ rest = ap (λ (m : Node (ConsumerState A)). m.own.pending) state ∙ ap (drop 1) is in
      let more : (own_of after).confirmed ≡ (own_of t).confirmed + 1 = ap (λ (m : Node (ConsumerState A)). m.own.confirmed) state in
      let same : length (agreed after).covered ≡ length (agreed t).covered = ap (λ (m : Node (ConsumerState A)). length (agreed_by m.base).covered) state in
      let fewer : n ≤ length (agreed after).covered - (own_of after).confirmed = omega (arith, few) in
      ap (λ (u : Turn (ConsumerState A)). fold (confirm app) u (take n rest)) one
      ∙ (counted n after rest left fewer ∙ (ap (confirm_count app n) (sym first) ∙ count_first n t))

  pub confirm_counted : (t : Turn (ConsumerState A)) → confirm_count app (min 3 (length (agreed t).covered - (own_of t).confirmed)) t ≡ confirm_some app t
  confirm_counted t = sym (counted (min 3 (length (agreed t).covered - (own_of t).confirmed)) t (own_of t).pending refl (omega arith))
