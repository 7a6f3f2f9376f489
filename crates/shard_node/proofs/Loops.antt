-- Loops that go over locals, one after another, and a primary's promises among them.
use Rattle.std.proofs.Common.{◌≡◌, ℕ, ◌+◌, ◌-◌, ◌≤◌, [], ◌∷◌, ap, sym, ◌∙◌, arith, suc, ◌<◌, Bool, List, Option, Some, refl}
use Rattle.std.specs.List.{fold, range_with_len, take_while}
use Rattle.std.proofs.lemmas.List.Sums.{fold-append, take_while-cons}
use Rattle.fix_ante.proofs.LocalLemmas.{range_with_len_append}
use Rattle.std.specs.Prelude.{is_some, slice_get}
use Rattle.std.proofs.lemmas.Bool.{cond-true}
use Rattle.cut_core.specs.Map.{leased}
use Rattle.msg_wire.specs.Nodes.{number_of}
use Rattle.node_rules.specs.Names.{Record}
use Rattle.node_rules.specs.Nodes.{Base, agreed_by}
use Rattle.node_rules.specs.Turns.{Turn, own_of, put_own}
use Rattle.shard_node.specs.States.{ReplicaState, log_of, with_promised}
use Rattle.shard_node.specs.Promises.{lease_at, promise_record, promise, promise_some}

-- from a local on, up to one more
pub fold_next : {B : Type 0} → (f : B → ℕ → B) (t : B) (from local : ℕ) → from ≤ local
    → fold f t (range_with_len from (local + 1 - from)) ≡ f (fold f t (range_with_len from (local - from))) local
fold_next f t from local above =
    let more : local + 1 - from ≡ local - from + 1 = omega arith in
    let here : from + (local - from) ≡ local = omega arith in
    ap (λ (n : ℕ). fold f t (range_with_len from n)) more
    ∙ ap (fold f t) (sym (range_with_len_append from (local - from) 1))
    ∙ fold-append f t (range_with_len from (local - from)) ((from + (local - from)) ∷ [])
    ∙ ap (f (fold f t (range_with_len from (local - from)))) here

-- none yet
pub fold_none : {B : Type 0} → (f : B → ℕ → B) (t : B) (from : ℕ) → fold f t (range_with_len from (from - from)) ≡ t
fold_none f t from =
    let none : from - from ≡ 0 = omega arith in
    ap (λ (n : ℕ). fold f t (range_with_len from n)) none

-- ---- promises

pub promise_base : (position : Option ℕ) (rec : Option Record) (local : ℕ) (t : Turn ReplicaState)
    → (promise_record position rec local t).state.base ≡ t.state.base
promise_base (Some position) (Some rec) local t = refl
promise_base _ _ local t = refl

-- the durable locals from one on, up to the first without a position
leased_from : Base → ℕ → ℕ → List ℕ
leased_from base from count = take_while (λ local. is_some (leased (agreed_by base) (number_of base.me) local)) (range_with_len from count)

leased_more : (base : Base) (from durable position : ℕ) → from < durable → leased (agreed_by base) (number_of base.me) from ≡ Some position
    → leased_from base from (durable - from) ≡ from ∷ leased_from base (from + 1) (durable - (from + 1))
unfolding leased_from
leased_more base from durable position below here =
    let test : ℕ → Bool = λ local. is_some (leased (agreed_by base) (number_of base.me) local) in
    let more : durable - from ≡ suc (durable - (from + 1)) = omega arith in
    ap (λ (n : ℕ). take_while test (range_with_len from n)) more
    ∙ take_while-cons test from (range_with_len (from + 1) (durable - (from + 1)))
    ∙ cond-true _ _ _ (ap (λ (o : Option ℕ). is_some o) here)

-- one promise, and then the rest
pub promise_more : (t : Turn ReplicaState) (position : ℕ) → (own_of t).promised < (own_of t).durable → lease_at t (own_of t).promised ≡ Some position
    → promise_some (put_own (with_promised ((own_of t).promised + 1) (own_of t)) (promise_record (Some position) (slice_get (log_of t) (own_of t).promised) (own_of t).promised t)) ≡ promise_some t
unfolding leased_from
promise_more t position below here =
    let from : ℕ = (own_of t).promised in
    let rest : ℕ = (own_of t).durable - (from + 1) in
    let record_at : Option Record = slice_get (log_of t) from in
    let done : Option ℕ → Turn ReplicaState = λ o. put_own (with_promised (from + 1) (own_of t)) (promise_record o record_at from t) in
    ap (λ (o : Option ℕ). promise_some (done o)) (sym here)
    ∙ ap (λ (b : Base). fold promise (done (lease_at t from)) (leased_from b (from + 1) rest)) (promise_base (lease_at t from) record_at from t)
    ∙ ap (fold promise t) (sym (leased_more t.state.base from (own_of t).durable position below here))
