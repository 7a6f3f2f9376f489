-- The end of a primary's step: it promises on, to what is durable or to the first local without a lease, and shows each promise whose record it has.
use Rattle.std.proofs.Common.{◌≡◌, ◌⊎◌, ◌∙◌, ℕ, zero, suc, ◌+◌, ◌-◌, ◌<◌, ◌≤◌, true, false, List, [], ◌∷◌, Option, Some, None, Contains, take_while, refl, sym, ap, subst, inl, inr, arith}
use Rattle.std.specs.Prelude.{min, is_some}
use Rattle.std.specs.List.{fold, range_with_len, slice_get}
use Rattle.std.proofs.lemmas.Bool.{false≢true, cases_lt, cases_eq}
use Rattle.std.proofs.lemmas.List.Elements.{Contains-append_left, Contains-push}
use Rattle.std.proofs.lemmas.List.Sums.{take_while-cons}
use Rattle.std.proofs.lemmas.Option.{same_Some}
use Rattle.cut_core.specs.Agreements.{Agreement}
use Rattle.cut_core.specs.Map.{leased}
use Rattle.msg_wire.specs.Nodes.{is_primary, number_of}
use Rattle.node_rules.specs.Names.{Record, Mark, Event}
use Rattle.node_rules.specs.Names.events
use Rattle.node_rules.specs.Names.marks
use Rattle.node_rules.specs.Nodes.{Base, Node, agreed_by}
use Rattle.node_rules.specs.Turns.{Turn, started, me_of, own_of, agreed, put_own}
use Rattle.node_rules.specs.Sound.{IsBase}
use Rattle.node_rules.proofs.Lists.{on_test}
use Rattle.shard_node.specs.States.{ReplicaState, shard_of, log_of, with_promised}
use Rattle.shard_node.specs.Promises.{lease_at, promise_record, promise, promise_some, promise_all}
use Rattle.shard_node.specs.Steps.{handle, replica_step}
use Rattle.safety_logs.proofs.Leases.{leases, base_consistent}

-- ---- one local more

pub record PromisesOne (position : Option ℕ) (rec : Option Record) (local : ℕ) (t u : Turn ReplicaState) : Type 0 where
  pub base : u.state.base ≡ t.state.base
  pub log : log_of u ≡ log_of t
  pub durable : (own_of u).durable ≡ (own_of t).durable
  pub promised : (own_of u).promised ≡ local + 1
  pub keeps : (mark : Mark) → Contains t.marks mark → Contains u.marks mark
  pub shown : (at : ℕ) (known : Record) → position ≡ Some at → rec ≡ Some known → Contains u.marks (marks.Promise at known)

promise_shown : (shown : List Mark) (position at : ℕ) (rec known : Record) → position ≡ at → rec ≡ known
    → Contains shown (marks.Promise position rec) → Contains shown (marks.Promise at known)
promise_shown shown position at rec known here is c =
    subst (λ p. Contains shown (marks.Promise p known)) here (subst (λ r. Contains shown (marks.Promise position r)) is c)

-- no mark is shown where a position or a record is missing
promises_silently : (position : Option ℕ) (rec : Option Record) (local : ℕ) (t : Turn ReplicaState)
    → ((at : ℕ) (known : Record) → position ≡ Some at → rec ≡ Some known → ⊥)
    → PromisesOne position rec local t (put_own (with_promised (local + 1) (own_of t)) t)
promises_silently position rec local t missing = record {
  base = refl;
  log = refl;
  durable = refl;
  promised = refl;
  keeps = λ mark c. c;
  shown = λ at known here is. absurd (missing at known here is);
}

promises_one : (position : Option ℕ) (rec : Option Record) (local : ℕ) (t : Turn ReplicaState)
    → PromisesOne position rec local t (put_own (with_promised (local + 1) (own_of t)) (promise_record position rec local t))
promises_one (Some position) (Some rec) local t = record {
  base = refl;
  log = refl;
  durable = refl;
  promised = refl;
  keeps = λ mark c. Contains-append_left t.marks (marks.Promise position rec ∷ []) mark c;
  shown = λ at known here is.
      promise_shown _ position at rec known (same_Some position at here) (same_Some rec known is) (Contains-push t.marks (marks.Promise position rec));
}
promises_one (Some position) None local t = promises_silently (Some position) None local t (λ at known here is. cc)
promises_one None rec local t = promises_silently None rec local t (λ at known here is. cc)

-- ---- all of them

-- from a turn to another, up to a local or to the first that has no lease
pub record PromisesOn (a : Agreement) (shard : ℕ) (records : List Record) (until : ℕ) (t u : Turn ReplicaState) : Type 0 where
  pub base : u.state.base ≡ t.state.base
  pub log : log_of u ≡ records
  pub durable : (own_of u).durable ≡ (own_of t).durable
  pub least : (own_of t).promised ≤ (own_of u).promised
  pub ends : (until ≤ (own_of u).promised) ⊎ (is_some (leased a shard (own_of u).promised) ≡ false)
  pub keeps : (mark : Mark) → Contains t.marks mark → Contains u.marks mark
  pub shows : (local position : ℕ) (rec : Record) → (own_of t).promised ≤ local → local < (own_of u).promised
      → leased a shard local ≡ Some position → slice_get records local ≡ Some rec → Contains u.marks (marks.Promise position rec)

module _ (b : Base) (records : List Record) where
  abbrev shard : ℕ
  shard = number_of b.me

  abbrev On : ℕ → Turn ReplicaState → Turn ReplicaState → Type 0
  On until t u = PromisesOn (agreed_by b) shard records until t u

  stops : (until : ℕ) (t : Turn ReplicaState) → log_of t ≡ records
      → (until ≤ (own_of t).promised) ⊎ (is_some (leased (agreed_by b) shard (own_of t).promised) ≡ false) → On until t t
  stops until t has ends = record {
    base = refl;
    log = has;
    durable = refl;
    least = omega arith;
    ends = ends;
    keeps = λ mark c. c;
    shows = λ local position rec above below lease at. absurd (omega (arith, above, below));
  }

  goes_on : (until from : ℕ) (position : Option ℕ) (rec : Option Record) (t v u : Turn ReplicaState) → (own_of t).promised ≡ from
      → leased (agreed_by b) shard from ≡ position → slice_get records from ≡ rec → PromisesOne position rec from t v → On until v u → On until t u
  goes_on until from position rec t v u next lease_is record_is one rest = record {
    base = rest.base ∙ one.base;
    log = rest.log;
    durable = rest.durable ∙ one.durable;
    least = omega (arith, rest.least, one.promised, next);
    ends = rest.ends;
    keeps = λ mark c. rest.keeps mark (one.keeps mark c);
    shows = λ local at known above below lease has. elim (cases_eq local from) [
      | inl here ↦
          rest.keeps (marks.Promise at known)
          (one.shown at known (sym lease_is ∙ (ap (leased (agreed_by b) shard) (sym here) ∙ lease)) (sym record_is ∙ (ap (slice_get records) (sym here) ∙ has)))
      | inr other ↦ rest.shows local at known (omega (arith, above, other, next, one.promised)) below lease has
    ];
  }

  promises_from : (from count : ℕ) (t : Turn ReplicaState) → t.state.base ≡ b → log_of t ≡ records → (own_of t).promised ≡ from
      → On (from + count) t (fold promise t (take_while (λ local. is_some (leased (agreed_by b) shard local)) (range_with_len from count)))
  promises_from from zero t same has next = stops (from + zero) t has (inl (omega (arith, next)))
  promises_from from (suc count) t same has next =
      let test = λ (local : ℕ). is_some (leased (agreed_by b) shard local) in
      let v : Turn ReplicaState = promise t from in
      let lease_is : leased (agreed_by b) shard from ≡ lease_at t from = ap (λ (c : Base). leased (agreed_by c) (number_of c.me) from) (sym same) in
      let record_is : slice_get records from ≡ slice_get (log_of t) from = ap (λ l. slice_get l from) (sym has) in
      let one = promises_one (lease_at t from) (slice_get (log_of t) from) from t in
      let further : from + 1 + count ≡ from + suc count = omega arith in
      subst (λ locals. On (from + suc count) t (fold promise t locals)) (sym (take_while-cons test from (range_with_len (from + 1) count)))
      (on_test (λ locals. On (from + suc count) t (fold promise t locals)) (test from) (from ∷ take_while test (range_with_len (from + 1) count)) []
      (λ free.
      goes_on (from + suc count) from (lease_at t from) (slice_get (log_of t) from) t v _ next lease_is record_is one
      (subst (λ until. On until v (fold promise v (take_while test (range_with_len (from + 1) count)))) further
      (promises_from (from + 1) count v (one.base ∙ same) (one.log ∙ has) one.promised)))
      (λ stop. stops (from + suc count) t has (inr (ap test next ∙ stop))))

-- ---- the end of a step

abbrev pub UptoDurable : Turn ReplicaState → Turn ReplicaState → Type 0
UptoDurable t u = PromisesOn (agreed t) (shard_of t) (log_of t) ((own_of t).promised + ((own_of t).durable - (own_of t).promised)) t u

some_on : (t : Turn ReplicaState) → UptoDurable t (promise_some t)
some_on t = promises_from t.state.base (log_of t) (own_of t).promised ((own_of t).durable - (own_of t).promised) t refl refl refl

pub promised_on : (t : Turn ReplicaState) → is_primary (me_of t) ≡ true → UptoDurable t (promise_all t)
promised_on t primary =
    on_test (UptoDurable t) (is_primary (me_of t)) (promise_some t) t (λ _. some_on t) (λ not_so. absurd (false≢true (sym not_so ∙ primary)))

pub promised_base : (t : Turn ReplicaState) → (promise_all t).state.base ≡ t.state.base
promised_base t =
    on_test (λ (u : Turn ReplicaState). u.state.base ≡ t.state.base) (is_primary (me_of t)) (promise_some t) t (λ _. (some_on t).base) (λ _. refl)

-- ---- as far as it can

abbrev pub Greatest : Node ReplicaState → Type 0
Greatest s = min s.own.durable (leases (agreed_by s.base) (number_of s.base.me)) ≤ s.own.promised

few_leases : (b : Base) (local : ℕ) → IsBase b → is_some (leased (agreed_by b) (number_of b.me) local) ≡ false
    → leases (agreed_by b) (number_of b.me) ≤ local
few_leases b local is none = elim (cases_lt local (leases (agreed_by b) (number_of b.me))) [
  | inl more ↦ absurd (false≢true (sym none ∙ ((base_consistent b is).leases (number_of b.me) local).1 more))
  | inr few ↦ few
]

greatest_after : (t : Turn ReplicaState) → IsBase (promise_all t).state.base → is_primary (me_of (promise_all t)) ≡ true → Greatest (promise_all t).state
greatest_after t is primary =
    let u : Turn ReplicaState = promise_all t in
    let same = promised_base t in
    let on = promised_on t (subst (λ (b : Base). is_primary b.me ≡ true) same primary) in
    let far : ((own_of t).durable ≤ (own_of u).promised) ⊎ (leases (agreed t) (shard_of t) ≤ (own_of u).promised) =
    elim (on.ends) [
      | inl all ↦ inl (omega (arith, all))
      | inr none ↦ inr (few_leases t.state.base (own_of u).promised (subst IsBase same is) none)
    ] in
    subst (λ (b : Base). min (own_of u).durable (leases (agreed_by b) (number_of b.me)) ≤ (own_of u).promised) (sym same)
    (elim far [
      | inl all ↦ omega (arith, all, on.durable)
      | inr few ↦ omega (arith, few)
    ])

pub step_greatest : (n : Node ReplicaState) (event : Event) → IsBase (replica_step n event).state.base
    → is_primary (replica_step n event).state.base.me ≡ true → Greatest (replica_step n event).state
step_greatest n events.Restart is primary = omega arith
step_greatest n (events.Deliver m) is primary = greatest_after (handle (events.Deliver m) (started n)) is primary
step_greatest n events.Tick is primary = greatest_after (handle events.Tick (started n)) is primary
step_greatest n (events.Submit by body) is primary = greatest_after (handle (events.Submit by body) (started n)) is primary
step_greatest n (events.Command command) is primary = greatest_after (handle (events.Command command) (started n)) is primary
