-- A replica's step by whether an entry is told: rule after rule where one is, and place by place in any other step.
use Rattle.std.proofs.Common.{◌≡◌, ◌∙◌, if◌then◌else◌, ℕ, zero, suc, ◌+◌, ◌-◌, ◌<◌, ◌≤◌, Bool, true, false, take_while, List, [], ◌∷◌, Option, Some, None, refl, sym, ap, subst, inl, inr, ◌⊎◌, arith}
use Rattle.std.specs.List.{range_with_len, slice_get}
use Rattle.std.proofs.lemmas.Bool.{false≢true}
use Rattle.std.proofs.lemmas.Option.{same_Some}
use Rattle.std.proofs.lemmas.List.Sums.{take_while-cons}
use Rattle.cut_core.specs.Map.{placed}
use Rattle.msg_wire.specs.Heeded.{is_heeded}
use Rattle.msg_wire.specs.Nodes.{is_primary}
use Rattle.node_rules.specs.Names.{NodeId, Entry, Record, Message, What, Event}
use Rattle.node_rules.specs.Names.records
use Rattle.node_rules.specs.Names.marks
use Rattle.node_rules.specs.Names.whats
use Rattle.node_rules.specs.Names.events
use Rattle.node_rules.specs.Nodes.{Node}
use Rattle.node_rules.specs.Turns.{Turn, started, me_of, agreed, show}
use Rattle.node_rules.specs.Rules.{heed, decided}
use Rattle.node_rules.proofs.Lists.{on_test, on_fold}
use Rattle.node_rules.proofs.Places.{IsTold, Comes}
use Rattle.shard_node.specs.States.{ReplicaState, shard_of, log_of, covered_of}
use Rattle.shard_node.specs.Learning.{confirm_at, tell_client, confirm, confirm_from, on_learned}
use Rattle.shard_node.specs.Promises.{promise_all}
use Rattle.shard_node.specs.Steps.{hear, replica_step}

-- ---- what is confirmed, and what is promised, of a range

-- confirming changes nothing of the node
module _ (P : Node ReplicaState → Type 0) where
  confirmed_at : (position : Option ℕ) (rec : Option Record) (t : Turn ReplicaState) → P t.state → P (confirm_at position rec t).state
  confirmed_at (Some position) (Some (records.Data client number body)) t w =
      on_test (λ (u : Turn ReplicaState). P u.state) (is_primary (me_of t))
      (tell_client position (records.Data client number body) (show (marks.Confirm position (records.Data client number body)) t))
      (show (marks.Confirm position (records.Data client number body)) t) (λ _. w) (λ _. w)
  confirmed_at (Some position) (Some records.Noop) t w =
      on_test (λ (u : Turn ReplicaState). P u.state) (is_primary (me_of t)) (tell_client position records.Noop (show (marks.Confirm position records.Noop) t))
      (show (marks.Confirm position records.Noop) t) (λ _. w) (λ _. w)
  confirmed_at (Some position) None t w = w
  confirmed_at None rec t w = w

  pub confirmed : (before : ℕ) (t : Turn ReplicaState) → P t.state → P (confirm_from before t).state
  confirmed before t w =
      on_fold (λ (u : Turn ReplicaState). P u.state) confirm (range_with_len before (covered_of t - before)) t
      (λ u i local at is. confirmed_at (placed (agreed u) (shard_of u) local) (slice_get (log_of u) local) u is) w

-- a local that is taken from a range while it passes is below the range's end, and passes
pub record IsTaken (test : ℕ → Bool) (end local : ℕ) : Type 0 where
  pub below : local < end
  pub passes : test local ≡ true

first_or_later : (test : ℕ → Bool) (from end local : ℕ) (rest : List ℕ) → ((j : ℕ) → slice_get rest j ≡ Some local → IsTaken test end local)
    → (b : Bool) → test from ≡ b → from < end → (j : ℕ) → slice_get (if b then from ∷ rest else []) j ≡ Some local → IsTaken test end local
first_or_later test from end local rest later true passes within zero at =
    subst (IsTaken test end) (same_Some from local at) (record { below = within; passes = passes })
first_or_later test from end local rest later true passes within (suc j) at = later j at
first_or_later test from end local rest later false passes within j at = absurd (cc)

pub taken : (test : ℕ → Bool) (from count end i local : ℕ) → from + count ≤ end → slice_get (take_while test (range_with_len from count)) i ≡ Some local
    → IsTaken test end local
taken test from zero end i local fits at = absurd (cc)
taken test from (suc count) end i local fits at =
    first_or_later test from end local (take_while test (range_with_len (from + 1) count))
    (λ j later. taken test (from + 1) count end j local (omega (arith, fits)) later) (test from) refl (omega (arith, fits)) i
    (subst (λ (l : List ℕ). slice_get l i ≡ Some local) (take_while-cons test from (range_with_len (from + 1) count)) at)

-- ---- a step in which an entry is told, and any other

abbrev pub is_decided : What → Bool
is_decided (whats.Decided slot count entry) = true
is_decided _ = false

abbrev pub tells_entry : Event → Bool
tells_entry (events.Deliver m) = is_decided m.what
tells_entry _ = false

untold : (n : Node ReplicaState) (event : Event) → tells_entry event ≡ false → (s : Node ReplicaState) (entry : Entry) → IsTold n event s entry → ⊥
untold n event not_so s entry told =
    let says : is_decided told.comes.message.what ≡ true = ap is_decided told.comes.says in
    false≢true (sym not_so ∙ (ap tells_entry told.comes.same ∙ says))

-- what an entry that is told leaves, before promises are made, and a step in which none is told
pub record OnBothTurns (n : Node ReplicaState) (event : Event) (P : Turn ReplicaState → Type 0) : Type 0 where
  pub start : P (started n)
  pub decides : (from : NodeId) (slot count : ℕ) (entry : Entry) → Comes n event from (whats.Decided slot count entry)
      → P (decided on_learned from slot count entry (started n))
  pub promises : (t : Turn ReplicaState) → P t → P (promise_all t)
  pub others : ((s : Node ReplicaState) (entry : Entry) → IsTold n event s entry → ⊥) → P (replica_step n event)

module _ (n : Node ReplicaState) (event : Event) (P : Turn ReplicaState → Type 0) (both : OnBothTurns n event P) where
  heard : (from : NodeId) (what : What) → is_decided what ≡ true → Comes n event from what → P (hear from what (started n))
  heard from (whats.Decided slot count entry) is comes = both.decides from slot count entry comes
  heard from _ is comes = absurd (cc)

  told_or_not : (m : Message) (b : Bool) → event ≡ events.Deliver m → is_decided m.what ≡ b → P (promise_all (heed hear m (started n))) ⊎ (b ≡ false)
  told_or_not m true same is =
      inl (both.promises (heed hear m (started n))
      (on_test P (is_heeded n.base.cfg n.base.me m) (hear m.from m.what (started n)) (started n)
      (λ heeded. heard m.from m.what is (record { message = m; same = same; by = refl; says = refl; heeded = heeded })) (λ _. both.start)))
  told_or_not m false same is = inr refl

pub on_both_turns : (n : Node ReplicaState) (event : Event) (P : Turn ReplicaState → Type 0) → OnBothTurns n event P → P (replica_step n event)
on_both_turns n (events.Deliver m) P both =
    elim (told_or_not n (events.Deliver m) P both m (is_decided m.what) refl refl) [
      | inl told ↦ told
      | inr not_so ↦ both.others (untold n (events.Deliver m) not_so)
    ]
on_both_turns n events.Tick P both = both.others (untold n events.Tick refl)
on_both_turns n events.Restart P both = both.others (untold n events.Restart refl)
on_both_turns n (events.Submit by body) P both = both.others (untold n (events.Submit by body) refl)
on_both_turns n (events.Command command) P both = both.others (untold n (events.Command command) refl)

-- of what a turn leaves of the node
pub record OnBoth (n : Node ReplicaState) (event : Event) (P : Node ReplicaState → Type 0) : Type 0 where
  pub start : P n
  pub decides : (from : NodeId) (slot count : ℕ) (entry : Entry) → Comes n event from (whats.Decided slot count entry)
      → P (decided on_learned from slot count entry (started n)).state
  pub promises : (t : Turn ReplicaState) → P t.state → P (promise_all t).state
  pub others : ((s : Node ReplicaState) (entry : Entry) → IsTold n event s entry → ⊥) → P (replica_step n event).state

pub on_both : (n : Node ReplicaState) (event : Event) (P : Node ReplicaState → Type 0) → OnBoth n event P → P (replica_step n event).state
on_both n event P both =
    on_both_turns n event (λ t. P t.state) (record { start = both.start; decides = both.decides; promises = both.promises; others = both.others })
