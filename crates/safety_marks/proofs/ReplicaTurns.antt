-- What a replica's confirmations and promises keep, each with what is known as it is shown.
use Rattle.std.proofs.Common.{◌≡◌, ℕ, zero, suc, ◌+◌, ◌-◌, ◌<◌, ◌≤◌, Bool, true, is_some, take_while, List, Option, Some, None, refl, sym, subst, arith}
use Rattle.std.specs.List.{range_with_len, slice_get}
use Rattle.cut_core.specs.Map.{covered_locals, placed}
use Rattle.msg_wire.specs.Nodes.{is_primary, number_of, consumers_of}
use Rattle.node_rules.specs.Names.{NodeId, Record, What}
use Rattle.node_rules.specs.Names.nodes
use Rattle.node_rules.specs.Names.records
use Rattle.node_rules.specs.Names.marks
use Rattle.node_rules.specs.Names.whats
use Rattle.node_rules.specs.Nodes.{Node, agreed_by}
use Rattle.node_rules.specs.Turns.{Turn, cfg_of, me_of, own_of, agreed, put_own, send, send_all, show}
use Rattle.node_rules.proofs.Lists.{on_test, on_fold, on_range}
use Rattle.shard_node.specs.States.{ReplicaState, shard_of, log_of, covered_of, with_promised}
use Rattle.shard_node.specs.Learning.{tell_client, confirm_at, confirm, confirm_from}
use Rattle.shard_node.specs.Promises.{lease_at, to_promise, promise_record, promise, promise_some, promise_all}
use Rattle.safety_logs.proofs.ReplicaSteps.{taken}

-- ---- confirmations

-- a local that is covered has a place and a record
pub record IsConfirmedAt (t : Turn ReplicaState) (local position : ℕ) (rec : Record) : Type 0 where
  pub covered : local < covered_of t
  pub place : placed (agreed t) (shard_of t) local ≡ Some position
  pub at : slice_get (log_of t) local ≡ Some rec

pub record KeepsConfirmed (W : Turn ReplicaState → Type 0) : Type 0 where
  pub shows : (t : Turn ReplicaState) (local position : ℕ) (rec : Record) → IsConfirmedAt t local position rec → W t → W (show (marks.Confirm position rec) t)
  pub sends : (t : Turn ReplicaState) (to : NodeId) (what : What) → W t → W (send to what t)

module _ (W : Turn ReplicaState → Type 0) (keeps : KeepsConfirmed W) where
  told_client : (position : ℕ) (rec : Record) (t : Turn ReplicaState) → W t → W (tell_client position rec t)
  told_client position (records.Data client number body) t w = keeps.sends t (nodes.Client client) (whats.Ack number position) w
  told_client position records.Noop t w = w

  one_confirmed : (local : ℕ) (position : Option ℕ) (rec : Option Record) (t : Turn ReplicaState) → local < covered_of t
      → placed (agreed t) (shard_of t) local ≡ position → slice_get (log_of t) local ≡ rec → W t → W (confirm_at position rec t)
  one_confirmed local (Some position) (Some rec) t covered place at w =
      let next : Turn ReplicaState = show (marks.Confirm position rec) t in
      let shown : W next = keeps.shows t local position rec (record { covered = covered; place = place; at = at }) w in
      on_test W (is_primary (me_of t)) (tell_client position rec next) next (λ _. told_client position rec next shown) (λ _. shown)
  one_confirmed local (Some position) None t covered place at w = w
  one_confirmed local None rec t covered place at w = w

-- with the node as it was
abbrev From : (Turn ReplicaState → Type 0) → Node ReplicaState → Turn ReplicaState → Type 0
From W s t = W t × (t.state ≡ s)

from_confirmed : (W : Turn ReplicaState → Type 0) (s : Node ReplicaState) → KeepsConfirmed W → KeepsConfirmed (From W s)
from_confirmed W s keeps = record {
  shows = λ t local position rec why w. (keeps.shows t local position rec why w.0, w.1);
  sends = λ t to what w. (keeps.sends t to what w.0, w.1);
}

pub all_confirmed : (W : Turn ReplicaState → Type 0) → KeepsConfirmed W → (before : ℕ) (t : Turn ReplicaState) → W t
    → W (confirm_from before t) × ((confirm_from before t).state ≡ t.state)
all_confirmed W keeps before t w =
    on_range (From W t.state) confirm before (covered_of t - before) (before + (covered_of t - before)) t
    (λ u local later below so_far.
    let within : local < covered_of t = omega (arith, later, below) in
    one_confirmed (From W t.state) (from_confirmed W t.state keeps) local (placed (agreed u) (shard_of u) local) (slice_get (log_of u) local) u
    (subst (λ (s : Node ReplicaState). local < covered_locals (agreed_by s.base) (number_of s.base.me)) (sym so_far.1) within) refl refl so_far)
    (omega arith) (w, refl)

-- ---- promises

-- a durable local has a position and a record
pub record IsPromisedAt (t : Turn ReplicaState) (local position : ℕ) (rec : Record) : Type 0 where
  pub primary : is_primary (me_of t) ≡ true
  pub durable : local < (own_of t).durable
  pub lease : lease_at t local ≡ Some position
  pub at : slice_get (log_of t) local ≡ Some rec

pub record KeepsPromised (W : Turn ReplicaState → Type 0) : Type 0 where
  pub shows : (t : Turn ReplicaState) (local position : ℕ) (rec : Record) → IsPromisedAt t local position rec → W t → W (show (marks.Promise position rec) t)
  pub sends : (t : Turn ReplicaState) (tos : List NodeId) (what : What) → W t → W (send_all tos what t)
  pub counts : (t : Turn ReplicaState) (count : ℕ) → W t → W (put_own (with_promised count (own_of t)) t)

module _ (W : Turn ReplicaState → Type 0) (keeps : KeepsPromised W) where
  one_promised : (position : Option ℕ) (rec : Option Record) (local : ℕ) (t : Turn ReplicaState) → is_primary (me_of t) ≡ true
      → local < (own_of t).durable → lease_at t local ≡ position → slice_get (log_of t) local ≡ rec → W t
      → W (put_own (with_promised (local + 1) (own_of t)) (promise_record position rec local t))
  one_promised (Some position) (Some rec) local t primary durable lease at w =
      let next : Turn ReplicaState = show (marks.Promise position rec) t in
      let shown : W next = keeps.shows t local position rec (record { primary = primary; durable = durable; lease = lease; at = at }) w in
      let tos : List NodeId = consumers_of (cfg_of t) in
      keeps.counts (send_all tos (whats.Deliver local rec) next) (local + 1) (keeps.sends next tos (whats.Deliver local rec) shown)
  one_promised (Some position) None local t primary durable lease at w = keeps.counts t (local + 1) w
  one_promised None rec local t primary durable lease at w = keeps.counts t (local + 1) w

-- a local that is taken up to an end is below it
taken_below : (test : ℕ → Bool) (from count end i local : ℕ) → count ≤ end - from
    → slice_get (take_while test (range_with_len from count)) i ≡ Some local → local < end
taken_below test from zero end i local fits at = absurd (cc)
taken_below test from (suc count) end i local fits at = (taken test from (suc count) end i local (omega (arith, fits)) at).below

abbrev AtPrimary : (Turn ReplicaState → Type 0) → ℕ → Turn ReplicaState → Type 0
AtPrimary W durable t = W t × ((own_of t).durable ≡ durable) × (is_primary (me_of t) ≡ true)

at_primary : (W : Turn ReplicaState → Type 0) (durable : ℕ) → KeepsPromised W → KeepsPromised (AtPrimary W durable)
at_primary W durable keeps = record {
  shows = λ t local position rec why w. (keeps.shows t local position rec why w.0, w.1, w.2);
  sends = λ t tos what w. (keeps.sends t tos what w.0, w.1, w.2);
  counts = λ t count w. (keeps.counts t count w.0, w.1, w.2);
}

pub all_promised : (W : Turn ReplicaState → Type 0) → KeepsPromised W → (t : Turn ReplicaState) → W t → W (promise_all t)
all_promised W keeps t w =
    let durable : ℕ = (own_of t).durable in
    on_test W (is_primary (me_of t)) (promise_some t) t
    (λ primary.
    (on_fold (AtPrimary W durable) promise (to_promise t) t
    (λ u i local at so_far.
    let below : local < durable =
    taken_below (λ l. is_some (lease_at t l)) (own_of t).promised (durable - (own_of t).promised) durable i local (omega arith) at in
    one_promised (AtPrimary W durable) (at_primary W durable keeps) (lease_at u local) (slice_get (log_of u) local) local u so_far.2
    (omega (arith, below, so_far.1)) refl refl so_far)
    (w, refl, primary)).0)
    (λ _. w)
