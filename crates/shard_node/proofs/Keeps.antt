-- What each place of a replica's table keeps: a replica stays one, what it stores and sends is valid, and its items lead to what a restart leaves.
use Rattle.std.proofs.Common.{◌≡◌, ℕ, ◌+◌, ◌-◌, ◌≤◌, ◌^◌, List, [], ◌∷◌, ◌++◌, length, replicate, Some, refl, ap, ◌∙◌, arith}
use Rattle.std.specs.Prelude.{min}
use Rattle.std.specs.List.{AllByRecursion, slice_get}
use Rattle.std.proofs.lemmas.Bool.{le-leb}
use Rattle.std.proofs.lemmas.Option.{slice_get_within}
use Rattle.std.proofs.lemmas.List.{length-append, length-replicate}
use Rattle.spec_base.specs.Spelling.{IsValidNode}
use Rattle.record_codec.specs.Records.{IsValidRecord}
use Rattle.msg_wire.specs.Valid.{IsValidItem, IsValidWhat, IsValidEvent}
use Rattle.msg_wire.specs.Nodes.{number_of, sequencers_of, consumers_of}
use Rattle.node_rules.specs.Names.{NodeId, Record, What, Item, Event}
use Rattle.node_rules.specs.Names.records
use Rattle.node_rules.specs.Names.items
use Rattle.node_rules.specs.Names.whats
use Rattle.node_rules.specs.Nodes.{Base, Node, with_own}
use Rattle.node_rules.specs.Sound.{IsBase}
use Rattle.node_rules.proofs.Lists.{all_append, all_replicate, all_at}
use Rattle.node_rules.proofs.Limits.{node_valid, base_reset, number_limit, valid_sequencers, valid_consumers, locals_limit, placed_limit}
use Rattle.node_rules.proofs.Telling.{with_base}
use Rattle.node_rules.proofs.Kept.{comes_valid, told_valid, Keeping, Keeps}
use Rattle.shard_node.specs.States.{ReplicaState, with_log}
use Rattle.shard_node.specs.Restart.{fit, fit_records, reset_of}
use Rattle.shard_node.specs.Sound.{IsReplica}
use Rattle.shard_node.proofs.Restarts.{same_fit, fits_known, fits_records}
use Rattle.shard_node.proofs.Places.{Says, Stores, Changes, reports, copies, tells_length, promises, fetched, confirms, acks_again, acks_fate, fates, appends, copied, fills, holds, covers, replica_places}

abbrev pub replica_keeping : Keeping ReplicaState
replica_keeping = record { Is = IsReplica; fit = fit; Leads = λ a s. reset_of a ≡ reset_of s }

-- ---- replicas

pub replica_on : (base : Base) (s : Node ReplicaState) → IsBase base → IsReplica s → IsReplica (with_base base s)
replica_on base s sound is = record { base = sound; own = is.own }

pub replica_grown : (recs : List Record) (s : Node ReplicaState) → AllByRecursion IsValidRecord recs → length s.own.log + length recs ≤ 2 ^ 48 → IsReplica s
    → IsReplica (with_own (with_log (s.own.log ++ recs) s.own) s)
replica_grown recs s valid room is = record {
  base = is.base;
  own = record {
    records = all_append IsValidRecord s.own.log recs is.own.records valid;
    room = omega (arith, room, length-append s.own.log recs);
    durable = is.own.durable;
  };
}

-- a restart leaves a replica
pub reset_sound : (n : Node ReplicaState) → IsReplica n → IsReplica (reset_of n)
reset_sound n is = record {
  base = base_reset n.base is.base;
  own = record { records = is.own.records; room = is.own.room; durable = locals_limit n.base (number_of n.base.me) is.base };
}

-- ---- what is sent

abbrev Goes : NodeId → What → Type 0
Goes to what = IsValidNode to × IsValidWhat what

named : (s : Node ReplicaState) → IsReplica s → IsValidNode s.base.me
named s is = node_valid s.base.cfg s.base.me is.base.cfg is.base.me

record_at : (s : Node ReplicaState) (local : ℕ) (rec : Record) → IsReplica s → slice_get s.own.log local ≡ Some rec → (local ≤ 2 ^ 48) × IsValidRecord rec
record_at s local rec is at = (omega (arith, slice_get_within s.own.log local rec at, is.own.room), all_at IsValidRecord s.own.log local rec is.own.records at)

module _ (n : Node ReplicaState) (event : Event) (valid : IsValidEvent event) where
  says_valid : (s : Node ReplicaState) (to : NodeId) (what : What) → Says n event s to what → IsReplica s → Goes to what
  says_valid s to _ (reports _ i at) is = (all_at IsValidNode (sequencers_of s.base.cfg) i to (valid_sequencers s.base.cfg is.base.cfg) at, is.own.room)
  says_valid s _ _ (copies local rec primary at) is = (number_limit s.base.me (named s is), record_at s local rec is at)
  says_valid s from _ (tells_length _ local rec comes) is = ((comes_valid n event from _ comes valid).0, is.own.room)
  says_valid s to _ (promises _ i position rec there why) is = (all_at IsValidNode (consumers_of s.base.cfg) i to (valid_consumers s.base.cfg is.base.cfg) there, record_at s s.own.promised rec is why.at)
  says_valid s from _ (fetched _ local rec comes durable at) is = ((comes_valid n event from _ comes valid).0, record_at s local rec is at)
  says_valid s _ _ (confirms local position client number body primary why) is =
      let rec = (record_at s local (records.Data client number body) is why.at).1 in
      (rec.0, (rec.1, placed_limit s.base (number_of s.base.me) local position is.base why.place))
  says_valid s from _ (acks_again _ first number body local position comes low stands place) is =
      ((comes_valid n event from _ comes valid).0, (omega (arith, low), placed_limit s.base (number_of s.base.me) local position is.base place))
  says_valid s from _ (acks_fate _ least next local position why below stands place) is =
      let asked = comes_valid n event from (whats.AskFate why.first least) why.comes valid in
      (asked.0, (asked.1.1, placed_limit s.base (number_of s.base.me) local position is.base place))
  says_valid s from _ (fates _ least next why above) is =
      let asked = comes_valid n event from (whats.AskFate why.first least) why.comes valid in
      (asked.0, omega (arith, above, asked.1.1))

  -- ---- what is stored

  -- an item that brings records, the replica that has them, and what a restart leaves of it
  brings : (item : Item) (recs : List Record) (s : Node ReplicaState) → ((m : Node ReplicaState) → fit m item ≡ fit_records recs m)
      → AllByRecursion IsValidRecord recs
      → length s.own.log + length recs ≤ 2 ^ 48 → IsValidItem item → IsReplica s
      → IsValidItem item × IsReplica (with_own (with_log (s.own.log ++ recs) s.own) s) × (reset_of (fit s item) ≡ reset_of (with_own (with_log (s.own.log ++ recs) s.own) s))
  brings item recs s fitting valid room fits is = (fits, replica_grown recs s valid room is, ap reset_of (fitting s ∙ fits_records s recs (le-leb _ _ room)))

  stores_valid : (s : Node ReplicaState) (item : Item) (own : ReplicaState) → Stores n event s item own → IsReplica s
      → IsValidItem item × IsReplica (with_own own s) × (reset_of (fit s item) ≡ reset_of (with_own own s))
  stores_valid s _ _ (appends from first number body comes there low room expected) is =
      let asked = comes_valid n event from (whats.Append first number body) comes valid in
      let rec : Record = records.Data (number_of from) number body in
      let fits : IsValidRecord rec = (number_limit from asked.0, omega (arith, low), asked.1.2) in
      brings (items.Taken rec) (rec ∷ []) s (λ m. refl) (fits, tt) (omega (arith, room)) fits is
  stores_valid s _ _ (copied from rec comes room) is =
      let fits = (comes_valid n event from (whats.Replicate (length s.own.log) rec) comes valid).1.1 in
      brings (items.Taken rec) (rec ∷ []) s (λ m. refl) (fits, tt) (omega (arith, room)) fits is
  stores_valid s _ _ (fills from wanted comes there short) is =
      let few : wanted ≤ 2 ^ 48 = (comes_valid n event from (whats.Fill wanted) comes valid).1 in
      let count : ℕ = min (wanted - length s.own.log) 64 in
      brings (items.Noops count) (replicate count records.Noop) s (λ m. refl) (all_replicate IsValidRecord count records.Noop tt) (omega (arith, short, few, length-replicate count records.Noop))
      (omega (arith, short), omega arith) is

  -- ---- what is durable and promised

  changes_kept : (s : Node ReplicaState) (own : ReplicaState) → Changes n event s own → IsReplica s
      → IsReplica (with_own own s) × (reset_of s ≡ reset_of (with_own own s))
  changes_kept s _ (holds from len comes) is = (record { base = is.base; own = record { records = is.own.records; room = is.own.room; durable = omega (arith, is.own.durable, is.own.room) } }, refl)
  changes_kept s _ (covers before entry learned) is =
      (record { base = is.base; own = record { records = is.own.records; room = is.own.room; durable = omega (arith, is.own.durable, locals_limit s.base (number_of s.base.me) is.base) } }, refl)
  changes_kept s _ _ is = (record { base = is.base; own = record { records = is.own.records; room = is.own.room; durable = is.own.durable } }, refl)

  pub replica_keeps : Keeps replica_places replica_keeping n event
  replica_keeps = record {
    base = λ s is. is.base;
    resets = λ is. (reset_sound n is, λ a leads. leads);
    learns = λ s entry told is. told_valid n event s entry told valid;
    knows = λ s entry base is. replica_on _ s base is;
    sees = λ s count base is. replica_on _ s base is;
    ticks = λ s base is. replica_on _ s base is;
    says = says_valid;
    stores = λ s item own why is. let kept = stores_valid s item own why is in (kept.0, kept.1);
    changes = λ s own why is. (changes_kept s own why is).0;
    leads_known = λ a s entry sure leads. same_fit a s (items.Known entry) leads ∙ ap reset_of (fits_known s entry sure.0);
    leads_seen = λ a s count leads. leads;
    leads_ticked = λ a s leads. leads;
    leads_stored = λ a s item own why is leads. same_fit a s item leads ∙ (stores_valid s item own why is).2;
    leads_changed = λ a s own why leads. leads ∙ (changes_kept s own why.0 why.1).1;
  }
