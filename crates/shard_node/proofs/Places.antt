-- The places of a replica's table at which it sends, shows, stores or changes, and what is known there.
use Rattle.std.proofs.Common.{◌≡◌, ℕ, ◌+◌, ◌-◌, ◌<◌, ◌≤◌, ◌^◌, true, false, List, [], ◌∷◌, ◌++◌, length, take, replicate, Some}
use Rattle.std.specs.Prelude.{min, is_some}
use Rattle.std.specs.List.{slice_get}
use Rattle.shard_log.specs.ShardLog.{expected_of, local_of}
use Rattle.cut_core.specs.declared.effects.Effect.TheVariants.{Removed}
use Rattle.cut_core.specs.Agreements.{Agreement}
use Rattle.cut_core.specs.Effects.{effect_of}
use Rattle.cut_core.specs.Map.{covered_locals, gone_end, placed, leased}
use Rattle.msg_wire.specs.Nodes.{is_primary, number_of, sequencers_of, consumers_of}
use Rattle.node_rules.specs.Names.{NodeId, Entry, Record, Item, What, Mark, Event}
use Rattle.node_rules.specs.Names.nodes
use Rattle.node_rules.specs.Names.sides
use Rattle.node_rules.specs.Names.records
use Rattle.node_rules.specs.Names.items
use Rattle.node_rules.specs.Names.marks
use Rattle.node_rules.specs.Names.whats
use Rattle.node_rules.specs.Nodes.{Node, agreed_by}
use Rattle.node_rules.proofs.Places.{Comes, IsTold, HasLearned, Places}
use Rattle.shard_node.specs.States.{ReplicaState, durable_to, durable_locals, with_log, with_promised}
use Rattle.shard_node.specs.Restart.{reset_of}

-- its shard's number
abbrev pub shard_by : Node ReplicaState → ℕ
shard_by s = number_of s.base.me

-- an entry was told and learned
abbrev pub Learned : Node ReplicaState → Event → Node ReplicaState → Agreement → Entry → Type 0
Learned n event s before entry = HasLearned (IsTold n event) s.base before entry

-- a local of its log is covered at a position
abbrev pub IsPlaced : Node ReplicaState → ℕ → ℕ → Type 0
IsPlaced s local position = placed (agreed_by s.base) (shard_by s) local ≡ Some position

-- its shard isn't gone
abbrev pub IsThere : Node ReplicaState → Type 0
IsThere s = is_some (gone_end (agreed_by s.base) (shard_by s)) ≡ false

-- a local that is covered since the entry that was learned, its position and its record
pub record Confirms (n : Node ReplicaState) (event : Event) (s : Node ReplicaState) (local position : ℕ) (rec : Record) : Type 0 where
  pub before : Agreement
  pub entry : Entry
  pub learned : Learned n event s before entry
  pub later : covered_locals before (shard_by s) ≤ local
  pub covered : local < covered_locals (agreed_by s.base) (shard_by s)
  pub place : IsPlaced s local position
  pub at : slice_get s.own.log local ≡ Some rec

-- an entry was learned that removed a shard
pub record Notices (n : Node ReplicaState) (event : Event) (s : Node ReplicaState) (first : ℕ) : Type 0 where
  pub before : Agreement
  pub entry : Entry
  pub learned : Learned n event s before entry
  pub shard : ℕ
  pub removes : effect_of before entry ≡ Removed shard first

-- the next local to promise: it is durable, and has a position and a record
pub record Promises (s : Node ReplicaState) (position : ℕ) (rec : Record) : Type 0 where
  pub primary : is_primary s.base.me ≡ true
  pub durable : s.own.promised < s.own.durable
  pub lease : leased (agreed_by s.base) (shard_by s) s.own.promised ≡ Some position
  pub at : slice_get s.own.log s.own.promised ≡ Some rec

-- it is asked for the fate of a client's numbers from one on, its shard is gone with an end that its log reaches, and the client's next number is this
pub record Answers (n : Node ReplicaState) (event : Event) (s : Node ReplicaState) (from : NodeId) (least next : ℕ) : Type 0 where
  pub first : ℕ
  pub comes : Comes n event from (whats.AskFate first least)
  pub end : ℕ
  pub gone : gone_end (agreed_by s.base) (shard_by s) ≡ Some end
  pub reached : end ≤ length s.own.log
  pub expected : next ≡ expected_of (number_of from) first (take end s.own.log)

pub data Says (n : Node ReplicaState) (event : Event) (s : Node ReplicaState) : NodeId → What → Type 0 where
  reports : (to : NodeId) (i : ℕ) → slice_get (sequencers_of s.base.cfg) i ≡ Some to → Says n event s to (whats.Report (length s.own.log))
  copies : (local : ℕ) (rec : Record) → is_primary s.base.me ≡ true → slice_get s.own.log local ≡ Some rec
      → Says n event s (nodes.Shard (shard_by s) sides.Backup) (whats.Replicate local rec)
  tells_length : (from : NodeId) (local : ℕ) (rec : Record) → Comes n event from (whats.Replicate local rec)
      → Says n event s from (whats.Replicated (length s.own.log))
  promises : (to : NodeId) (i position : ℕ) (rec : Record) → slice_get (consumers_of s.base.cfg) i ≡ Some to → Promises s position rec
      → Says n event s to (whats.Deliver s.own.promised rec)
  fetched : (from : NodeId) (local : ℕ) (rec : Record) → Comes n event from (whats.Fetch local) → local < durable_locals s
      → slice_get s.own.log local ≡ Some rec → Says n event s from (whats.Deliver local rec)
  confirms : (local position client number : ℕ) (body : List ℕ) → is_primary s.base.me ≡ true
      → Confirms n event s local position (records.Data client number body)
      → Says n event s (nodes.Client client) (whats.Ack number position)
  acks_again : (from : NodeId) (first number : ℕ) (body : List ℕ) (local position : ℕ) → Comes n event from (whats.Append first number body) → number < 2 ^ 48
      → local_of (number_of from) number s.own.log ≡ Some local → IsPlaced s local position → Says n event s from (whats.Ack number position)
  acks_fate : (from : NodeId) (least next local position : ℕ) → Answers n event s from least next → least < next
      → local_of (number_of from) least s.own.log ≡ Some local → IsPlaced s local position → Says n event s from (whats.Ack least position)
  fates : (from : NodeId) (least next : ℕ) → Answers n event s from least next → next ≤ least → Says n event s from (whats.Fate next)

pub data Shows (n : Node ReplicaState) (event : Event) (s : Node ReplicaState) : Mark → Type 0 where
  confirmed : (local position : ℕ) (rec : Record) → Confirms n event s local position rec → Shows n event s (marks.Confirm position rec)
  noticed : (first : ℕ) → Notices n event s first → Shows n event s (marks.Notice first)
  promised : (position : ℕ) (rec : Record) → Promises s position rec → Shows n event s (marks.Promise position rec)

pub data Stores (n : Node ReplicaState) (event : Event) (s : Node ReplicaState) : Item → ReplicaState → Type 0 where
  appends : (from : NodeId) (first number : ℕ) (body : List ℕ) → Comes n event from (whats.Append first number body) → IsThere s → number < 2 ^ 48
      → length s.own.log < 2 ^ 48
      → number ≡ expected_of (number_of from) first s.own.log
      → Stores n event s (items.Taken (records.Data (number_of from) number body)) (with_log (s.own.log ++ records.Data (number_of from) number body ∷ []) s.own)
  copied : (from : NodeId) (rec : Record) → Comes n event from (whats.Replicate (length s.own.log) rec) → length s.own.log < 2 ^ 48
      → Stores n event s (items.Taken rec) (with_log (s.own.log ++ rec ∷ []) s.own)
  fills : (from : NodeId) (wanted : ℕ) → Comes n event from (whats.Fill wanted) → IsThere s → length s.own.log < wanted
      → Stores n event s (items.Noops (min (wanted - length s.own.log) 64)) (with_log (s.own.log ++ replicate (min (wanted - length s.own.log) 64) records.Noop) s.own)

pub data Changes (n : Node ReplicaState) (event : Event) (s : Node ReplicaState) : ReplicaState → Type 0 where
  holds : (from : NodeId) (len : ℕ) → Comes n event from (whats.Replicated len) → Changes n event s (durable_to (min len (length s.own.log)) s.own)
  covers : (before : Agreement) (entry : Entry) → Learned n event s before entry
      → Changes n event s (durable_to (covered_locals (agreed_by s.base) (shard_by s)) s.own)
  cuts : (first : ℕ) → Notices n event s first → Changes n event s (with_promised (covered_locals (agreed_by s.base) (shard_by s)) s.own)
  promises_on : s.own.promised < s.own.durable → is_primary s.base.me ≡ true → is_some (leased (agreed_by s.base) (shard_by s) s.own.promised) ≡ true
      → Changes n event s (with_promised (s.own.promised + 1) s.own)

abbrev pub replica_places : Places ReplicaState
replica_places = record { Learns = IsTold; Says = Says; Shows = Shows; Stores = Stores; Changes = Changes; reset = reset_of; shown = λ n. [] }
