-- A backup's log begins its primary's: it takes a record only at its own end, and what is replicated stands in the primary's log.
use Rattle.std.proofs.Common.{◌≡◌, ◌∙◌, ℕ, ◌&&◌, true, false, List, [], ◌∷◌, length, Some, refl, sym, ap, subst}
use Rattle.std.specs.List.{slice_get}
use Rattle.std.proofs.lemmas.Bool.{false≢true, and_parts, eqb-true}
use Rattle.msg_wire.specs.Nodes.{is_primary, is_backup, is_client, is_sequencer, same_shard, same_node}
use Rattle.msg_wire.specs.Valid.{IsValidConfig, IsNodeOf}
use Rattle.net_model.specs.Pasts.{Past}
use Rattle.node_rules.specs.Nodes.{Node}
use Rattle.node_rules.specs.Turns.{Turn}
use Rattle.node_rules.proofs.Places.{Comes, unshown_sites}
use Rattle.shard_node.specs.States.{ReplicaState}
use Rattle.shard_node.proofs.Places.{Stores, appends, copied, fills, Changes, holds, covers, cuts, promises_on}
use Rattle.runs.specs.Names.{NodeId, Config, Record, Item, Event, HistoryEntry}
use Rattle.runs.specs.Names.nodes
use Rattle.runs.specs.Names.sides
use Rattle.runs.specs.Names.whats
use Rattle.runs.specs.Runs.{IsPastOf}
use Rattle.runs.specs.Known.{log_at}
use Rattle.runs.specs.Logs.{BackupIsAPrefix}
use Rattle.runs.specs.Marks.{IsPrefix, log_by}
use Rattle.runs.proofs.SameNodes.{same_node_is}
use Rattle.safety_frame.proofs.NodeKinds.{after, replicas}
use Rattle.safety_frame.proofs.Pasts.{own_state, other_stored, log_grows, on_own}
use Rattle.safety_frame.proofs.Inductions.{every_past}
use Rattle.safety_frame.proofs.Lists.{begins_on}
use Rattle.safety_frame.proofs.Names.{states_named}
use Rattle.safety_frame.proofs.Going.{came}
use Rattle.safety_frame.proofs.StableItems.{log_is}
use Rattle.safety_frame.specs.EveryRun.{OfEveryRun}
use Rattle.safety_frame.specs.Replicates.{LogTells}
use Rattle.safety_logs.proofs.Fronts.{begins_next}
use Rattle.safety_frame.proofs.Replicates.{logs_tell}
use Rattle.safety_logs.proofs.Coming.{was_sent}

-- ---- a step of a backup, whose log begins a list in which all stands that it is told to copy

module _ (n : Node ReplicaState) (event : Event) (whole : List Record) where
  abbrev Copies : Type 0
  Copies = (from : NodeId) (local : ℕ) (rec : Record) → Comes n event from (whats.Replicate local rec) → slice_get whole local ≡ Some rec

  stored_within : is_primary n.base.me ≡ false → Copies → (s : Node ReplicaState) (item : Item) (own : ReplicaState) → Stores n event s item own
      → IsPrefix s.own.log whole → IsPrefix own.log whole
  stored_within backup copies s _ _ (appends from first number body comes there low room expected) is =
      let goes = (came n event from (whats.Append first number body) comes).1 in
      absurd (false≢true (sym backup ∙ (and_parts (is_client from) (is_primary n.base.me) goes).1))
  stored_within backup copies s _ _ (copied from rec comes room) is = begins_next s.own.log whole rec is (copies from (length s.own.log) rec comes)
  stored_within backup copies s _ _ (fills from wanted comes there short) is =
      let goes = (came n event from (whats.Fill wanted) comes).1 in
      absurd (false≢true (sym backup ∙ (and_parts (is_sequencer from) (is_primary n.base.me) goes).1))

  changed_within : (s : Node ReplicaState) (own : ReplicaState) → Changes n event s own → IsPrefix s.own.log whole → IsPrefix own.log whole
  changed_within s _ (holds from len comes) is = is
  changed_within s _ (covers before entry learned) is = is
  changed_within s _ (cuts first why) is = is
  changed_within s _ (promises_on durable primary free) is = is

  step_within : is_primary n.base.me ≡ false → Copies → IsPrefix n.own.log whole → IsPrefix (replicas.step n event).state.own.log whole
  step_within backup copies start =
      replicas.walk _ n event
      (unshown_sites (λ (t : Turn ReplicaState). IsPrefix t.state.own.log whole)
      (record {
        starts = start;
        restarts = λ e. start;
        learns = λ t entry why w. w;
        stores = λ t item own why w. stored_within backup copies t.state item own why w;
        changes = λ t own why w. changed_within t.state own why w;
      }))

-- ---- what comes to a backup

primary_of : (from : NodeId) (shard : ℕ) → is_primary from ≡ true → same_shard from (nodes.Shard shard sides.Backup) ≡ true
    → from ≡ nodes.Shard shard sides.Primary
primary_of (nodes.Shard n sides.Primary) shard primary same = ap (λ (k : ℕ). nodes.Shard k sides.Primary) (eqb-true n shard same)
primary_of _ shard primary same = absurd (cc)

module _ (cfg : Config) (valid : IsValidConfig cfg) (shard : ℕ) (e : HistoryEntry) (past : Past) (run : IsPastOf cfg (e ∷ past)) where
  abbrev backup : NodeId
  backup = nodes.Shard shard sides.Backup

  abbrev whole : List Record
  whole = log_at cfg shard sides.Primary past

  copies : (n : Node ReplicaState) → n.base.me ≡ backup → Copies n e.event whole
  copies n me from local rec comes =
      let goes = (came n e.event from (whats.Replicate local rec) comes).1 in
      let parts = and_parts (is_primary from && is_backup n.base.me) (same_shard from n.base.me) goes in
      let primary = (and_parts (is_primary from) (is_backup n.base.me) parts.0).0 in
      let one = primary_of from shard primary (subst (λ node. same_shard from node ≡ true) me parts.1) in
      let was = was_sent n e past from (whats.Replicate local rec) run.0.comes comes in
      let said = logs_tell cfg past valid run.1 was.message was.there in
      subst (λ node. LogTells cfg past node (whats.Replicate local rec)) (was.by ∙ one)
      (subst (LogTells cfg past was.message.from) was.says said)

  own_backup : same_node e.node backup ≡ true → IsPrefix (log_at cfg shard sides.Backup past) whole
      → IsPrefix (log_at cfg shard sides.Backup (e ∷ past)) whole
  own_backup own before =
      let here = subst (IsNodeOf cfg) (same_node_is e.node backup own) run.0.within in
      let n = after replicas cfg backup past in
      let me = (states_named replicas cfg valid past run.1 backup refl here).1 in
      let start = subst (λ l. IsPrefix l whole) (sym (log_is cfg valid past run.1 backup refl here)) before in
      let log = ap (λ s. s.own.log) (sym (own_state replicas cfg backup e past valid run own)) ∙ log_is cfg valid (e ∷ past) run backup refl here in
      subst (λ l. IsPrefix l whole) log (step_within n e.event whole (ap is_primary me) (copies n me) start)

  longer : IsPrefix whole (log_at cfg shard sides.Primary (e ∷ past))
  longer = log_grows cfg shard sides.Primary e past

  next : IsPrefix (log_at cfg shard sides.Backup past) whole → IsPrefix (log_at cfg shard sides.Backup (e ∷ past)) (log_at cfg shard sides.Primary (e ∷ past))
  next before =
      let later = log_at cfg shard sides.Primary (e ∷ past) in
      on_own (same_node e.node backup)
      (λ own. begins_on (log_at cfg shard sides.Backup (e ∷ past)) whole later (own_backup own before) longer)
      (λ other. subst (λ l. IsPrefix (log_by l) later) (sym (other_stored cfg backup e past other))
      (begins_on (log_at cfg shard sides.Backup past) whole later before longer))

pub backup_is_a_prefix : OfEveryRun BackupIsAPrefix
backup_is_a_prefix cfg past valid run =
    every_past cfg (BackupIsAPrefix cfg) (λ shard. ([], refl)) (λ e past run before shard. next cfg valid shard e past run (before shard)) past run
