-- Of every run: what a replica takes for durable both have, so that its log is there the one that counts.
use Rattle.std.proofs.Common.{◌≡◌, ◌∙◌, ℕ, ◌<◌, ◌≤◌, ◌==◌, ◌&&◌, Bool, true, false, ◌∷◌, length, take, refl, sym, ap, subst, arith}
use Rattle.std.specs.Prelude.{IsTrue, if◌then◌else◌}
use Rattle.std.specs.List.{AllByRecursion}
use Rattle.std.proofs.lemmas.Bool.{and_parts, eqb-true, true≢false}
use Rattle.cut_core.specs.Map.{covered_locals}
use Rattle.msg_wire.specs.Heeded.{goes_between}
use Rattle.msg_wire.specs.Nodes.{is_primary, is_backup, is_replica, number_of, same_shard}
use Rattle.msg_wire.specs.Valid.{IsValidConfig}
use Rattle.net_model.specs.Pasts.{Past}
use Rattle.node_rules.specs.Nodes.{Node}
use Rattle.node_rules.proofs.Lists.{on_test}
use Rattle.shard_node.specs.States.{ReplicaState}
use Rattle.runs.specs.Names.{NodeId, Side, Config, Message, HistoryEntry}
use Rattle.runs.specs.Names.nodes
use Rattle.runs.specs.Names.sides
use Rattle.runs.specs.Names.whats
use Rattle.runs.specs.Runs.{IsPastOf}
use Rattle.runs.specs.Known.{known_at, agreed_at, agreed_after, log_at}
use Rattle.runs.specs.Marks.{IsPrefix, known_by, log_by}
use Rattle.runs.proofs.SameNodes.{node_itself}
use Rattle.safety_frame.specs.EveryRun.{OfEveryRun}
use Rattle.safety_frame.proofs.Going.{came}
use Rattle.safety_frame.proofs.Inductions.{OfStates, every_state}
use Rattle.safety_frame.proofs.Lists.{begins_itself, length_stays}
use Rattle.safety_frame.proofs.Names.{states_named}
use Rattle.safety_frame.proofs.NodeKinds.{after, stored, replicas}
use Rattle.safety_frame.proofs.Pasts.{own_state, log_grows, of_replica}
use Rattle.safety_frame.proofs.StableItems.{known_is, log_is}
use Rattle.safety_frame.proofs.StableParts.{replica_known}
use Rattle.safety_logs.specs.Counting.{AreCommon, durable_at}
use Rattle.safety_logs.specs.Held.{DurableIsHeld}
use Rattle.safety_logs.specs.LogClauses.{ReplicatedIsCommon}
use Rattle.safety_logs.proofs.AgreedLists.{taken_front}
use Rattle.safety_logs.proofs.Backups.{backup_is_a_prefix}
use Rattle.safety_logs.proofs.Coming.{was_sent}
use Rattle.safety_logs.proofs.CoveredLogs.{known_counts, covered_is_held}
use Rattle.safety_logs.proofs.Durables.{IsWithin, Limits, step_within}
use Rattle.safety_logs.proofs.Fronts.{no_longer}
use Rattle.safety_logs.proofs.Growing.{common_of, reach_of}
use Rattle.safety_logs.proofs.Primaries.{covered_is_durable}
use Rattle.safety_logs.proofs.Told.{replicateds_are_common}

-- how much the backup of a replica's shard has
abbrev pub backup_length : Config → NodeId → Past → ℕ
backup_length cfg node past = length (log_at cfg (number_of node) sides.Backup past)

-- what comes to a replica of its backup's length is so
told_length : (cfg : Config) (past : Past) (from me : NodeId) (len : ℕ) → goes_between (whats.Replicated len) from me ≡ true
    → ReplicatedIsCommon cfg past from (whats.Replicated len) → len ≤ backup_length cfg me past
told_length cfg past (nodes.Shard shard side) me len goes are =
    let from : NodeId = nodes.Shard shard side in
    let parts = and_parts (is_backup from && is_primary me) (same_shard from me) goes in
    let same = and_parts (is_replica from && is_replica me) (shard == number_of me) parts.1 in
    subst (λ (s : ℕ). len ≤ length (log_at cfg s sides.Backup past)) (eqb-true shard (number_of me) same.1) (reach_of cfg past shard len are).backup
told_length cfg past _ me len goes are = absurd (cc)

module _ (cfg : Config) (valid : IsValidConfig cfg) where
  module _ (e : HistoryEntry) (past : Past) (run : IsPastOf cfg (e ∷ past)) (one : IsTrue (is_replica e.node)) where
    abbrev now : Past
    now = e ∷ past

    abbrev n : Node ReplicaState
    n = after replicas cfg e.node past

    abbrev left : Node ReplicaState
    left = (replicas.step n e.event).state

    left_known : left.base.known ≡ known_at cfg e.node now
    left_known =
        ap (λ s. s.base.known) (sym (own_state replicas cfg e.node e past valid run (node_itself e.node)))
        ∙ (known_is replicas replica_known cfg valid now run e.node one run.0.within
        ∙ of_replica (λ node. known_by (stored replicas cfg node now) ≡ known_at cfg node now) (λ k side. refl) e.node one)

    left_log : (shard : ℕ) (side : Side) → e.node ≡ nodes.Shard shard side → left.own.log ≡ log_at cfg shard side now
    left_log shard side same =
        ap (λ s. s.own.log) (sym (own_state replicas cfg e.node e past valid run (node_itself e.node)))
        ∙ (log_is cfg valid now run e.node one run.0.within ∙ ap (λ node. log_by (stored replicas cfg node now)) same)

    limits : Limits n e.event left.base.known left.own.log (backup_length cfg e.node now)
    limits =
        let named = states_named replicas cfg valid past run.1 e.node one run.0.within in
        record {
          covered = λ before begins.
              subst (λ (c : Config). covered_locals (agreed_after c before) (number_of n.base.me) ≤ backup_length cfg e.node now) (sym named.0)
              (subst (λ (me : NodeId). covered_locals (agreed_after cfg before) (number_of me) ≤ backup_length cfg e.node now) (sym named.1)
              (let within = known_counts cfg valid now run before (e.node, subst (IsPrefix before) left_known begins) (number_of e.node) in
              omega (arith, within)));
          told = λ from len comes.
              let was = was_sent n e past from (whats.Replicated len) run.0.comes comes in
              let said =
              subst (λ node. ReplicatedIsCommon cfg past node (whats.Replicated len)) was.by
              (subst (ReplicatedIsCommon cfg past was.message.from) was.says (replicateds_are_common cfg past valid run.1 was.message was.there)) in
              let within =
              subst (λ (me : NodeId). len ≤ backup_length cfg me past) named.1
              (told_length cfg past from n.base.me len (came n e.event from (whats.Replicated len) comes).1 said) in
              length_stays (log_at cfg (number_of e.node) sides.Backup past) (log_at cfg (number_of e.node) sides.Backup now) len
              (log_grows cfg (number_of e.node) sides.Backup e past) within;
          backup = λ backup. of_backup e.node refl one (ap is_primary (sym named.1) ∙ backup);
        }
      where
        of_backup : (node : NodeId) → e.node ≡ node → IsTrue (is_replica node) → is_primary node ≡ false → length left.own.log ≤ backup_length cfg node now
        of_backup (nodes.Shard shard sides.Backup) same replica backup = omega (arith, ap length (left_log shard sides.Backup same))
        of_backup _ same replica backup = absurd (cc)

    pub step_durable : n.own.durable ≤ backup_length cfg e.node past
        → (left.own.durable ≤ backup_length cfg e.node now)
        × AllByRecursion (λ (m : Message). IsWithin (backup_length cfg e.node now) m.what) (replicas.step n e.event).sends
    step_durable before =
        let grown = no_longer (log_at cfg (number_of e.node) sides.Backup past) (log_at cfg (number_of e.node) sides.Backup now)
        (log_grows cfg (number_of e.node) sides.Backup e past) in
        step_within n e.event left.base.known left.own.log (backup_length cfg e.node now) limits (omega (arith, before, grown))
        (begins_itself left.base.known) (begins_itself left.own.log)

  pub all_durable : (past : Past) → IsPastOf cfg past → OfStates replicas cfg valid (λ past node n. n.own.durable ≤ backup_length cfg node past) past
  all_durable =
      every_state replicas cfg valid (λ past node n. n.own.durable ≤ backup_length cfg node past)
      (record {
        starts = λ node one here. omega arith;
        steps = λ e past run one before. (step_durable e past run one (before e.node one run.0.within)).0;
        stays = λ e past node n run other before.
            let grown = no_longer (log_at cfg (number_of node) sides.Backup past) (log_at cfg (number_of node) sides.Backup (e ∷ past))
            (log_grows cfg (number_of node) sides.Backup e past) in
            omega (arith, before, grown);
      })

-- ---- what is durable

module _ (cfg : Config) (valid : IsValidConfig cfg) (past : Past) (run : IsPastOf cfg past) (shard : ℕ) (here : shard < cfg.shards) where
  -- a backup's log is durable whole
  backup_durable : durable_at cfg shard sides.Backup past ≡ length (log_at cfg shard sides.Backup past)
  backup_durable =
      let node : NodeId = nodes.Shard shard sides.Backup in
      let n = after replicas cfg node past in
      ap (λ (b : Bool). if b then n.own.durable else length n.own.log) (ap is_primary (states_named replicas cfg valid past run node refl here).1)
      ∙ ap length (log_is cfg valid past run node refl here)

  durable_upto : (side : Side) → durable_at cfg shard side past ≤ length (log_at cfg shard sides.Backup past)
  durable_upto sides.Primary =
      let node : NodeId = nodes.Shard shard sides.Primary in
      let n = after replicas cfg node past in
      on_test (λ (k : ℕ). k ≤ length (log_at cfg shard sides.Backup past)) (is_primary n.base.me) n.own.durable (length n.own.log)
      (λ _. all_durable cfg valid past run node refl here)
      (λ backup. absurd (true≢false (sym (ap is_primary (states_named replicas cfg valid past run node refl here).1) ∙ backup)))
  durable_upto sides.Backup = omega (arith, backup_durable)

  covered_durable : (side : Side) → covered_locals (agreed_at cfg (nodes.Shard shard side) past) shard ≤ durable_at cfg shard side past
  covered_durable sides.Primary = covered_is_durable cfg past valid run shard here
  covered_durable sides.Backup = omega (arith, backup_durable, (covered_is_held cfg past valid run (nodes.Shard shard sides.Backup) shard).backup)

-- the logs of both begin with what is common
log_front : (cfg : Config) (past : Past) (shard len : ℕ) (side : Side) (are : AreCommon cfg past shard len) → take len (log_at cfg shard side past) ≡ are.front
log_front cfg past shard len sides.Primary are =
    subst (λ (k : ℕ). take k (log_at cfg shard sides.Primary past) ≡ are.front) are.long (taken_front are.front (log_at cfg shard sides.Primary past) are.primary)
log_front cfg past shard len sides.Backup are =
    subst (λ (k : ℕ). take k (log_at cfg shard sides.Backup past) ≡ are.front) are.long (taken_front are.front (log_at cfg shard sides.Backup past) are.backup)

pub durable_is_held : OfEveryRun DurableIsHeld
durable_is_held cfg past valid run shard side here =
    let len = durable_at cfg shard side past in
    let are = common_of cfg past shard len (backup_is_a_prefix cfg past valid run) (durable_upto cfg valid past run shard here side) in
    record {
      covered = covered_durable cfg valid past run shard here side;
      common = are;
      within = (reach_of cfg past shard len are).backup;
      held = log_front cfg past shard len side are ∙ sym (log_front cfg past shard len sides.Backup are);
    }
