-- Of every run: each promise since a primary's last restart was shown at the position where its local is leased now.
use Rattle.std.proofs.Common.{◌≡◌, ◌⊎◌, ◌∙◌, ℕ, ◌<◌, ◌≤◌, true, false, ◌∷◌, length, Some, Contains, refl, sym, ap, subst, inl, inr, arith}
use Rattle.std.proofs.lemmas.Bool.{cases_Bool, cases_lt}
use Rattle.cut_core.specs.Agreements.{Agreement}
use Rattle.cut_core.specs.Map.{leased, covered_locals}
use Rattle.consumer_node.proofs.Applied.{some_at}
use Rattle.msg_wire.specs.Nodes.{is_primary, number_of, same_node}
use Rattle.msg_wire.specs.Valid.{IsValidConfig}
use Rattle.net_model.specs.Pasts.{Past, SinceRestart, is_restart, is_restart_of}
use Rattle.node_rules.specs.Nodes.{Node, Base, agreed_by}
use Rattle.node_rules.specs.Turns.{Turn, started, own_of, agreed}
use Rattle.shard_node.specs.States.{ReplicaState, log_of}
use Rattle.shard_node.specs.Promises.{promise_all}
use Rattle.shard_node.specs.Steps.{handle, replica_step}
use Rattle.runs.specs.Names.{NodeId, Config, Record, Event, HistoryEntry}
use Rattle.runs.specs.Names.sides
use Rattle.runs.specs.Names.events
use Rattle.runs.specs.Names.marks
use Rattle.runs.specs.Runs.{IsPastOf}
use Rattle.runs.specs.Kinds.{step_at}
use Rattle.runs.specs.Known.{agreed_at, agreed_after}
use Rattle.runs.specs.Marks.{known_by}
use Rattle.runs.specs.Eagerness.{Promises, WasCovered}
use Rattle.runs.proofs.SameNodes.{same_node_is}
use Rattle.safety_frame.proofs.NodeKinds.{after, replicas}
use Rattle.safety_frame.proofs.Inductions.{every_past}
use Rattle.safety_frame.proofs.Pasts.{own_state, other_state, other_stored, on_own}
use Rattle.safety_frame.proofs.StableItems.{log_is}
use Rattle.safety_frame.specs.EveryRun.{OfEveryRun}
use Rattle.safety_logs.specs.Counting.{durable_at}
use Rattle.safety_logs.proofs.DurableLogs.{durable_is_held}
use Rattle.safety_logs.proofs.Growing.{reach_of}
use Rattle.safety_logs.proofs.Leases.{leases}
use Rattle.safety_logs.proofs.LeasedPromises.{promised_is_leased}
use Rattle.safety_logs.proofs.Primaries.{promised_is_durable}
use Rattle.safety_consumers.specs.Eager.{primary_of, agreed_of, primary_after, PromisedIsMarked}
use Rattle.safety_consumers.proofs.PromisedRules.{Has}
use Rattle.safety_consumers.proofs.PromisedEnds.{UptoDurable, promised_on}
use Rattle.safety_consumers.proofs.PromisedLearned.{IsOld, handled_old}
use Rattle.safety_consumers.proofs.PromisedStates.{name_is, agreed_is, base_is, of_shard, of_state, covers}
use Rattle.safety_consumers.proofs.EagerRestarts.{others_restart, own_restart, restart_now, restart_before, since_before, since_now}

-- ---- a step

restart_promises : (n : Node ReplicaState) (event : Event) → is_restart event ≡ true
    → (replica_step n event).state.own.promised
    ≡ covered_locals (agreed_by (replica_step n event).state.base) (number_of (replica_step n event).state.base.me)
restart_promises n events.Restart is = refl
restart_promises n _ is = absurd (cc)

by_event : (P : Turn ReplicaState → Type 0) (n : Node ReplicaState) (event : Event) → is_restart event ≡ false → P (promise_all (handle event (started n)))
    → P (replica_step n event)
by_event P n events.Restart up w = absurd (cc)
by_event P n _ up w = w

-- a promise was made before, at the same position, or is shown in this step
abbrev OldOrShown : Node ReplicaState → Turn ReplicaState → ℕ → ℕ → Type 0
OldOrShown n u local position =
    ((local < n.own.promised) × (leased (agreed_by n.base) (number_of n.base.me) local ≡ Some position))
    ⊎ ((rec : Record) × Contains u.marks (marks.Promise position rec))

-- of what is promised and recorded after a step
abbrev Accounted : Node ReplicaState → Turn ReplicaState → Type 0
Accounted n u =
    (local position : ℕ) → local < (own_of u).promised → local < length (log_of u)
    → leased (agreed u) (number_of n.base.me) local ≡ Some position → OldOrShown n u local position

module _ (n : Node ReplicaState) (t : Turn ReplicaState) (primary : is_primary n.base.me ≡ true) (old : Has (IsOld n) t.state) where
  accounted : Accounted n (promise_all t)
  accounted local position below there lease =
      let u : Turn ReplicaState = promise_all t in
      let on : UptoDurable t u = promised_on t (ap is_primary old.0 ∙ primary) in
      let here : leased (agreed t) (number_of n.base.me) local ≡ Some position =
      subst (λ (b : Base). leased (agreed_by b) (number_of n.base.me) local ≡ Some position) on.base lease in
      elim (cases_lt local (own_of t).promised) [
        | inl before ↦ inl (old.1 local position before here)
        | inr later ↦
            let rec = some_at (log_of t) local (omega (arith, there, ap length on.log)) in
            inr (rec.0, on.shows local position rec.0 later below (ap (λ (x : NodeId). leased (agreed t) (number_of x) local) old.0 ∙ here) rec.1)
      ]

-- ---- the primary of a shard

module _ (cfg : Config) (valid : IsValidConfig cfg) (shard : ℕ) (here : shard < cfg.shards) where
  abbrev pub node : NodeId
  node = primary_of shard

  -- what becomes of a local's promise at a position
  abbrev pub IsAccounted : Past → ℕ → ℕ → Type 0
  IsAccounted past local position = WasCovered cfg shard local past ⊎ SinceRestart node (Promises node position) past

  abbrev pub AreMarked : Past → Type 0
  AreMarked past =
      (local position : ℕ) → local < (primary_after cfg shard past).promised → leased (agreed_of cfg shard past) shard local ≡ Some position
      → IsAccounted past local position

  -- it stays so while the node doesn't restart
  stays : (e : HistoryEntry) (past : Past) (local position : ℕ) → is_restart_of node e ≡ false → IsAccounted past local position
      → IsAccounted (e ∷ past) local position
  stays e past local position up (inl covered) =
      inl (subst (λ (at : Past). local < covered_locals (agreed_at cfg node at) shard) (sym (restart_before node e past up)) covered)
  stays e past local position up (inr since) = inr (since_before node e past (Promises node position) up since)

  module _ (e : HistoryEntry) (past : Past) (run : IsPastOf cfg (e ∷ past)) (before : AreMarked past) where
    abbrev n : Node ReplicaState
    n = after replicas cfg node past

    abbrev later : Node ReplicaState
    later = after replicas cfg node (e ∷ past)

    -- another node's entry
    others_marked : same_node e.node node ≡ false → AreMarked (e ∷ past)
    others_marked other local position below lease =
        let same : later ≡ n = other_state replicas cfg node e past other in
        let agree : agreed_of cfg shard (e ∷ past) ≡ agreed_of cfg shard past = ap (λ l. agreed_after cfg (known_by l)) (other_stored cfg node e past other) in
        stays e past local position (others_restart node e other)
        (before local position (omega (arith, below, ap (λ (s : Node ReplicaState). s.own.promised) same))
        (subst (λ (a : Agreement). leased a shard local ≡ Some position) agree lease))

    module _ (own : same_node e.node node ≡ true) where
      abbrev u : Turn ReplicaState
      u = replica_step n e.event

      left : later ≡ u.state
      left = own_state replicas cfg node e past valid run own

      shows : e.marks ≡ u.marks
      shows = run.0.shows ∙ ap (λ (x : NodeId). (step_at cfg x past e.event).marks) (same_node_is e.node node own)

      -- a restart
      restart_marked : is_restart e.event ≡ true → AreMarked (e ∷ past)
      restart_marked is local position below lease =
          let promised : later.own.promised ≡ covered_locals (agreed_by later.base) (number_of later.base.me) =
          subst (λ (s : Node ReplicaState). s.own.promised ≡ covered_locals (agreed_by s.base) (number_of s.base.me)) (sym left)
          (restart_promises n e.event is) in
          let covered : local < covered_locals (agreed_of cfg shard (e ∷ past)) shard =
          of_shard cfg valid shard here (e ∷ past) run (λ a s. local < covered_locals a s) (omega (arith, below, promised)) in
          let now = restart_now node e past (own_restart node e own ∙ is) in
          inl (subst (λ (at : Past). local < covered_locals (agreed_at cfg node at) shard) (sym now) covered)

      -- any other step
      old : Has (IsOld n) (handle e.event (started n)).state
      old =
          handled_old n e.event run.0.valid (base_is cfg valid shard here past run.1)
          (of_state cfg valid shard here past run.1 (λ a s. n.own.promised ≤ leases a s) (promised_is_leased cfg past valid run.1 shard sides.Primary here refl))
          (of_state cfg valid shard here past run.1 (λ a s. covered_locals a s ≤ n.own.promised) (covers cfg valid shard here past run.1))

      account : is_restart e.event ≡ false → Accounted n u
      account up =
          by_event (Accounted n) n e.event up
          (accounted n (handle e.event (started n)) (ap is_primary (name_is cfg valid shard here past run.1)) old)

      -- its log has what is promised
      reaches : (local : ℕ) → local < later.own.promised → local < length later.own.log
      reaches local below =
          let held = (durable_is_held cfg (e ∷ past) valid run shard sides.Primary here).common in
          omega (
            arith,
            below,
            promised_is_durable cfg (e ∷ past) valid run shard sides.Primary here refl,
            (reach_of cfg (e ∷ past) shard (durable_at cfg shard sides.Primary (e ∷ past)) held).primary,
            ap length (log_is cfg valid (e ∷ past) run node refl here),
          )

      step_marked : is_restart e.event ≡ false → AreMarked (e ∷ past)
      step_marked up local position below lease =
          let not_restart : is_restart_of node e ≡ false = own_restart node e own ∙ up in
          let promised = ap (λ (s : Node ReplicaState). s.own.promised) left in
          let log = ap (λ (s : Node ReplicaState). length s.own.log) left in
          let here_is : leased (agreed u) (number_of n.base.me) local ≡ Some position =
          subst (λ (x : NodeId). leased (agreed u) (number_of x) local ≡ Some position) (sym (name_is cfg valid shard here past run.1))
          (subst (λ (s : Node ReplicaState). leased (agreed_by s.base) shard local ≡ Some position) left
          (subst (λ (a : Agreement). leased a shard local ≡ Some position) (sym (agreed_is cfg valid shard here (e ∷ past) run)) lease)) in
          elim (account up local position (omega (arith, below, promised)) (omega (arith, reaches local below, log)) here_is) [
            | inl earlier ↦
                stays e past local position not_restart
                (before local position earlier.0
                (of_shard cfg valid shard here past run.1 (λ a s. leased a s local ≡ Some position) earlier.1))
            | inr now ↦
                inr (since_now node e past (Promises node position) not_restart
                (same_node_is e.node node own, now.0, subst (λ ms. Contains ms (marks.Promise position now.0)) (sym shows) now.1))
          ]

      own_marked : AreMarked (e ∷ past)
      own_marked = elim (cases_Bool (is_restart e.event)) [
        | inl is ↦ restart_marked is
        | inr up ↦ step_marked up
      ]

    next_marked : AreMarked (e ∷ past)
    next_marked = on_own (same_node e.node node) own_marked others_marked

  pub all_marked : (past : Past) → IsPastOf cfg past → AreMarked past
  all_marked = every_past cfg AreMarked (λ local position below lease. absurd (omega (arith, below))) (λ e past run before. next_marked e past run before)

pub promised_is_marked : OfEveryRun PromisedIsMarked
promised_is_marked cfg past valid run shard here = all_marked cfg valid shard here past run
