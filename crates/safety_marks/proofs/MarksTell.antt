-- What every run's marks tell is true: of replicas, since what they take for durable is held, and of consumers.
use Rattle.std.proofs.Common.{◌≡◌, ◌∙◌, ◌⊎◌, ℕ, ◌<◌, ◌≤◌, Bool, true, List, ◌∷◌, length, take, Some, refl, sym, ap, subst, inl, inr, arith, if◌then◌else◌}
use Rattle.std.specs.Prelude.{IsTrue}
use Rattle.std.specs.List.{AllByRecursion, slice_get}
use Rattle.std.proofs.lemmas.Option.{slice_get_within}
use Rattle.fix_ante.specs.declared.spots.Owner.{Owner}
use Rattle.std.proofs.lemmas.List.{length-take-le}
use Rattle.cut_core.specs.Agreements.{Agreement}
use Rattle.cut_core.specs.Map.{map_of, covered_locals}
use Rattle.cut_core.proofs.Dense.{slice_get_index_of}
use Rattle.cut_core.proofs.Parts.{mapped_covered}
use Rattle.msg_wire.specs.Nodes.{is_consumer, is_primary}
use Rattle.msg_wire.specs.Valid.{IsValidConfig, IsNodeOf}
use Rattle.net_model.specs.Pasts.{Past}
use Rattle.node_rules.specs.Nodes.{Node}
use Rattle.node_rules.proofs.Lists.{all_weaken}
use Rattle.shard_node.specs.States.{ReplicaState}
use Rattle.runs.specs.Names.{NodeId, Side, Config, Entry, Record, Mark, HistoryEntry}
use Rattle.runs.specs.Names.nodes
use Rattle.runs.specs.Names.sides
use Rattle.runs.specs.Names.marks
use Rattle.runs.specs.Known.{agreed_after, log_at}
use Rattle.runs.specs.Marks.{IsPrefix}
use Rattle.runs.specs.Runs.{IsPastOf}
use Rattle.runs.proofs.SameNodes.{node_itself}
use Rattle.safety_frame.specs.EveryRun.{OfEveryRun}
use Rattle.safety_frame.proofs.Clauses.{OfMarks, MarksKeep, every_mark}
use Rattle.safety_frame.proofs.Lists.{index_stays}
use Rattle.safety_frame.proofs.Names.{IsNamed, states_named}
use Rattle.safety_frame.proofs.NodeKinds.{after, sequencers, replicas, clients, consumers}
use Rattle.safety_frame.proofs.Pasts.{own_state, of_replica, of_consumer}
use Rattle.safety_frame.proofs.StableItems.{known_is, log_is}
use Rattle.safety_frame.proofs.StableParts.{replica_known}
use Rattle.safety_logs.specs.Counting.{held_log, durable_at}
use Rattle.safety_logs.specs.Held.{IsDurableHeld}
use Rattle.safety_logs.proofs.Fronts.{front_of, index_back}
use Rattle.safety_logs.proofs.Growing.{held_grows}
use Rattle.safety_logs.proofs.DurableLogs.{durable_is_held}
use Rattle.safety_consumers.specs.Owned.{held_logs, IsSettled, MarkIsTrue, ConsumersMarkTells}
use Rattle.safety_consumers.proofs.MarksTell.{consumers_marks_tell}
use Rattle.safety_marks.specs.MarkClauses.{StandsAt, MarkTells, MarksTell}
use Rattle.safety_marks.specs.Shown.{IsOther}
use Rattle.safety_marks.proofs.Others.{IsNoPromise, sequencer_shows, client_shows, consumer_shows}
use Rattle.safety_marks.proofs.ReplicaMarks.{ConfirmsLocal, PromisesLocal, TellsLocal, TellsOf, replica_tells}

-- ---- a replica's local, by what it takes for durable

module _ (cfg : Config) (past : Past) (shard : ℕ) (side : Side) where
  -- up to here its log is the one that counts
  abbrev IsHeldTo : ℕ → Type 0
  IsHeldTo len =
      (len ≤ length (held_log cfg shard past)) × (take len (log_at cfg shard side past) ≡ take len (held_log cfg shard past))

  local_held : (len local : ℕ) (rec : Record) → IsHeldTo len → local < len → slice_get (log_at cfg shard side past) local ≡ Some rec
      → slice_get (held_log cfg shard past) local ≡ Some rec
  local_held len local rec is below at =
      let log = log_at cfg shard side past in
      let held = held_log cfg shard past in
      let long = length-take-le len held is.0 in
      let there = index_back (take len log) log local rec (front_of len log) (omega (arith, below, long, ap length is.1)) at in
      index_stays (take len held) held local rec (front_of len held) (subst (λ (l : List Record). slice_get l local ≡ Some rec) is.1 there)

  module _ (known : List Entry) where
    abbrev a : Agreement
    a = agreed_after cfg known

    confirm_true : (len : ℕ) (position : ℕ) (rec : Record) → IsHeldTo len → covered_locals a shard ≤ len
        → ConfirmsLocal a shard (log_at cfg shard side past) position rec → IsSettled (held_logs cfg past) a position rec
    confirm_true len position rec are covered is =
        let owner : Owner = record { shard = shard; local = is.local } in
        let there = slice_get_index_of a.covered shard is.local position is.place in
        let below = slice_get_within a.covered position owner there in
        let stands = local_held len is.local rec are (omega (arith, is.covered, covered)) is.at in
        record { covered = below; owned = record { owner = owner; there = mapped_covered a position below ∙ there; stands = stands } }

    promise_true : (len : ℕ) (position : ℕ) (rec : Record) → IsHeldTo len
        → PromisesLocal a (nodes.Shard shard side) len (log_at cfg shard side past) position rec → StandsAt cfg past known position rec
    promise_true len position rec are is = record {
      owner = record { shard = shard; local = is.local };
      there = slice_get_index_of (map_of a) shard is.local position is.lease;
      stands = local_held len is.local rec are is.below is.at;
    }

  -- ---- its marks

  module _ (valid : IsValidConfig cfg) (run : IsPastOf cfg past) (here : shard < cfg.shards) (is_held : IsDurableHeld cfg past shard side) where
    abbrev node : NodeId
    node = nodes.Shard shard side

    abbrev s : Node ReplicaState
    s = after replicas cfg node past

    abbrev log : List Record
    log = log_at cfg shard side past

    abbrev durable : ℕ
    durable = durable_at cfg shard side past

    named : IsNamed cfg node s
    named = states_named replicas cfg valid past run node refl here

    covered : covered_locals (agreed_after cfg s.base.known) shard ≤ durable
    covered =
        subst (λ (known : List Entry). covered_locals (agreed_after cfg known) shard ≤ durable)
        (sym (known_is replicas replica_known cfg valid past run node refl here)) is_held.covered

    durable_is : is_primary node ≡ true → s.own.durable ≡ durable
    durable_is primary = sym (ap (λ (b : Bool). if b then s.own.durable else length s.own.log) (ap is_primary named.1 ∙ primary))

    moved : (mark : Mark) → TellsOf s mark → TellsLocal (agreed_after cfg s.base.known) node s.own.durable log mark
    moved mark tells =
        subst (λ (l : List Record). TellsLocal (agreed_after cfg s.base.known) node s.own.durable l mark) (log_is cfg valid past run node refl here)
        (subst (λ (me : NodeId). TellsLocal (agreed_after cfg s.base.known) me s.own.durable s.own.log mark) named.1
        (subst (λ (c : Config). TellsLocal (agreed_after c s.base.known) s.base.me s.own.durable s.own.log mark) named.0 tells))

    told_true : (mark : Mark) → TellsLocal (agreed_after cfg s.base.known) node s.own.durable log mark → MarkTells cfg past s.base.known mark
    told_true (marks.Confirm position rec) is = confirm_true s.base.known durable position rec (is_held.within, is_held.held) covered is
    told_true (marks.Promise position rec) is =
        promise_true s.base.known durable position rec (is_held.within, is_held.held)
        (subst (λ (len : ℕ). PromisesLocal (agreed_after cfg s.base.known) node len log position rec) (durable_is is.primary) is)
    told_true (marks.Apply position rec) is = absurd is
    told_true _ is = tt

    all_told_true : (shown : List Mark) → AllByRecursion (TellsOf s) shown → AllByRecursion (MarkTells cfg past s.base.known) shown
    all_told_true shown tells =
        all_weaken (TellsOf s) (MarkTells cfg past s.base.known) shown (λ mark one. told_true mark (moved mark one)) tells

-- ---- with one entry more

module _ (cfg : Config) where
  other_tells : (past : Past) (known : List Entry) (mark : Mark) → IsOther mark → MarkTells cfg past known mark
  other_tells past known (marks.Confirm position rec) other = absurd other
  other_tells past known (marks.Apply position rec) other = absurd other
  other_tells past known (marks.Promise position rec) other = absurd other
  other_tells past known _ other = tt

  stands_later : IsValidConfig cfg → (e : HistoryEntry) (past : Past) → IsPastOf cfg (e ∷ past) → (known : List Entry) (position : ℕ) (rec : Record) → StandsAt cfg past known position rec
      → StandsAt cfg (e ∷ past) known position rec
  stands_later valid e past run known position rec is = record {
    owner = is.owner;
    there = is.there;
    stands =
        let grows = (held_grows cfg e past is.owner.shard valid run).held in
        index_stays (held_log cfg is.owner.shard past) (held_log cfg is.owner.shard (e ∷ past)) is.owner.local rec grows is.stands;
  }

  tells_later : IsValidConfig cfg → (e : HistoryEntry) (past : Past) → IsPastOf cfg (e ∷ past) → (known : List Entry) (mark : Mark)
      → MarkTells cfg past known mark → MarkTells cfg (e ∷ past) known mark
  tells_later valid e past run known (marks.Confirm position rec) is = record { covered = is.covered; owned = stands_later valid e past run known position rec is.owned }
  tells_later valid e past run known (marks.Apply position rec) is = stands_later valid e past run known position rec is
  tells_later valid e past run known (marks.Promise position rec) is = stands_later valid e past run known position rec is
  tells_later valid e past run known _ is = tt

  -- a mark tells, or it is of a consumer, and no promise
  abbrev Tells : Past → NodeId → List Entry → Mark → Type 0
  Tells past node known mark = MarkTells cfg past known mark ⊎ (IsTrue (is_consumer node) × IsNoPromise mark)

  others_tell : (past : Past) (node : NodeId) (known : List Entry) (shown : List Mark) → AllByRecursion IsOther shown
      → AllByRecursion (Tells past node known) shown
  others_tell past node known shown others = all_weaken IsOther (Tells past node known) shown (λ mark other. inl (other_tells past known mark other)) others

  module _ (valid : IsValidConfig cfg) where
    replicas_tell : MarksKeep cfg valid replicas Tells
    replicas_tell e past run one before =
        let now : Past = e ∷ past in
        let n : Node ReplicaState = after replicas cfg e.node past in
        let next : Node ReplicaState = (replicas.step n e.event).state in
        let shown : List Mark = (replicas.step n e.event).marks in
        let same : after replicas cfg e.node now ≡ next = own_state replicas cfg e.node e past valid run (node_itself e.node) in
        let tells : AllByRecursion (TellsOf (after replicas cfg e.node now)) shown =
        subst (λ (s : Node ReplicaState). AllByRecursion (TellsOf s) shown) (sym same) (replica_tells n e.event) in
        let are =
        of_replica
        (λ node. IsNodeOf cfg node → AllByRecursion (TellsOf (after replicas cfg node now)) shown
        → AllByRecursion (MarkTells cfg now (after replicas cfg node now).base.known) shown)
        (λ shard side here. all_told_true cfg now shard side valid run here (durable_is_held cfg now valid run shard side here) shown) e.node one
        run.0.within tells in
        all_weaken (MarkTells cfg now next.base.known) (Tells now e.node next.base.known) shown (λ mark tell. inl tell)
        (subst (λ (s : Node ReplicaState). AllByRecursion (MarkTells cfg now s.base.known) shown) same are)

    -- of the other kinds of node
    sequencers_tell : MarksKeep cfg valid sequencers Tells
    sequencers_tell e past run one before =
        let t = sequencers.step (after sequencers cfg e.node past) e.event in
        others_tell (e ∷ past) e.node t.state.base.known t.marks (sequencer_shows (after sequencers cfg e.node past) e.event)

    clients_tell : MarksKeep cfg valid clients Tells
    clients_tell e past run one before =
        let t = clients.step (after clients cfg e.node past) e.event in
        others_tell (e ∷ past) e.node t.state.base.known t.marks (client_shows (after clients cfg e.node past) e.event)

    consumers_tell : MarksKeep cfg valid consumers Tells
    consumers_tell e past run one before =
        let t = consumers.step (after consumers cfg e.node past) e.event in
        all_weaken IsNoPromise (Tells (e ∷ past) e.node t.state.base.known) t.marks (λ mark none. inr (one, none))
        (consumer_shows (after consumers cfg e.node past) e.event)

    all_tell : (past : Past) → IsPastOf cfg past → OfMarks cfg valid Tells past
    all_tell =
        every_mark cfg valid Tells
        (record {
          stays = λ e past x run there is. elim is [ inl tells ↦ inl (tells_later valid e past run x.known x.mark tells) | inr one ↦ inr one ];
          at_sequencers = sequencers_tell;
          at_replicas = replicas_tell;
          at_clients = clients_tell;
          at_consumers = consumers_tell;
        })

-- ---- of every run

consumer_tells : (cfg : Config) (past : Past) (known : List Entry) (mark : Mark) → IsNoPromise mark
    → MarkIsTrue (held_logs cfg past) (agreed_after cfg known) mark → MarkTells cfg past known mark
consumer_tells cfg past known (marks.Promise position rec) none is = absurd none
consumer_tells cfg past known (marks.Apply position rec) none is = is
consumer_tells cfg past known (marks.Confirm position rec) none is = is
consumer_tells cfg past known _ none is = tt

pub marks_tell : OfEveryRun MarksTell
marks_tell cfg past valid run told there =
    elim (all_tell cfg valid past run told there) [
      | inl tells ↦ tells
      | inr one ↦
          of_consumer (λ node. ConsumersMarkTells cfg past node told.known told.mark → MarkTells cfg past told.known told.mark)
          (λ number. consumer_tells cfg past told.known told.mark one.1) told.node one.0 (consumers_marks_tell cfg past valid run told there)
    ]
