-- A log's records of a client are of a home of the client and run on from its first number there: an Append is taken as the expected number alone.
use Rattle.std.proofs.Common.{◌≡◌, ◌∙◌, ℕ, ◌==◌, ◌&&◌, true, List, [], ◌∷◌, ◌++◌, length, Option, Some, None, Contains, refl, sym, ap, subst, inl, inr}
use Rattle.std.specs.List.{AllByRecursion, slice_get}
use Rattle.std.proofs.lemmas.Bool.{false≢true, and_parts, cases_Bool, eqb-true}
use Rattle.msg_wire.specs.Nodes.{is_client, is_primary, is_backup, number_of, same_node, same_shard}
use Rattle.msg_wire.specs.Valid.{IsValidConfig, IsNodeOf}
use Rattle.net_model.specs.Pasts.{Past}
use Rattle.node_rules.specs.Nodes.{Node}
use Rattle.node_rules.proofs.Lists.{all_replicate, all_at}
use Rattle.node_rules.specs.Turns.{Turn}
use Rattle.node_rules.proofs.Places.{Comes, unshown_sites}
use Rattle.shard_log.specs.ShardLog.{expected_of}
use Rattle.shard_node.specs.States.{ReplicaState}
use Rattle.shard_node.proofs.Places.{Stores, appends, copied, fills, Changes, holds, covers, cuts, promises_on}
use Rattle.runs.specs.Names.{NodeId, Side, Config, Record, Item, HistoryEntry}
use Rattle.runs.specs.Names.nodes
use Rattle.runs.specs.Names.sides
use Rattle.runs.specs.Names.records
use Rattle.runs.specs.Names.whats
use Rattle.runs.specs.Runs.{IsPastOf}
use Rattle.runs.specs.Known.{log_at, held_log}
use Rattle.runs.specs.Marks.{IsPrefix, log_by, number_of_client, numbers_of_client}
use Rattle.runs.specs.Homes.{Home, homes_at}
use Rattle.runs.proofs.SameNodes.{same_node_is}
use Rattle.safety_frame.specs.EveryRun.{OfEveryRun}
use Rattle.safety_frame.proofs.NodeKinds.{after, replicas}
use Rattle.safety_frame.proofs.Pasts.{own_state, other_stored, on_own}
use Rattle.safety_frame.proofs.Inductions.{every_past}
use Rattle.safety_frame.proofs.Growth.{homes_grow}
use Rattle.safety_frame.proofs.Lists.{index_stays, member_stays}
use Rattle.safety_frame.proofs.Names.{states_named}
use Rattle.safety_frame.proofs.Going.{came}
use Rattle.safety_frame.proofs.StableItems.{log_is}
use Rattle.safety_logs.proofs.AgreedLists.{taken_front}
use Rattle.safety_logs.proofs.Backups.{backup_is_a_prefix}
use Rattle.safety_clients.specs.Homes.{bodies_at}
use Rattle.safety_clients.specs.Records.{RunFrom, AreOfAHome, RecordsAreOfAHome}
use Rattle.safety_clients.specs.Telling.{IsAppended}
use Rattle.safety_clients.proofs.Chains.{nothing_at, at_or_end, at_or_more}
use Rattle.safety_clients.proofs.Homes.{same_first}
use Rattle.safety_clients.proofs.Runs.{run_none, run_push, run_front, none_in_front, numbers_others, other_owner, own_number}
use Rattle.safety_clients.proofs.Telling.{bodies_grow, appended_there}
use Rattle.safety_clients.proofs.Turns.{was_sent_to, client_named}

some_none : (number : ℕ) → ◌≡◌ {A = Option ℕ} (Some number) None → ⊥
some_none number e = cc

-- ---- more records

module _ (homes : List Home) (bodies : List (List ℕ)) (client shard : ℕ) (log : List Record) where
  -- records of others leave a client's
  push_others : (more : List Record) → AllByRecursion (λ rec. number_of_client client rec ≡ None) more → AreOfAHome homes bodies client shard log
      → AreOfAHome homes bodies client shard (log ++ more)
  push_others more others are =
      let same = numbers_others client log more others in
      record {
        of_home = elim are.of_home [
          | inl none ↦ inl (same ∙ none)
          | inr run ↦ inr (run.0, run.1, subst (RunFrom run.0) (sym same) run.2)
        ];
        submitted = λ local number body at. elim (at_or_more log more local (records.Data client number body) at) [
          | inl old ↦ are.submitted local number body old
          | inr new ↦
              let none = all_at (λ rec. number_of_client client rec ≡ None) more new.0 (records.Data client number body) others new.1 in
              absurd (some_none number (sym (own_number client number body) ∙ none))
        ];
      }

  -- and one of the client's has the number that is expected
  push_own : (first number : ℕ) (body : List ℕ) → number ≡ expected_of client first log → IsAppended homes bodies shard first number body
      → ((other : ℕ) → Contains homes (record { shard = shard; first = other }) → first ≡ other) → AreOfAHome homes bodies client shard log
      → AreOfAHome homes bodies client shard (log ++ records.Data client number body ∷ [])
  push_own first number body expected told one are = record {
    of_home = elim are.of_home [
      | inl none ↦
          inr (first, told.home, run_push client first client first number body log expected (run_none first (numbers_of_client client log) none) (λ _ _. refl))
      | inr run ↦ inr (run.0, run.1, run_push client run.0 client first number body log expected run.2 (λ _ _. one run.0 run.1))
    ];
    submitted = λ local k text at. elim (at_or_end log (records.Data client number body) (records.Data client k text) local at) [
      | inl old ↦ are.submitted local k text old
      | inr new ↦
          let same : records.Data client number body ≡ records.Data client k text = new.1 in
          let numbers : number ≡ k = cc in
          let texts : body ≡ text = cc in
          subst (λ i. slice_get bodies i ≡ Some text) numbers (subst (λ t. slice_get bodies number ≡ Some t) texts told.submitted)
    ];
  }

are_front : (homes : List Home) (bodies : List (List ℕ)) (client shard : ℕ) (front log : List Record) → IsPrefix front log
    → AreOfAHome homes bodies client shard log → AreOfAHome homes bodies client shard front
are_front homes bodies client shard front log p are = record {
  of_home = elim are.of_home [
    | inl none ↦ inl (none_in_front client front log p none)
    | inr run ↦ inr (
      run.0,
      run.1,
      subst (λ l. RunFrom run.0 (numbers_of_client client l)) (taken_front front log p) (run_front client run.0 (length front) log run.2),
    )
  ];
  submitted = λ local number body at. are.submitted local number body (index_stays front log local (records.Data client number body) p at);
}

are_still : (homes more : List Home) (bodies longer : List (List ℕ)) (client shard : ℕ) (log : List Record) → IsPrefix homes more → IsPrefix bodies longer
    → AreOfAHome homes bodies client shard log → AreOfAHome more longer client shard log
are_still homes more bodies longer client shard log p q are = record {
  of_home = elim are.of_home [
    | inl none ↦ inl none
    | inr run ↦ inr (run.0, member_stays homes more (record { shard = shard; first = run.0 }) p run.1, run.2)
  ];
  submitted = λ local number body at. index_stays bodies longer number body q (are.submitted local number body at);
}

-- ---- a primary's step

module _ (cfg : Config) (valid : IsValidConfig cfg) (shard : ℕ) (e : HistoryEntry) (past : Past) (run : IsPastOf cfg (e ∷ past))
    (own : same_node e.node (nodes.Shard shard sides.Primary) ≡ true) where
  abbrev primary : NodeId
  primary = nodes.Shard shard sides.Primary

  abbrev n : Node ReplicaState
  n = after replicas cfg primary past

  here : IsNodeOf cfg primary
  here = subst (IsNodeOf cfg) (same_node_is e.node primary own) run.0.within

  me : n.base.me ≡ primary
  me = (states_named replicas cfg valid past run.1 primary refl here).1

  abbrev Are : List Record → Type 0
  Are log = (client : ℕ) → AreOfAHome (homes_at cfg client past) (bodies_at cfg client past) client shard log

  appended_now : (from : NodeId) (first number : ℕ) (body : List ℕ) → Comes n e.event from (whats.Append first number body)
      → IsAppended (homes_at cfg (number_of from) past) (bodies_at cfg (number_of from) past) shard first number body
  appended_now from first number body comes =
      let goes = (came n e.event from (whats.Append first number body) comes).1 in
      let client = client_named from (and_parts (is_client from) (is_primary n.base.me) goes).0 in
      let told = was_sent_to n e past from (whats.Append first number body) run.0.comes comes in
      appended_there cfg valid past run.1 (number_of from) shard first number body told.message told.there (told.by ∙ client) sides.Primary
      (told.to_it ∙ same_node_is e.node primary own) told.says

  taken : (from : NodeId) (first number : ℕ) (body : List ℕ) (log : List Record) → Comes n e.event from (whats.Append first number body)
      → number ≡ expected_of (number_of from) first log
      → Are log → Are (log ++ records.Data (number_of from) number body ∷ [])
  taken from first number body log comes expected are client =
      let owner = number_of from in
      let told = appended_now from first number body comes in
      elim (cases_Bool (owner == client)) [
        | inl same ↦
            subst (λ c. AreOfAHome (homes_at cfg c past) (bodies_at cfg c past) c shard (log ++ records.Data owner number body ∷ []))
            (eqb-true owner client same)
            (push_own (homes_at cfg owner past) (bodies_at cfg owner past) owner shard log first number body expected told
            (λ other there. same_first cfg valid past run.1 owner (record { shard = shard; first = first }) (record { shard = shard; first = other })
            told.home there refl) (are owner))
        | inr other ↦
            push_others (homes_at cfg client past) (bodies_at cfg client past) client shard log (records.Data owner number body ∷ [])
            (other_owner client owner number body other, tt) (are client)
      ]

  stored : (s : Node ReplicaState) (item : Item) (own_part : ReplicaState) → Stores n e.event s item own_part → Are s.own.log → Are own_part.log
  stored s _ _ (appends from first number body comes there low room expected) are = taken from first number body s.own.log comes expected are
  stored s _ _ (copied from rec comes room) are =
      let goes = (came n e.event from (whats.Replicate (length s.own.log) rec) comes).1 in
      let parts = and_parts (is_primary from && is_backup n.base.me) (same_shard from n.base.me) goes in
      let backup = (and_parts (is_primary from) (is_backup n.base.me) parts.0).1 in
      absurd (false≢true (ap is_backup (sym me) ∙ backup))
  stored s _ _ (fills from wanted comes there short) are = λ client.
      push_others (homes_at cfg client past) (bodies_at cfg client past) client shard s.own.log _
      (all_replicate (λ rec. number_of_client client rec ≡ None) _ records.Noop refl) (are client)

  changed : (s : Node ReplicaState) (own_part : ReplicaState) → Changes n e.event s own_part → Are s.own.log → Are own_part.log
  changed s _ (holds from len comes) are = are
  changed s _ (covers before entry learned) are = are
  changed s _ (cuts first why) are = are
  changed s _ (promises_on durable first free) are = are

  step_are : Are n.own.log → Are (replicas.step n e.event).state.own.log
  step_are start =
      replicas.walk _ n e.event
      (unshown_sites (λ (t : Turn ReplicaState). Are t.state.own.log)
      (record {
        starts = start;
        restarts = λ r. start;
        learns = λ t entry why w. w;
        stores = λ t item own_part why w. stored t.state item own_part why w;
        changes = λ t own_part why w. changed t.state own_part why w;
      }))

  own_are : Are (log_at cfg shard sides.Primary past) → Are (log_at cfg shard sides.Primary (e ∷ past))
  own_are before =
      let log =
      ap (λ s. s.own.log) (sym (own_state replicas cfg primary e past valid run own)) ∙ log_is cfg valid (e ∷ past) run primary refl here in
      subst Are log (step_are (subst Are (sym (log_is cfg valid past run.1 primary refl here)) before))

-- ---- every run

module _ (cfg : Config) (valid : IsValidConfig cfg) where
  abbrev OfPrimaries : Past → Type 0
  OfPrimaries past =
      (client shard : ℕ) → AreOfAHome (homes_at cfg client past) (bodies_at cfg client past) client shard (log_at cfg shard sides.Primary past)

  next : (e : HistoryEntry) (past : Past) → IsPastOf cfg (e ∷ past) → OfPrimaries past → OfPrimaries (e ∷ past)
  next e past run before client shard =
      are_still (homes_at cfg client past) (homes_at cfg client (e ∷ past)) (bodies_at cfg client past) (bodies_at cfg client (e ∷ past)) client shard
      (log_at cfg shard sides.Primary (e ∷ past)) (homes_grow cfg client e past) (bodies_grow cfg valid client e past)
      (on_own (same_node e.node (nodes.Shard shard sides.Primary)) (λ own. own_are cfg valid shard e past run own (λ c. before c shard) client)
      (λ other. subst (λ l. AreOfAHome (homes_at cfg client past) (bodies_at cfg client past) client shard (log_by l))
      (sym (other_stored cfg (nodes.Shard shard sides.Primary) e past other)) (before client shard)))

  none_at_first : OfPrimaries []
  none_at_first client shard = record { of_home = inl refl; submitted = λ local number body at. absurd (nothing_at local _ at) }

  primaries_are : (past : Past) → IsPastOf cfg past → OfPrimaries past
  primaries_are = every_past cfg OfPrimaries none_at_first next

of_side : (cfg : Config) (valid : IsValidConfig cfg) (past : Past) → IsPastOf cfg past → (client shard : ℕ) (side : Side)
    → AreOfAHome (homes_at cfg client past) (bodies_at cfg client past) client shard (log_at cfg shard side past)
of_side cfg valid past run client shard sides.Primary = primaries_are cfg valid past run client shard
of_side cfg valid past run client shard sides.Backup =
    are_front (homes_at cfg client past) (bodies_at cfg client past) client shard (log_at cfg shard sides.Backup past) (log_at cfg shard sides.Primary past)
    (backup_is_a_prefix cfg past valid run shard) (primaries_are cfg valid past run client shard)

pub records_are_of_a_home : OfEveryRun RecordsAreOfAHome
records_are_of_a_home cfg past valid run = of_side cfg valid past run

-- and of the log that counts
pub held_are_of_a_home : (cfg : Config) (past : Past) → IsValidConfig cfg → IsPastOf cfg past → (client shard : ℕ)
    → AreOfAHome (homes_at cfg client past) (bodies_at cfg client past) client shard (held_log cfg shard past)
held_are_of_a_home cfg past valid run client shard = records_are_of_a_home cfg past valid run client shard sides.Backup
