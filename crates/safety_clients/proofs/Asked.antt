-- A replica whose shard is gone answers each client that asks: its log reaches the end, and a number below the next one stands there, covered.
use Rattle.std.proofs.Common.{◌≡◌, ◌⊎◌, ◌∙◌, ℕ, zero, suc, ◌+◌, ◌<◌, ◌≤◌, ◌==◌, nat_lt, nat_le, true, List, [], ◌∷◌, ◌++◌, length, take, Option, Some, None, Contains, refl, sym, ap, subst, inl, inr, arith}
use Rattle.std.specs.List.{slice_get}
use Rattle.std.specs.Option.{option_map, option_map_or}
use Rattle.std.proofs.lemmas.Bool.{cases_Bool, cond-true, cond-false, both_ways, eq-eqb, and_from, le-leb, ltb-true}
use Rattle.std.proofs.lemmas.List.Elements.{Contains-append_right}
use Rattle.majority.proofs.Lists.{Contains_here}
use Rattle.cut_core.specs.Agreements.{Agreement, is_gone}
use Rattle.cut_core.specs.Map.{gone_end, placed, covered_locals}
use Rattle.cut_core.proofs.Indices.{index_of_some}
use Rattle.msg_wire.specs.Heeded.{is_heeded}
use Rattle.msg_wire.specs.Nodes.{number_of, is_primary}
use Rattle.msg_wire.specs.Valid.{IsValidConfig, IsNodeOf}
use Rattle.net_model.specs.Pasts.{Past}
use Rattle.node_rules.specs.Nodes.{Node, agreed_by}
use Rattle.node_rules.specs.Turns.{Turn, started, agreed, me_of, send}
use Rattle.node_rules.proofs.Lists.{on_test, on_fold}
use Rattle.shard_log.specs.Records.{has_number}
use Rattle.shard_log.specs.ShardLog.{expected_of, local_of}
use Rattle.shard_node.specs.States.{ReplicaState, shard_of, log_of, log_length}
use Rattle.shard_node.specs.Logs.{acknowledge}
use Rattle.shard_node.specs.Promises.{lease_at, to_promise, promise_record, promise, promise_some, promise_all}
use Rattle.shard_node.specs.Rules.{acknowledge_number, answer_fate, fate_at, hear_ask_fate}
use Rattle.shard_node.specs.Steps.{hear, replica_step}
use Rattle.runs.specs.Names.{NodeId, Side, Config, Message, Record, HistoryEntry}
use Rattle.runs.specs.Names.nodes
use Rattle.runs.specs.Names.records
use Rattle.runs.specs.Names.events
use Rattle.runs.specs.Names.whats
use Rattle.runs.specs.Kinds.{step_at}
use Rattle.runs.specs.Runs.{IsPastOf, Comes as ComesIn}
use Rattle.runs.specs.Known.{agreed_after, agreed_at, known_at, log_at}
use Rattle.runs.specs.Marks.{IsPrefix, numbers_of_client}
use Rattle.safety_frame.specs.EveryRun.{OfEveryRun}
use Rattle.safety_frame.specs.Heeded.{IsHeeded}
use Rattle.safety_frame.proofs.Heeding.{messages_are_heeded}
use Rattle.safety_frame.proofs.NodeKinds.{after, replicas}
use Rattle.safety_frame.proofs.Lists.{begins_itself, begins_more, begins_on, member_stays}
use Rattle.safety_frame.proofs.Known.{known_folds_hold}
use Rattle.safety_frame.proofs.Names.{IsNamed, states_named}
use Rattle.safety_frame.proofs.StableItems.{known_is, log_is}
use Rattle.safety_frame.proofs.StableParts.{replica_known}
use Rattle.safety_clients.specs.Answers.{Answers, AsksAreAnswered}
use Rattle.safety_clients.proofs.KnownEnds.{end_is, end_reached}
use Rattle.safety_clients.proofs.Fates.{reach_of, runs_in_front}
use Rattle.safety_clients.proofs.Fronts.{ended}
use Rattle.safety_clients.proofs.Numbered.{range_has, record_in_front}
use Rattle.safety_clients.proofs.Runs.{expected_is}
use Rattle.safety_clients.proofs.Telling.{asked_there}

-- ---- a promise sends more

record_more : (position : Option ℕ) (rec : Option Record) (local : ℕ) (t : Turn ReplicaState) → IsPrefix t.sends (promise_record position rec local t).sends
record_more (Some position) (Some rec) local t = begins_more t.sends _
record_more (Some position) None local t = begins_itself t.sends
record_more None rec local t = begins_itself t.sends

promises_more : (t : Turn ReplicaState) → IsPrefix t.sends (promise_all t).sends
promises_more t =
    on_test (λ (u : Turn ReplicaState). IsPrefix t.sends u.sends) (is_primary (me_of t)) (promise_some t) t
    (λ _. on_fold (λ (u : Turn ReplicaState). IsPrefix t.sends u.sends) promise (to_promise t) t
    (λ u i local at is. begins_on t.sends u.sends (promise u local).sends is (record_more (lease_at u local) (slice_get (log_of u) local) local u))
    (begins_itself t.sends))
    (λ _. begins_itself t.sends)

-- ---- the least local with a number

least_local : (client number : ℕ) (body : List ℕ) (log : List Record) (local : ℕ) → slice_get log local ≡ Some (records.Data client number body)
    → (least : ℕ) × (least ≤ local) × (local_of client number log ≡ Some least)
least_local client number body [] local at = absurd (cc)
least_local client number body (rec ∷ rest) zero at =
    let same : rec ≡ records.Data client number body = cc in
    let own = and_from (client == client) (number == number) (eq-eqb client client refl) (eq-eqb number number refl) in
    let test : has_number client number rec ≡ true = ap (has_number client number) same ∙ own in
    (0, omega arith, cond-true (has_number client number rec) (Some 0) _ test)
least_local client number body (rec ∷ rest) (suc local) at =
    let later = least_local client number body rest local at in
    elim (cases_Bool (has_number client number rec)) [
      | inl here ↦ (0, omega arith, cond-true (has_number client number rec) (Some 0) _ here)
      | inr other ↦
          (later.0 + 1, omega (arith, later.1), cond-false (has_number client number rec) (Some 0) _ other ∙ ap (option_map (λ l. l + 1)) later.2)
    ]

-- ---- the answer

-- a number below the next one has a covered local
abbrev Stands : ℕ → ℕ → ℕ → ℕ → Agreement → ℕ → List Record → Type 0
Stands client first least end a shard log =
    least < expected_of client first (take end log)
    → (local : ℕ) × (position : ℕ) × (local_of client least log ≡ Some local) × (placed a shard local ≡ Some position)

-- among what is sent
abbrev AnswersIn : NodeId → NodeId → ℕ → List Message → Type 0
AnswersIn from to least sends =
    ((next : ℕ) × Contains sends (record { from = from; to = to; what = whats.Fate next }))
    ⊎ ((position : ℕ) × Contains sends (record { from = from; to = to; what = whats.Ack least position }))

more_answers : (from to : NodeId) (least : ℕ) (sends more : List Message) → IsPrefix sends more → AnswersIn from to least sends → AnswersIn from to least more
more_answers from to least sends more p is = elim is [
  | inl fate ↦ inl (fate.0, member_stays sends more (record { from = from; to = to; what = whats.Fate fate.0 }) p fate.1)
  | inr ack ↦ inr (ack.0, member_stays sends more (record { from = from; to = to; what = whats.Ack least ack.0 }) p ack.1)
]

module _ (t : Turn ReplicaState) (client first least end : ℕ) where
  abbrev asker : NodeId
  asker = nodes.Client client

  abbrev next : ℕ
  next = expected_of client first (take end (log_of t))

  abbrev Answered : Turn ReplicaState → Type 0
  Answered u = AnswersIn (me_of t) asker least u.sends

  sent_last : (m : Message) → Contains (t.sends ++ m ∷ []) m
  sent_last m = Contains-append_right t.sends (m ∷ []) m (Contains_here m [])

  acknowledged : (local position : ℕ) → local_of client least (log_of t) ≡ Some local → placed (agreed t) (shard_of t) local ≡ Some position
      → Answered (acknowledge_number asker least t)
  acknowledged local position stands place =
      subst (λ o. Answered (option_map_or (λ l. acknowledge asker least l t) o t)) (sym stands)
      (subst (λ o. Answered (option_map_or (λ p. send asker (whats.Ack least p) t) o t)) (sym place) (inr (position, sent_last _)))

  answered : gone_end (agreed t) (shard_of t) ≡ Some end → end ≤ length (log_of t)
      → Stands client first least end (agreed t) (shard_of t) (log_of t)
      → Answered (hear_ask_fate asker first least t)
  answered gone reached stands =
      subst (λ o. Answered (fate_at o asker first least t)) (sym gone)
      (on_test Answered (nat_le end (log_length t)) (answer_fate asker least next t) t
      (λ _. on_test Answered (nat_lt least next) (acknowledge_number asker least t) (send asker (whats.Fate next) t)
      (λ less. let at = stands (ltb-true least next less) in acknowledged at.0 at.1 at.2 at.3)
      (λ _. inl (next, sent_last _)))
      (λ no. absurd (both_ways _ no (le-leb end (log_length t) reached))))

-- ---- every run

module _ (cfg : Config) (valid : IsValidConfig cfg) (e : HistoryEntry) (past : Past)
    (run : IsPastOf cfg (e ∷ past)) (shard : ℕ) (side : Side) (client first least : ℕ) (own : e.node ≡ nodes.Shard shard side)
    (comes : e.event ≡ events.Deliver (record { from = nodes.Client client; to = nodes.Shard shard side; what = whats.AskFate first least })) where
  abbrev node : NodeId
  node = nodes.Shard shard side

  abbrev n : Node ReplicaState
  n = after replicas cfg node past

  abbrev t : Turn ReplicaState
  t = started n

  abbrev m : Message
  m = record { from = nodes.Client client; to = node; what = whats.AskFate first least }

  here : IsNodeOf cfg node
  here = subst (IsNodeOf cfg) own run.0.within

  named : IsNamed cfg node n
  named = states_named replicas cfg valid past run.1 node refl here

  agreed_is : agreed_by n.base ≡ agreed_at cfg node past
  agreed_is = ap (λ c. agreed_after c n.base.known) named.0 ∙ ap (agreed_after cfg) (known_is replicas replica_known cfg valid past run.1 node refl here)

  log : n.own.log ≡ log_at cfg shard side past
  log = log_is cfg valid past run.1 node refl here

  heeded : is_heeded n.base.cfg n.base.me m ≡ true
  heeded =
      let is = (messages_are_heeded cfg (e ∷ past) valid run).entries.0 in
      subst (λ c. is_heeded c n.base.me m ≡ true) (sym named.0)
      (subst (λ x. is_heeded cfg x m ≡ true) (own ∙ sym named.1) (subst (IsHeeded cfg e.node) comes is))

  sends_are : e.sends ≡ (replica_step n (events.Deliver m)).sends
  sends_are = run.0.sends ∙ (ap (λ x. (step_at cfg x past e.event).sends) own ∙ ap (λ event. (replica_step n event).sends) comes)

  -- a number below the next one stands covered
  stands : (end : ℕ) → gone_end (agreed_at cfg node past) shard ≡ Some end
      → Stands client first least end (agreed_at cfg node past) shard (log_at cfg shard side past)
  stands end gone less =
      let whole = log_at cfg shard side past in
      let front = take end whole in
      let known = known_at cfg node past in
      let there = subst (ComesIn past e.node) comes run.0.comes in
      let asked = asked_there cfg valid past run.1 client shard first least m there.1 refl side refl refl in
      let runs = runs_in_front cfg valid past run.1 client shard side first end asked.home in
      let count = expected_is client first first front runs (λ _. refl) in
      let has = range_has first (length (numbers_of_client client front)) least asked.from_first (omega (arith, less, count)) in
      let found = record_in_front client least end whole (subst (λ l. Contains l least) (sym runs) has) in
      let at = least_local client least found.2 whole found.0 found.3 in
      let dense = ((known_folds_hold cfg past valid run.1).consistent known (node, begins_itself known)).sound.dense shard in
      let ends = end_is cfg valid past run.1 known (node, begins_itself known) shard end gone in
      let place = index_of_some (agreed_at cfg node past).covered shard at.0 dense (omega (arith, at.1, found.1, ends)) in
      (at.0, place.0, at.2, place.1)

  answers : is_gone (agreed_at cfg node past) shard ≡ true → Answers e shard side client least
  answers gone =
      let known = known_at cfg node past in
      let at = ended cfg valid past run.1 known (node, begins_itself known) shard gone in
      let end = covered_locals (agreed_at cfg node past) shard in
      let both = end_reached cfg valid past run.1 known (node, begins_itself known) shard end at in
      let me = ap number_of named.1 in
      let heard =
      answered t client first least end (ap (λ a. gone_end a (number_of n.base.me)) agreed_is ∙ (ap (gone_end (agreed_at cfg node past)) me ∙ at))
      (omega (arith, reach_of cfg past shard end both side, ap length log))
      (subst (λ l. Stands client first least end (agreed_by n.base) (number_of n.base.me) l) (sym log)
      (subst (λ a. Stands client first least end a (number_of n.base.me) (log_at cfg shard side past)) (sym agreed_is)
      (subst (λ k. Stands client first least end (agreed_at cfg node past) k (log_at cfg shard side past)) (sym me) (stands end at)))) in
      let step_sends : List Message = (replica_step n (events.Deliver m)).sends in
      let whole : AnswersIn n.base.me (nodes.Client client) least step_sends =
      on_test (λ (u : Turn ReplicaState). AnswersIn n.base.me (nodes.Client client) least (promise_all u).sends) (is_heeded n.base.cfg n.base.me m)
      (hear (nodes.Client client) (whats.AskFate first least) t) t
      (λ _. more_answers n.base.me (nodes.Client client) least _ _ (promises_more (hear_ask_fate (nodes.Client client) first least t)) heard)
      (λ no. absurd (both_ways _ no heeded)) in
      subst (λ l. AnswersIn node (nodes.Client client) least l) (sym sends_are)
      (subst (λ x. AnswersIn x (nodes.Client client) least step_sends) named.1 whole)

pub asks_are_answered : OfEveryRun AsksAreAnswered
asks_are_answered cfg [] valid run = tt
asks_are_answered cfg (e ∷ past) valid run = (
  λ shard side client first least own comes gone. answers cfg valid e past run shard side client first least own comes gone,
  asks_are_answered cfg past valid run.1,
)
