-- A Fate tells the number after a client's covered records at a home that is gone: its sender's log has them all, as the log that counts.
use Rattle.std.proofs.Common.{◌≡◌, ◌∙◌, ℕ, ◌+◌, ◌-◌, ◌<◌, ◌≤◌, true, List, ◌∷◌, length, take, Contains, refl, sym, ap, subst, inl, inr, arith}
use Rattle.std.specs.Prelude.{IsTrue}
use Rattle.std.specs.List.{AllByRecursion, range_with_len}
use Rattle.std.proofs.lemmas.List.{length-take-le}
use Rattle.cut_core.specs.Map.{covered_locals}
use Rattle.msg_wire.specs.Nodes.{is_replica, same_node}
use Rattle.msg_wire.specs.Valid.{IsValidConfig, IsNodeOf}
use Rattle.net_model.specs.Pasts.{Past, sent}
use Rattle.node_rules.proofs.Lists.{all_weaken}
use Rattle.runs.specs.Names.{NodeId, Side, Config, Record, Message, What, HistoryEntry}
use Rattle.runs.specs.Names.nodes
use Rattle.runs.specs.Names.sides
use Rattle.runs.specs.Names.whats
use Rattle.runs.specs.Runs.{IsPastOf}
use Rattle.runs.specs.Known.{agreed_at, known_at, log_at, held_log}
use Rattle.runs.specs.Logs.{BothReach}
use Rattle.runs.specs.Marks.{numbers_of_client}
use Rattle.runs.specs.Homes.{Home, homes_at}
use Rattle.runs.proofs.SameNodes.{same_node_is, node_itself}
use Rattle.safety_frame.specs.AgreedList.{agreed_list}
use Rattle.safety_frame.specs.EveryRun.{OfEveryRun}
use Rattle.safety_frame.proofs.NodeKinds.{after, replicas}
use Rattle.safety_frame.proofs.Pasts.{of_sequencer, of_client, of_consumer}
use Rattle.safety_frame.proofs.Growth.{homes_grow}
use Rattle.safety_frame.proofs.Lists.{all_true, begins_itself, member_stays}
use Rattle.safety_frame.proofs.Senders.{every_sent}
use Rattle.safety_logs.proofs.AgreedLists.{agreed_grows, same_take, agreed_begins}
use Rattle.safety_logs.specs.Counting.{durable_at}
use Rattle.safety_logs.proofs.DurableLogs.{durable_is_held}
use Rattle.safety_logs.proofs.Fronts.{front_of}
use Rattle.safety_logs.proofs.Growing.{held_grows}
use Rattle.safety_clients.specs.Fates.{IsFate, FateTells, FatesTell}
use Rattle.safety_clients.specs.Records.{RunFrom}
use Rattle.safety_clients.specs.Telling.{OfShard}
use Rattle.safety_clients.proofs.KnownEnds.{agreed_known, end_is, end_held}
use Rattle.safety_clients.proofs.Answering.{IsNextAfter, ClientIsTold, sends_tell}
use Rattle.safety_clients.proofs.Fronts.{continues}
use Rattle.safety_clients.proofs.Homes.{same_first}
use Rattle.safety_clients.proofs.Records.{records_are_of_a_home}
use Rattle.safety_clients.proofs.Runs.{run_none, run_front, none_in_front, expected_is}
use Rattle.safety_clients.proofs.Telling.{asked_there}
use Rattle.safety_clients.proofs.Turns.{was_sent_to}

-- ---- what both logs reach

pub reach_of : (cfg : Config) (past : Past) (shard end : ℕ) → BothReach cfg past shard end → (side : Side) → end ≤ length (log_at cfg shard side past)
reach_of cfg past shard end both sides.Primary = both.primary
reach_of cfg past shard end both sides.Backup = both.backup

-- ---- the log that counts

-- what it has up to an end that it reaches stays
pub held_stays : (cfg : Config) (e : HistoryEntry) (past : Past) → IsValidConfig cfg → IsPastOf cfg (e ∷ past) → (shard end : ℕ)
    → end ≤ length (held_log cfg shard past) → take end (held_log cfg shard (e ∷ past)) ≡ take end (held_log cfg shard past)
held_stays cfg e past valid run shard end within =
    same_take end (held_log cfg shard past) (held_log cfg shard (e ∷ past)) (held_grows cfg e past shard valid run).held within

-- lists that are the same so far are the same up to less
same_front : (end far : ℕ) (xs ys : List Record) → take far xs ≡ take far ys → far ≤ length ys → end ≤ far → take end xs ≡ take end ys
same_front end far xs ys same within less =
    let long = length-take-le far ys within in
    let one = same_take end (take far xs) xs (front_of far xs) (omega (arith, ap length same, long, less)) in
    let other = same_take end (take far ys) ys (front_of far ys) (omega (arith, long, less)) in
    one ∙ (ap (take end) same ∙ sym other)

-- what a replica knows to be covered stands in the log that counts as in its own
pub same_covered : (cfg : Config) (valid : IsValidConfig cfg) (past : Past) → IsPastOf cfg past → (shard : ℕ) (side : Side) → shard < cfg.shards → (end : ℕ)
    → end ≤ covered_locals (agreed_at cfg (nodes.Shard shard side) past) shard
    → take end (log_at cfg shard side past) ≡ take end (held_log cfg shard past)
same_covered cfg valid past run shard side here end less =
    let is = durable_is_held cfg past valid run shard side here in
    same_front end (durable_at cfg shard side past) (log_at cfg shard side past) (held_log cfg shard past) is.held is.within (omega (arith, less, is.covered))

-- in any beginning of a home's log a client's numbers run on from its first one there
pub runs_in_front : (cfg : Config) (valid : IsValidConfig cfg) (past : Past) → IsPastOf cfg past → (client shard : ℕ) (side : Side) (first end : ℕ)
    → Contains (homes_at cfg client past) (record { shard = shard; first = first })
    → RunFrom first (numbers_of_client client (take end (log_at cfg shard side past)))
runs_in_front cfg valid past run client shard side first end home =
    let log = log_at cfg shard side past in
    let front = take end log in
    elim (records_are_of_a_home cfg past valid run client shard side).of_home [
      | inl none ↦ run_none first (numbers_of_client client front) (none_in_front client front log (front_of end log) none)
      | inr r ↦
          subst (λ f. RunFrom f (numbers_of_client client front))
          (same_first cfg valid past run client (record { shard = shard; first = r.0 }) (record { shard = shard; first = first }) r.1 home refl)
          (run_front client r.0 end log r.2)
    ]

module _ (cfg : Config) (valid : IsValidConfig cfg) where
  -- ---- it stays true

  fate_stays : (e : HistoryEntry) (past : Past) → IsPastOf cfg (e ∷ past) → (client shard next : ℕ) → IsFate cfg past client shard next
      → IsFate cfg (e ∷ past) client shard next
  fate_stays e past run client shard next is =
      let now = e ∷ past in
      let agreed = agreed_list cfg past in
      let on = continues cfg valid now run agreed (agreed_list cfg now) (agreed_grows cfg valid e past run) (agreed_known cfg valid now run) in
      let within = end_held cfg valid past run.1 shard is.end is.gone in
      record {
        first = is.first;
        home = member_stays (homes_at cfg client past) (homes_at cfg client now) _ (homes_grow cfg client e past) is.home;
        end = is.end;
        gone = on.gone_stay shard is.end is.gone;
        rises = is.rises;
        numbers = ap (numbers_of_client client) (held_stays cfg e past valid run shard is.end within) ∙ is.numbers;
      }

  still : (e : HistoryEntry) (past : Past) → IsPastOf cfg (e ∷ past) → (shard : ℕ) (what : What) (to : NodeId) → FateTells cfg past shard what to
      → FateTells cfg (e ∷ past) shard what to
  still e past run shard (whats.Fate next) (nodes.Client client) is = fate_stays e past run client shard next is
  still e past run shard _ _ is = tt

  -- ---- as it is sent

  module _ (e : HistoryEntry) (past : Past) (run : IsPastOf cfg (e ∷ past)) (shard : ℕ) (side : Side)
      (own : same_node e.node (nodes.Shard shard side) ≡ true) where
    fate_now : (client next : ℕ)
        → IsNextAfter (after replicas cfg (nodes.Shard shard side) past) e.event (agreed_at cfg (nodes.Shard shard side) (e ∷ past)) shard
        (log_at cfg shard side (e ∷ past)) (nodes.Client client) next
        → IsFate cfg (e ∷ past) client shard next
    fate_now client next is =
        let now = e ∷ past in
        let node = nodes.Shard shard side in
        let log = log_at cfg shard side now in
        let front = take is.end log in
        let told = was_sent_to (after replicas cfg node past) e past (nodes.Client client) (whats.AskFate is.first is.least) run.0.comes is.comes in
        let asked =
        asked_there cfg valid past run.1 client shard is.first is.least told.message told.there told.by side (told.to_it ∙ same_node_is e.node node own)
        told.says in
        let home : Home = record { shard = shard; first = is.first } in
        let there : Contains (homes_at cfg client now) home =
        member_stays (homes_at cfg client past) (homes_at cfg client now) home (homes_grow cfg client e past) asked.home in
        let known = known_at cfg node now in
        let on = continues cfg valid now run known (agreed_list cfg now) (agreed_begins cfg valid now run node) (agreed_known cfg valid now run) in
        let here : shard < cfg.shards = subst (IsNodeOf cfg) (same_node_is e.node node own) run.0.within in
        let covered = end_is cfg valid now run known (node, begins_itself known) shard is.end is.gone in
        let same = same_covered cfg valid now run shard side here is.end (omega (arith, covered)) in
        let runs = runs_in_front cfg valid now run client shard side is.first is.end there in
        let next_is : next ≡ is.first + length (numbers_of_client client front) = is.expected ∙ expected_is client is.first is.first front runs (λ _. refl) in
        let count : length (numbers_of_client client front) ≡ next - is.first = omega (arith, next_is) in
        record {
          first = is.first;
          home = there;
          end = is.end;
          gone = on.gone_stay shard is.end is.gone;
          rises = omega (arith, next_is);
          numbers = ap (numbers_of_client client) (sym same) ∙ (runs ∙ ap (range_with_len is.first) count);
        }

    told_now : (what : What) (to : NodeId)
        → ClientIsTold (after replicas cfg (nodes.Shard shard side) past) e.event (agreed_at cfg (nodes.Shard shard side) (e ∷ past)) shard
        (log_at cfg shard side (e ∷ past)) what to
        → FateTells cfg (e ∷ past) shard what to
    told_now (whats.Fate next) (nodes.Client client) is = fate_now client next is
    told_now _ _ is = tt

  -- ---- every run

  abbrev Tells : Past → NodeId → NodeId → What → Type 0
  Tells past from to what = OfShard (λ shard. FateTells cfg past shard what to) from

  still_told : (e : HistoryEntry) (past : Past) → IsPastOf cfg (e ∷ past) → (from to : NodeId) (what : What) → Tells past from to what
      → Tells (e ∷ past) from to what
  still_told e past run (nodes.Shard shard side) to what is = still e past run shard what to is
  still_told e past run _ to what is = tt

  node_tells : (e : HistoryEntry) (past : Past) → IsPastOf cfg (e ∷ past) → (node : NodeId) → e.node ≡ node → IsTrue (is_replica node)
      → AllByRecursion (λ (m : Message). Tells (e ∷ past) node m.to m.what) (replicas.step (after replicas cfg node past) e.event).sends
  node_tells e past run (nodes.Shard shard side) is one =
      let node = nodes.Shard shard side in
      let own = ap (λ x. same_node x node) is ∙ node_itself node in
      all_weaken _ (λ (m : Message). Tells (e ∷ past) node m.to m.what) (replicas.step (after replicas cfg node past) e.event).sends
      (λ m told. told_now e past run shard side own m.what m.to told) (sends_tell cfg valid shard side e past run own)
  node_tells e past run _ is one = absurd (cc)

  all_tell : (past : Past) → IsPastOf cfg past → (m : Message) → Contains (sent past) m → Tells past m.from m.to m.what
  all_tell =
      every_sent cfg valid Tells
      (record {
        stays = λ e past m run there was. still_told e past run m.from m.to m.what was;
        at_sequencers = λ e past run one before. all_true _ _ (λ m. of_sequencer (λ node. Tells (e ∷ past) node m.to m.what) (λ k. tt) e.node one);
        at_replicas = λ e past run one before. node_tells e past run e.node refl one;
        at_clients = λ e past run one before. all_true _ _ (λ m. of_client (λ node. Tells (e ∷ past) node m.to m.what) (λ k. tt) e.node one);
        at_consumers = λ e past run one before. all_true _ _ (λ m. of_consumer (λ node. Tells (e ∷ past) node m.to m.what) (λ k. tt) e.node one);
      })

pub fates_tell : OfEveryRun FatesTell
fates_tell cfg past valid run m there = all_tell cfg valid past run m there

-- of a message that came
pub fate_there : (cfg : Config) (valid : IsValidConfig cfg) (past : Past) → IsPastOf cfg past → (client shard next : ℕ)
    → (m : Message) → Contains (sent past) m
    → (side : Side) → m.from ≡ nodes.Shard shard side → m.to ≡ nodes.Client client → m.what ≡ whats.Fate next → IsFate cfg past client shard next
fate_there cfg valid past run client shard next m there side from to says =
    let told = subst (OfShard (λ s. FateTells cfg past s m.what m.to)) from (fates_tell cfg past valid run m there) in
    subst (λ x. FateTells cfg past shard (whats.Fate next) x) to (subst (λ w. FateTells cfg past shard w m.to) says told)
