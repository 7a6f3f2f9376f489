-- An Ack tells a confirmed position: it is of a covered local, and what a replica knows to be covered it has confirmed.
use Rattle.std.proofs.Common.{◌≡◌, ◌⊎◌, ◌∙◌, ℕ, ◌<◌, List, [], ◌∷◌, get_or, Option, Some, None, Contains, refl, sym, ap, subst, inl, inr, arith}
use Rattle.std.specs.Prelude.{IsTrue}
use Rattle.std.specs.List.{AllByRecursion, cons_option, slice_get}
use Rattle.std.proofs.lemmas.Option.{same_Some, slice_get-get_or}
use Rattle.majority.proofs.Lists.{Contains_cases, Contains_here, Contains_later, Contains_none}
use Rattle.cut_core.proofs.Dense.{slice_get_index_of}
use Rattle.cut_core.proofs.Finding.{dense_below}
use Rattle.majority.proofs.Schedules.{Contains_slice_get}
use Rattle.msg_wire.specs.Nodes.{is_replica, same_node}
use Rattle.msg_wire.specs.Valid.{IsValidConfig, IsNodeOf}
use Rattle.net_model.specs.Pasts.{Past, sent, shown, marks_of}
use Rattle.node_rules.proofs.Lists.{all_weaken}
use Rattle.runs.specs.Names.{NodeId, Side, Config, Message, What, Record, Mark, HistoryEntry}
use Rattle.runs.specs.Names.nodes
use Rattle.runs.specs.Names.records
use Rattle.runs.specs.Names.marks
use Rattle.runs.specs.Names.whats
use Rattle.runs.specs.Runs.{IsPastOf}
use Rattle.runs.specs.Known.{agreed_at, known_at, log_at}
use Rattle.runs.specs.Marks.{confirmation_in, confirmations, IsConfirmed}
use Rattle.runs.proofs.SameNodes.{node_itself}
use Rattle.runs.proofs.Shown.{marks_are_shown}
use Rattle.safety_frame.specs.EveryRun.{OfEveryRun}
use Rattle.safety_frame.proofs.NodeKinds.{after, replicas}
use Rattle.safety_frame.proofs.Pasts.{of_sequencer, of_client, of_consumer}
use Rattle.safety_frame.proofs.Growth.{shown_grows}
use Rattle.safety_frame.proofs.Known.{known_folds_hold}
use Rattle.safety_frame.proofs.Lists.{all_true, begins_itself, member_stays}
use Rattle.safety_frame.proofs.Senders.{every_sent}
use Rattle.safety_logs.proofs.ConfirmedLogs.{covered_is_confirmed}
use Rattle.safety_clients.specs.Acks.{AckTells, AcksTell}
use Rattle.safety_clients.specs.Telling.{OfShard}
use Rattle.safety_clients.proofs.Answering.{IsPlacedRecord, ClientIsTold, sends_tell}

-- ---- marks that confirm

confirms_here : (mark : Mark) (position : ℕ) (rec : Record) → confirmation_in mark ≡ Some (position, rec) → mark ≡ marks.Confirm position rec
confirms_here (marks.Confirm at told) position rec e =
    let pair = same_Some (at, told) (position, rec) e in
    ap (λ (p : ℕ × Record). marks.Confirm p.0 p.1) pair
confirms_here _ position rec e = absurd (cc)

confirms_or : (found : Option (ℕ × Record)) (rest : List (ℕ × Record)) (x : ℕ × Record) → Contains (cons_option found rest) x
    → (found ≡ Some x) ⊎ Contains rest x
confirms_or None rest x there = inr there
confirms_or (Some y) rest x there = elim (Contains_cases y x rest there) [
  | inl same ↦ inl (ap (λ z. Some z) same)
  | inr later ↦ inr later
]

mark_there : (shown : List Mark) (position : ℕ) (rec : Record) → Contains (confirmations shown) (position, rec)
    → Contains shown (marks.Confirm position rec)
mark_there [] position rec there = absurd (Contains_none (position, rec) there)
mark_there (mark ∷ rest) position rec there = elim (confirms_or (confirmation_in mark) (confirmations rest) (position, rec) there) [
  | inl here ↦ subst (λ m. Contains (mark ∷ rest) m) (confirms_here mark position rec here) (Contains_here mark rest)
  | inr later ↦ Contains_later mark (marks.Confirm position rec) rest (mark_there rest position rec later)
]

pair_there : (list : List (ℕ × Record)) (i : ℕ) (found : ℕ × Record) (position : ℕ) (rec : Record) → slice_get list i ≡ Some found → found.0 ≡ position
    → found.1 ≡ rec → Contains list (position, rec)
pair_there list i found position rec at places recs =
    Contains_slice_get list i (position, rec) (at ∙ (ap (λ p. Some (p, found.1)) places ∙ ap (λ r. Some (position, r)) recs))

module _ (cfg : Config) (valid : IsValidConfig cfg) where
  -- ---- a covered record is confirmed

  confirmed_there : (past : Past) → IsPastOf cfg past → (shard : ℕ) (side : Side) → shard < cfg.shards → (client number position : ℕ)
      → (r : IsPlacedRecord (agreed_at cfg (nodes.Shard shard side) past) shard (log_at cfg shard side past) client number position)
      → IsConfirmed past position (records.Data client number r.body)
  confirmed_there past run shard side here client number position r =
      let node = nodes.Shard shard side in
      let agreed = agreed_at cfg node past in
      let rec = records.Data client number r.body in
      let known = known_at cfg node past in
      let dense = ((known_folds_hold cfg past valid run).consistent known (node, begins_itself known)).sound.dense shard in
      let owner = slice_get_index_of agreed.covered shard r.local position r.place in
      let covered = dense_below agreed.covered shard r.local position dense owner in
      let all = covered_is_confirmed cfg past valid run shard side here in
      let list = confirmations (marks_of node past) in
      let found = get_or list r.local (position, rec) in
      let at = slice_get-get_or list r.local (position, rec) (omega (arith, covered, all.long)) in
      let each = all.each r.local found.0 found.1 at in
      let places : found.0 ≡ position = same_Some found.0 position (sym each.0 ∙ r.place) in
      let recs : found.1 ≡ rec = same_Some found.1 rec (sym each.1 ∙ r.at) in
      marks_are_shown node past (marks.Confirm position rec)
      (mark_there (marks_of node past) position rec (pair_there list r.local found position rec at places recs))

  -- ---- every run

  abbrev Tells : Past → NodeId → NodeId → What → Type 0
  Tells past from to what = OfShard (λ shard. AckTells past what to) from

  still : (e : HistoryEntry) (past : Past) (what : What) (to : NodeId) → AckTells past what to → AckTells (e ∷ past) what to
  still e past (whats.Ack number position) (nodes.Client client) is =
      (is.0, member_stays (shown past) (shown (e ∷ past)) (marks.Confirm position (records.Data client number is.0)) (shown_grows e past) is.1)
  still e past _ _ is = tt

  still_told : (e : HistoryEntry) (past : Past) (from to : NodeId) (what : What) → Tells past from to what → Tells (e ∷ past) from to what
  still_told e past (nodes.Shard shard side) to what is = still e past what to is
  still_told e past _ to what is = tt

  module _ (e : HistoryEntry) (past : Past) (run : IsPastOf cfg (e ∷ past)) (shard : ℕ) (side : Side) (here : shard < cfg.shards) where
    told_now : (what : What) (to : NodeId)
        → ClientIsTold (after replicas cfg (nodes.Shard shard side) past) e.event (agreed_at cfg (nodes.Shard shard side) (e ∷ past)) shard
        (log_at cfg shard side (e ∷ past)) what to
        → AckTells (e ∷ past) what to
    told_now (whats.Ack number position) (nodes.Client client) is = (is.body, confirmed_there (e ∷ past) run shard side here client number position is)
    told_now _ _ is = tt

  node_tells : (e : HistoryEntry) (past : Past) → IsPastOf cfg (e ∷ past) → (node : NodeId) → e.node ≡ node → IsTrue (is_replica node)
      → AllByRecursion (λ (m : Message). Tells (e ∷ past) node m.to m.what) (replicas.step (after replicas cfg node past) e.event).sends
  node_tells e past run (nodes.Shard shard side) is one =
      let node = nodes.Shard shard side in
      let own = ap (λ x. same_node x node) is ∙ node_itself node in
      let here = subst (IsNodeOf cfg) is run.0.within in
      all_weaken _ (λ (m : Message). Tells (e ∷ past) node m.to m.what) (replicas.step (after replicas cfg node past) e.event).sends
      (λ m told. told_now e past run shard side here m.what m.to told) (sends_tell cfg valid shard side e past run own)
  node_tells e past run _ is one = absurd (cc)

  all_tell : (past : Past) → IsPastOf cfg past → (m : Message) → Contains (sent past) m → Tells past m.from m.to m.what
  all_tell =
      every_sent cfg valid Tells
      (record {
        stays = λ e past m run there was. still_told e past m.from m.to m.what was;
        at_sequencers = λ e past run one before. all_true _ _ (λ m. of_sequencer (λ node. Tells (e ∷ past) node m.to m.what) (λ k. tt) e.node one);
        at_replicas = λ e past run one before. node_tells e past run e.node refl one;
        at_clients = λ e past run one before. all_true _ _ (λ m. of_client (λ node. Tells (e ∷ past) node m.to m.what) (λ k. tt) e.node one);
        at_consumers = λ e past run one before. all_true _ _ (λ m. of_consumer (λ node. Tells (e ∷ past) node m.to m.what) (λ k. tt) e.node one);
      })

pub acks_tell : OfEveryRun AcksTell
acks_tell cfg past valid run m there = all_tell cfg valid past run m there
