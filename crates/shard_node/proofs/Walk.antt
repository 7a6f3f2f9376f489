-- A replica's whole step is made of the places of its table.
use Rattle.std.proofs.Common.{◌≡◌, ℕ, zero, suc, ◌+◌, ◌-◌, ◌<◌, ◌≤◌, ◌^◌, ◌==◌, ◌&&◌, not, Bool, true, false, List, [], ◌∷◌, ◌++◌, length, replicate, Option, Some, None, refl, ap, sym, subst, ◌∙◌, arith}
use Rattle.std.specs.Prelude.{nat_lt, nat_le, is_some}
use Rattle.std.specs.List.{fold, range_with_len, slice_get, take_while}
use Rattle.std.proofs.lemmas.Bool.{false≢true, and_parts, ltb-true, ltb-false, leb-true, eqb-true, not-true}
use Rattle.std.proofs.lemmas.List.Sums.{take_while-cons}
use Rattle.shard_log.specs.declared.answers.Appended.{Appended}
use Rattle.shard_log.specs.declared.answers.Appended.TheVariants.{Taken, Duplicate, Gap}
use Rattle.shard_log.specs.ShardLog.{expected_of, local_of}
use Rattle.cut_core.specs.declared.effects.Effect.{Effect}
use Rattle.cut_core.specs.declared.effects.Effect.TheVariants.{Removed}
use Rattle.cut_core.specs.Agreements.{Agreement}
use Rattle.cut_core.specs.Effects.{effect_of}
use Rattle.cut_core.specs.Map.{covered_locals, gone_end, placed, leased}
use Rattle.fix_ante.proofs.Entries.{slice_get_append_right}
use Rattle.msg_wire.specs.Heeded.{goes_between}
use Rattle.msg_wire.specs.Nodes.{is_node_of, is_sequencer, is_client, is_primary, number_of, same_node, sequencers_of, consumers_of}
use Rattle.node_rules.specs.Names.{NodeId, Entry, Record, What, Event}
use Rattle.node_rules.specs.Names.nodes
use Rattle.node_rules.specs.Names.sides
use Rattle.node_rules.specs.Names.records
use Rattle.node_rules.specs.Names.items
use Rattle.node_rules.specs.Names.marks
use Rattle.node_rules.specs.Names.whats
use Rattle.node_rules.specs.Names.events
use Rattle.node_rules.specs.Nodes.{Base, Node, agreed_by}
use Rattle.node_rules.specs.Turns.{Turn, started, cfg_of, me_of, own_of, agreed, put_own, send, show}
use Rattle.node_rules.specs.Rules.{tick}
use Rattle.node_rules.proofs.Lists.{on_test, on_option, on_fold, on_range}
use Rattle.node_rules.proofs.Places.{Comes, Sites}
use Rattle.node_rules.proofs.Walks.{walk_sends, walk_decided, walk_tick, walk_heed}
use Rattle.shard_node.specs.States.{ReplicaState, shard_of, log_of, log_length, covered_of, durable_of, with_promised, is_shard_gone}
use Rattle.shard_node.specs.Logs.{report, replicate_at, take_in, acknowledge, appended, hear_append, fill_count, filled, replicate_noops, hear_fill, confirm_length, hear_replicate}
use Rattle.shard_node.specs.Learning.{confirm_record, confirm_at, confirm, confirm_from, covered_is_durable, notice, on_learned}
use Rattle.shard_node.specs.Rules.{hear_replicated, hear_fetch, answer_fate, fate_at, replicate_again, replicate_some, on_tick}
use Rattle.shard_node.specs.Promises.{lease_at, promise_record, promise, promise_all}
use Rattle.shard_node.specs.Steps.{hear, handle, replica_step}
use Rattle.shard_node.proofs.Loops.{promise_base}
use Rattle.shard_node.proofs.Places.{shard_by, Learned, Confirms, Notices, Promises, Answers, IsThere, reports, copies, tells_length, promises, fetched, confirms, acks_again, acks_fate, fates, confirmed, noticed, promised, appends, copied, fills, holds, covers, cuts, promises_on, replica_places}

-- ---- the end of a log that grew

end_at : (log : List Record) (rec : Record) → slice_get (log ++ rec ∷ []) (length log) ≡ Some rec
end_at [] rec = refl
end_at (r ∷ log) rec = end_at log rec

noop_at : (count i : ℕ) → i < count → slice_get (replicate count records.Noop) i ≡ Some records.Noop
noop_at zero i below = absurd (omega arith)
noop_at (suc count) zero below = refl
noop_at (suc count) (suc i) below = noop_at count i (omega arith)

filled_at : (log : List Record) (count i : ℕ) → length log ≤ i → i < length log + count → slice_get (log ++ replicate count records.Noop) i ≡ Some records.Noop
filled_at log count i from below =
    let at : length log + (i - length log) ≡ i = omega arith in
    subst (λ (k : ℕ). slice_get (log ++ replicate count records.Noop) k ≡ Some records.Noop) at
    (slice_get_append_right log (replicate count records.Noop) (length log) (i - length log) refl ∙ noop_at count (i - length log) (omega arith))

-- ---- what comes to a primary

primary_same : (a b : NodeId) → same_node a b ≡ true → is_primary a ≡ true → is_primary b ≡ true
primary_same (nodes.Shard a sides.Primary) (nodes.Shard b sides.Primary) same is = refl
primary_same (nodes.Shard a sides.Primary) (nodes.Shard b sides.Backup) same is = absurd (false≢true (and_parts (a == b) false same).1)
primary_same _ _ same is = absurd (cc)

-- a message of a kind that goes to primaries alone
comes_to_primary : (n : Node ReplicaState) (event : Event) (from : NodeId) (what : What)
    → ((sender to : NodeId) → goes_between what sender to ≡ true → is_primary to ≡ true)
    → Comes n event from what → is_primary n.base.me ≡ true
comes_to_primary n event from what goes comes =
    let m = comes.message in
    let parts = and_parts (same_node m.to n.base.me && is_node_of n.base.cfg m.from) (not (same_node m.from m.to) && goes_between m.what m.from m.to) comes.heeded in
    let between = (and_parts (not (same_node m.from m.to)) (goes_between m.what m.from m.to) parts.1).1 in
    primary_same m.to n.base.me (and_parts (same_node m.to n.base.me) (is_node_of n.base.cfg m.from) parts.0).0
    (goes m.from m.to (subst (λ (w : What). goes_between w m.from m.to ≡ true) comes.says between))

-- ---- what a rule leaves as it was

confirm_state : (position : Option ℕ) (rec : Option Record) (t : Turn ReplicaState) → (confirm_at position rec t).state ≡ t.state
confirm_state (Some position) (Some (records.Data client number body)) t = on_test (λ (u : Turn ReplicaState). u.state ≡ t.state) (is_primary (me_of t)) _ _ (λ _. refl) (λ _. refl)
confirm_state (Some position) (Some records.Noop) t = on_test (λ (u : Turn ReplicaState). u.state ≡ t.state) (is_primary (me_of t)) _ _ (λ _. refl) (λ _. refl)
confirm_state _ _ t = refl

-- a local that is covered since an entry
abbrev IsNew : Node ReplicaState → Event → Agreement → Entry → ℕ → Node ReplicaState → Type 0
IsNew n event before entry local s = Learned n event s before entry × (covered_locals before (shard_by s) ≤ local) × (local < covered_locals (agreed_by s.base) (shard_by s))

-- ---- the rules

module _ {W : Turn ReplicaState → Type 0} {n : Node ReplicaState} {event : Event} (s : Sites replica_places W n event) where
  walk_report : (t : Turn ReplicaState) → W t → W (report t)
  walk_report t w = walk_sends s (sequencers_of (cfg_of t)) (whats.Report (log_length t)) t (λ i to at. reports to i at) w

  walk_replicate_at : (local : ℕ) (rec : Record) (t : Turn ReplicaState) → is_primary (me_of t) ≡ true → slice_get (log_of t) local ≡ Some rec → W t
      → W (replicate_at local rec t)
  walk_replicate_at local rec t primary at w = s.says t (nodes.Shard (shard_of t) sides.Backup) (whats.Replicate local rec) (copies local rec primary at) w

  -- ---- Append

  walk_acknowledge : (client : NodeId) (first number : ℕ) (body : List ℕ) (local : ℕ) (t : Turn ReplicaState)
      → Comes n event client (whats.Append first number body) → number < 2 ^ 48
      → local_of (number_of client) number (log_of t) ≡ Some local → W t → W (acknowledge client number local t)
  walk_acknowledge client first number body local t comes low stands w =
      on_option W (λ position. send client (whats.Ack number position) t) (placed (agreed t) (shard_of t) local) t
      (λ position place. s.says t client (whats.Ack number position) (acks_again client first number body local position comes low stands place) w) w

  walk_taken : (client : NodeId) (first number : ℕ) (body : List ℕ) (t : Turn ReplicaState) → Comes n event client (whats.Append first number body)
      → IsThere t.state → number < 2 ^ 48 → log_length t < 2 ^ 48
      → number ≡ expected_of (number_of client) first (log_of t) → is_primary (me_of t) ≡ true → W t → W (appended (Taken (log_length t)) client number body t)
  walk_taken client first number body t comes there low room expected primary w =
      let rec : Record = records.Data (number_of client) number body in
      walk_report (replicate_at (log_length t) rec (take_in rec t))
      (walk_replicate_at (log_length t) rec (take_in rec t) primary (end_at (log_of t) rec) (s.stores t _ _ (appends client first number body comes there low room expected) w))

  walk_append : (client : NodeId) (first number : ℕ) (body : List ℕ) (t : Turn ReplicaState) → Comes n event client (whats.Append first number body)
      → is_primary (me_of t) ≡ true → W t → W (hear_append client first number body t)
  walk_append client first number body t comes primary w =
      let answers : Appended → Type 0 = λ answer. W (appended answer client number body t) in
      on_test W (is_shard_gone t) t _ (λ _. w) (λ there.
      on_test W (nat_lt number (2 ^ 48) && nat_lt (log_length t) (2 ^ 48)) _ t
      (λ fits.
      let tests = and_parts (nat_lt number (2 ^ 48)) (nat_lt (log_length t) (2 ^ 48)) fits in
      on_test answers (number == expected_of (number_of client) first (log_of t)) _ _
      (λ same. walk_taken client first number body t comes there (ltb-true _ _ tests.0) (ltb-true _ _ tests.1) (eqb-true _ _ same) primary w)
      (λ _. on_option answers (λ local. Duplicate local) (local_of (number_of client) number (log_of t)) (Gap (expected_of (number_of client) first (log_of t)))
      (λ local stands. walk_acknowledge client first number body local t comes (ltb-true _ _ tests.0) stands w) w))
      (λ _. w))

  -- ---- Fill

  walk_noops : (log : List Record) (count : ℕ) (t : Turn ReplicaState) → log_of t ≡ log ++ replicate count records.Noop → is_primary (me_of t) ≡ true → W t
      → W (replicate_noops (length log) count t)
  walk_noops log count t has primary w =
      (on_range (λ u. W u × (log_of u ≡ log ++ replicate count records.Noop) × (is_primary (me_of u) ≡ true)) (λ u local. replicate_at local records.Noop u) (length log) count (length log + count) t
      (λ u local from below so_far. (
        walk_replicate_at local records.Noop u so_far.2 (ap (λ (l : List Record). slice_get l local) so_far.1 ∙ filled_at log count local from below) so_far.0,
        so_far.1,
        so_far.2,
      ))
      (omega arith) (w, has, primary)).0

  walk_fill : (from : NodeId) (wanted : ℕ) (t : Turn ReplicaState) → Comes n event from (whats.Fill wanted) → is_primary (me_of t) ≡ true → W t
      → W (hear_fill wanted t)
  walk_fill from wanted t comes primary w =
      on_test W (not (is_shard_gone t) && nat_lt (log_length t) wanted) _ t
      (λ fits.
      let tests = and_parts (not (is_shard_gone t)) (nat_lt (log_length t) wanted) fits in
      walk_report (replicate_noops (log_length t) (fill_count wanted t) (filled (fill_count wanted t) t))
      (walk_noops (log_of t) (fill_count wanted t) (filled (fill_count wanted t) t) refl primary
      (s.stores t _ _ (fills from wanted comes (not-true _ tests.0) (ltb-true _ _ tests.1)) w)))
      (λ _. w)

  -- ---- Replicate

  walk_length : (from : NodeId) (local : ℕ) (rec : Record) (t : Turn ReplicaState) → Comes n event from (whats.Replicate local rec) → W t
      → W (confirm_length from t)
  walk_length from local rec t comes w = s.says t from (whats.Replicated (log_length t)) (tells_length from local rec comes) w

  walk_replicate : (from : NodeId) (local : ℕ) (rec : Record) (t : Turn ReplicaState) → Comes n event from (whats.Replicate local rec) → W t
      → W (hear_replicate from local rec t)
  walk_replicate from local rec t comes w =
      on_test W (local == log_length t) _ _
      (λ next. on_test W (nat_lt (log_length t) (2 ^ 48)) _ t
      (λ room.
      let here = subst (λ (l : ℕ). Comes n event from (whats.Replicate l rec)) (eqb-true _ _ next) comes in
      walk_report (confirm_length from (take_in rec t))
      (walk_length from local rec (take_in rec t) comes (s.stores t (items.Taken rec) _ (copied from rec here (ltb-true _ _ room)) w)))
      (λ _. w))
      (λ _. walk_length from local rec t comes w)

  -- ---- Replicated, Fetch

  walk_replicated : (from : NodeId) (len : ℕ) (t : Turn ReplicaState) → Comes n event from (whats.Replicated len) → W t → W (hear_replicated len t)
  walk_replicated from len t comes w = s.changes t _ (holds from len comes) w

  walk_fetch : (from : NodeId) (local : ℕ) (t : Turn ReplicaState) → Comes n event from (whats.Fetch local) → W t → W (hear_fetch from local t)
  walk_fetch from local t comes w =
      on_test W (nat_lt local (durable_of t)) _ t
      (λ durable. on_option W (λ rec. send from (whats.Deliver local rec) t) (slice_get (log_of t) local) t
      (λ rec at. s.says t from (whats.Deliver local rec) (fetched from local rec comes (ltb-true _ _ durable) at) w) w)
      (λ _. w)

  -- ---- AskFate

  walk_answer : (client : NodeId) (least next : ℕ) (t : Turn ReplicaState) → Answers n event t.state client least next → W t
      → W (answer_fate client least next t)
  walk_answer client least next t answers w =
      on_test W (nat_lt least next) _ _
      (λ below. on_option W (λ local. acknowledge client least local t) (local_of (number_of client) least (log_of t)) t
      (λ local stands. on_option W (λ position. send client (whats.Ack least position) t) (placed (agreed t) (shard_of t) local) t
      (λ position place. s.says t client (whats.Ack least position) (acks_fate client least next local position answers (ltb-true _ _ below) stands place) w) w) w)
      (λ above. s.says t client (whats.Fate next) (fates client least next answers (ltb-false _ _ above)) w)

  walk_fate_at : (end : Option ℕ) (client : NodeId) (first least : ℕ) (t : Turn ReplicaState) → gone_end (agreed t) (shard_of t) ≡ end
      → Comes n event client (whats.AskFate first least) → W t
      → W (fate_at end client first least t)
  walk_fate_at None client first least t gone comes w = w
  walk_fate_at (Some end) client first least t gone comes w =
      on_test W (nat_le end (log_length t)) _ t
      (λ reached. walk_answer client least _ t (record { first = first; comes = comes; end = end; gone = gone; reached = leb-true _ _ reached; expected = refl }) w)
      (λ _. w)

  -- ---- a learned entry

  walk_confirm_record : (local position : ℕ) (rec : Record) (t : Turn ReplicaState) → Confirms n event t.state local position rec → W t
      → W (confirm_record position rec t)
  walk_confirm_record local position (records.Data client number body) t why w =
      let shown = s.shows t (marks.Confirm position (records.Data client number body)) (confirmed local position (records.Data client number body) why) w in
      on_test W (is_primary (me_of t)) _ _ (λ primary. s.says _ (nodes.Client client) (whats.Ack number position) (confirms local position client number body primary why) shown) (λ _. shown)
  walk_confirm_record local position records.Noop t why w =
      let shown = s.shows t (marks.Confirm position records.Noop) (confirmed local position records.Noop why) w in
      on_test W (is_primary (me_of t)) _ _ (λ _. shown) (λ _. shown)

  walk_confirm_at : (before : Agreement) (entry : Entry) (local : ℕ) (position : Option ℕ) (rec : Option Record) (t : Turn ReplicaState)
      → IsNew n event before entry local t.state
      → placed (agreed t) (shard_of t) local ≡ position → slice_get (log_of t) local ≡ rec → W t → W (confirm_at position rec t)
  walk_confirm_at before entry local (Some position) (Some rec) t new place at w =
      walk_confirm_record local position rec t (record { before = before; entry = entry; learned = new.0; later = new.1; covered = new.2; place = place; at = at }) w
  walk_confirm_at before entry local (Some position) None t new place at w = w
  walk_confirm_at before entry local None rec t new place at w = w

  walk_confirm_from : (before : Agreement) (entry : Entry) (t : Turn ReplicaState) → Learned n event t.state before entry → W t
      → W (confirm_from (covered_locals before (shard_of t)) t) × ((confirm_from (covered_locals before (shard_of t)) t).state ≡ t.state)
  walk_confirm_from before entry t learned w =
      let from : ℕ = covered_locals before (shard_of t) in
      on_range (λ u. W u × (u.state ≡ t.state)) confirm from (covered_of t - from) (from + (covered_of t - from)) t
      (λ u local later below so_far.
      let new : IsNew n event before entry local t.state = (learned, later, omega (arith, later, below)) in (
        walk_confirm_at before entry local _ _ u (subst (IsNew n event before entry local) (sym so_far.1) new) refl refl so_far.0,
        confirm_state (placed (agreed u) (shard_of u) local) (slice_get (log_of u) local) u ∙ so_far.1,
      ))
      (omega arith) (w, refl)

  walk_notice : (before : Agreement) (entry : Entry) (effect : Effect) (t : Turn ReplicaState) → Learned n event t.state before entry
      → effect_of before entry ≡ effect → W t → W (notice effect t)
  walk_notice before entry (Removed shard first) t learned removes w =
      let why : Notices n event t.state first = record { before = before; entry = entry; learned = learned; shard = shard; removes = removes } in
      s.changes (show (marks.Notice first) t) _ (cuts first why) (s.shows t (marks.Notice first) (noticed first why) w)
  walk_notice before entry _ t learned removes w = w

  walk_learned : (before : Agreement) (entry : Entry) (t : Turn ReplicaState) → Learned n event t.state before entry → W t → W (on_learned before entry t)
  walk_learned before entry t learned w =
      let told = walk_confirm_from before entry (covered_is_durable t) learned (s.changes t _ (covers before entry learned) w) in
      walk_notice before entry (effect_of before entry) _ (subst (λ (m : Node ReplicaState). Learned n event m before entry) (sym told.1) learned) refl told.0

  -- ---- Tick

  abbrev AtPrimary : Turn ReplicaState → Type 0
  AtPrimary t = W t × (is_primary (me_of t) ≡ true)

  walk_again : (t : Turn ReplicaState) (local : ℕ) → AtPrimary t → AtPrimary (replicate_again t local)
  walk_again t local w =
      on_option AtPrimary (λ rec. replicate_at local rec t) (slice_get (log_of t) local) t (λ rec at. (walk_replicate_at local rec t w.1 at w.0, w.1)) w

  walk_replicate_some : (t : Turn ReplicaState) → W t → W (replicate_some t)
  walk_replicate_some t w =
      on_test W (is_primary (me_of t)) _ t
      (λ primary. (on_fold AtPrimary replicate_again (range_with_len (own_of t).durable 8) t (λ u i local _ so_far. walk_again u local so_far) (w, primary)).0) (λ _. w)

  walk_on_tick : (t : Turn ReplicaState) → event ≡ events.Tick → W t → W (on_tick t)
  walk_on_tick t e w = walk_replicate_some (report (tick t)) (walk_report (tick t) (walk_tick s t e w))

  -- ---- promises

  walk_promise_by : (position : Option ℕ) (rec : Option Record) (t : Turn ReplicaState) → is_primary (me_of t) ≡ true
      → (own_of t).promised < (own_of t).durable → lease_at t (own_of t).promised ≡ position
      → slice_get (log_of t) (own_of t).promised ≡ rec → is_some position ≡ true → W t
      → W (put_own (with_promised ((own_of t).promised + 1) (own_of t)) (promise_record position rec (own_of t).promised t))
  walk_promise_by (Some position) (Some rec) t primary durable lease at free w =
      let why : Promises t.state position rec = record { primary = primary; durable = durable; lease = lease; at = at } in
      let shown = s.shows t (marks.Promise position rec) (promised position rec why) w in
      s.changes _ _ (promises_on durable primary (ap is_some lease ∙ free))
      (walk_sends s (consumers_of (cfg_of t)) (whats.Deliver (own_of t).promised rec) (show (marks.Promise position rec) t) (λ i to there. promises to i position rec there why) shown)
  walk_promise_by (Some position) None t primary durable lease at free w = s.changes t _ (promises_on durable primary (ap is_some lease ∙ free)) w
  walk_promise_by None rec t primary durable lease at free w = absurd (cc)

  walk_promises : (base : Base) (from count : ℕ) (t : Turn ReplicaState) → t.state.base ≡ base → (own_of t).promised ≡ from → count ≤ (own_of t).durable - from
      → is_primary base.me ≡ true → W t
      → W (fold promise t (take_while (λ local. is_some (leased (agreed_by base) (number_of base.me) local)) (range_with_len from count)))
  walk_promises base from zero t same next within primary w = w
  walk_promises base from (suc count) t same next within primary w =
      let test : ℕ → Bool = λ local. is_some (leased (agreed_by base) (number_of base.me) local) in
      subst (λ (locals : List ℕ). W (fold promise t locals)) (sym (take_while-cons test from (range_with_len (from + 1) count)))
      (on_test (λ (locals : List ℕ). W (fold promise t locals)) (test from) (from ∷ take_while test (range_with_len (from + 1) count)) []
      (λ free.
      let here : is_some (lease_at t (own_of t).promised) ≡ true = ap (λ (b : Base). is_some (leased (agreed_by b) (number_of b.me) (own_of t).promised)) same ∙ ap test next ∙ free in
      let one : W (promise t (own_of t).promised) = walk_promise_by _ _ t (ap (λ (b : Base). is_primary b.me) same ∙ primary) (omega (arith, next, within)) refl refl here w in
      walk_promises base (from + 1) count (promise t from) (promise_base (lease_at t from) (slice_get (log_of t) from) from t ∙ same) refl (omega (arith, within)) primary
      (subst (λ (local : ℕ). W (promise t local)) next one))
      (λ _. w))

  walk_promise_all : (t : Turn ReplicaState) → W t → W (promise_all t)
  walk_promise_all t w =
      on_test W (is_primary (me_of t)) _ t
      (λ primary. walk_promises t.state.base (own_of t).promised ((own_of t).durable - (own_of t).promised) t refl refl (omega arith) primary w)
      (λ _. w)

  -- ---- the table

  walk_hear : (from : NodeId) (what : What) → Comes n event from what → W (hear from what (started n))
  walk_hear from (whats.Decided slot count entry) comes = walk_decided s on_learned from slot count entry (started n) walk_learned (λ u told. told) comes s.starts
  walk_hear from (whats.Append first number body) comes =
      walk_append from first number body (started n) comes (comes_to_primary n event from _ (λ sender to goes. (and_parts (is_client sender) (is_primary to) goes).1) comes) s.starts
  walk_hear from (whats.Fill wanted) comes =
      walk_fill from wanted (started n) comes (comes_to_primary n event from _ (λ sender to goes. (and_parts (is_sequencer sender) (is_primary to) goes).1) comes) s.starts
  walk_hear from (whats.Replicate local rec) comes = walk_replicate from local rec (started n) comes s.starts
  walk_hear from (whats.Replicated len) comes = walk_replicated from len (started n) comes s.starts
  walk_hear from (whats.Fetch local) comes = walk_fetch from local (started n) comes s.starts
  walk_hear from (whats.AskFate first least) comes = walk_fate_at (gone_end (agreed (started n)) (shard_of (started n))) from first least (started n) refl comes s.starts
  walk_hear from _ comes = s.starts

-- what an event does by itself
pub replica_handled : (W : Turn ReplicaState → Type 0) (n : Node ReplicaState) (event : Event) → Sites replica_places W n event → W (handle event (started n))
replica_handled W n (events.Deliver message) s = walk_heed s hear message refl (λ comes. walk_hear s message.from message.what comes)
replica_handled W n events.Tick s = walk_on_tick s (started n) refl s.starts
replica_handled W n _ s = s.starts

-- and the whole step
pub replica_walk : (W : Turn ReplicaState → Type 0) (n : Node ReplicaState) (event : Event) → Sites replica_places W n event → W (replica_step n event)
replica_walk W n events.Restart s = s.restarts refl
replica_walk W n (events.Deliver message) s = walk_promise_all s _ (replica_handled W n (events.Deliver message) s)
replica_walk W n events.Tick s = walk_promise_all s _ (replica_handled W n events.Tick s)
replica_walk W n (events.Submit by body) s = walk_promise_all s _ (replica_handled W n (events.Submit by body) s)
replica_walk W n (events.Command command) s = walk_promise_all s _ (replica_handled W n (events.Command command) s)
