-- Of every run: what a consumer holds, confirms and applies are records of the shards' logs, since what was delivered is.
use Rattle.std.proofs.Common.{◌≡◌, ◌∙◌, ℕ, zero, suc, ◌+◌, ◌-◌, ◌<◌, true, List, [], ◌∷◌, ◌++◌}
use Rattle.std.proofs.Common.{map, length, slice_get, Some, option_map, sym, ap, subst, arith}
use Rattle.std.specs.List.{range_with_len}
use Rattle.std.proofs.lemmas.Bool.{false≢true}
use Rattle.std.proofs.lemmas.Option.{slice_get-map}
use Rattle.fix_ante.proofs.Entries.{slice_get_append_right}
use Rattle.cut_core.specs.Agreements.{Agreement}
use Rattle.cut_core.specs.Map.{mapped}
use Rattle.cut_core.proofs.Dense.{range_with_len_head}
use Rattle.msg_wire.specs.Heeded.{goes_between}
use Rattle.msg_wire.specs.Nodes.{number_of}
use Rattle.msg_wire.specs.Valid.{IsValidConfig}
use Rattle.net_model.specs.Pasts.{Past, marks_of}
use Rattle.node_rules.specs.Nodes.{agreed_by}
use Rattle.node_rules.proofs.Lists.{all_at, all_weaken}
use Rattle.node_rules.proofs.Places.{Comes}
use Rattle.app_law.specs.declared.any_app.AnyApp.{AnyApp}
use Rattle.consumer_node.specs.Apps.{any_meaning}
use Rattle.consumer_node.specs.States.{ConsumerState}
use Rattle.consumer_node.specs.Sound.{IsOwn}
use Rattle.consumer_node.specs.Steps.{consumer_step}
use Rattle.consumer_node.proofs.Applied.{applied_at, some_at}
use Rattle.runs.specs.Names.{NodeId, Config, Record, What, HistoryEntry}
use Rattle.runs.specs.Names.nodes
use Rattle.runs.specs.Names.whats
use Rattle.runs.specs.Runs.{IsPastOf}
use Rattle.runs.specs.Kinds.{consumer_after}
use Rattle.runs.specs.Known.{agreed_at}
use Rattle.runs.specs.Marks.{confirmations, confirmed_list, applied_log}
use Rattle.safety_frame.proofs.Pasts.{other_shown}
use Rattle.safety_frame.proofs.Lists.{index_stays}
use Rattle.safety_frame.proofs.Heeding.{messages_are_heeded}
use Rattle.safety_frame.specs.EveryRun.{OfEveryRun}
use Rattle.safety_logs.specs.LogClauses.{DeliverStands}
use Rattle.safety_logs.proofs.Coming.{was_sent}
use Rattle.safety_logs.proofs.Delivered.{delivers_stand}
use Rattle.safety_logs.proofs.Growing.{held_grows}
use Rattle.safety_consumers.specs.Owned.{AreOfLogs, held_logs, HeldIsTrue, IsOwned, IsSettled, ConfirmedIsThePrefix, AppliedIsHeld}
use Rattle.safety_consumers.proofs.EachConsumer.{Consumer, every_consumer, marks_more, sound_before}
use Rattle.safety_consumers.proofs.Telling.{confirmed_count, confirmed_long, applied_long}
use Rattle.safety_consumers.proofs.Told.{tells}
use Rattle.safety_consumers.proofs.Covered.{agreed_is, owns}
use Rattle.safety_consumers.proofs.Holding.{held_fresh, held_grown, held_stands}
use Rattle.safety_consumers.proofs.Settling.{AreSettled, settled_grown, step_settles}

-- ---- what was delivered

by_replica : (cfg : Config) (past : Past) (from to : NodeId) (local : ℕ) (rec : Record) → goes_between (whats.Deliver local rec) from to ≡ true
    → DeliverStands cfg past from (whats.Deliver local rec) → slice_get (held_logs cfg past (number_of from)) local ≡ Some rec
by_replica cfg past (nodes.Shard shard side) to local rec goes stands = stands
by_replica cfg past (nodes.Seq number) to local rec goes stands = absurd (false≢true goes)
by_replica cfg past (nodes.Client number) to local rec goes stands = absurd (false≢true goes)
by_replica cfg past (nodes.Consumer number) to local rec goes stands = absurd (false≢true goes)

module _ (cfg : Config) (valid : IsValidConfig cfg) where
  delivered : (e : HistoryEntry) (past : Past) (n : Consumer) → IsPastOf cfg (e ∷ past) → (from : NodeId) (local : ℕ) (rec : Record)
      → Comes n e.event from (whats.Deliver local rec) → slice_get (held_logs cfg past (number_of from)) local ≡ Some rec
  delivered e past n run from local rec comes =
      let m = was_sent n e past from (whats.Deliver local rec) run.0.comes comes in
      let goes = ((messages_are_heeded cfg past valid run.1).messages m.message m.there).between in
      let stands = delivers_stand cfg past valid run.1 m.message m.there in
      subst (λ (node : NodeId). slice_get (held_logs cfg past (number_of node)) local ≡ Some rec) m.by
      (by_replica cfg past m.message.from m.message.to local rec
      (subst (λ (what : What). goes_between what m.message.from m.message.to ≡ true) m.says goes)
      (subst (DeliverStands cfg past m.message.from) m.says stands))

  -- ---- what is held, and what is confirmed

  abbrev Settled : Past → ℕ → Consumer → Type 0
  Settled past number n =
      AreOfLogs (held_logs cfg past) n.own.lanes × AreSettled (held_logs cfg past) (agreed_by n.base) (confirmations (marks_of (nodes.Consumer number) past))

  grown : (e : HistoryEntry) (past : Past) → IsPastOf cfg (e ∷ past) → (number : ℕ) (n : Consumer) → Settled past number n
      → AreOfLogs (held_logs cfg (e ∷ past)) n.own.lanes
      × AreSettled (held_logs cfg (e ∷ past)) (agreed_by n.base) (confirmations (marks_of (nodes.Consumer number) past))
  grown e past run number n is =
      let logs = held_logs cfg past in
      let more = held_logs cfg (e ∷ past) in
      let grow = λ (shard : ℕ). (held_grows cfg e past shard valid run).held in (
        held_grown logs more n.own.lanes grow is.0,
        all_weaken (λ (c : ℕ × Record). IsSettled logs (agreed_by n.base) c.0 c.1) (λ c. IsSettled more (agreed_by n.base) c.0 c.1)
            (confirmations (marks_of (nodes.Consumer number) past)) (λ c one. settled_grown logs more (agreed_by n.base) c.0 c.1 grow one) is.1,
      )

  settled : (past : Past) → IsPastOf cfg past → (number : ℕ) → Settled past number (consumer_after cfg number past)
  settled =
      every_consumer cfg valid Settled
      (record {
        starts = λ number. (held_fresh (held_logs cfg []), tt);
        steps = λ e past number run same before.
            let n = consumer_after cfg number past in
            let logs = held_logs cfg (e ∷ past) in
            let now = grown e past run number n before in
            let arrives = λ (from : NodeId) (local : ℕ) (rec : Record) (comes : Comes n e.event from (whats.Deliver local rec)).
            index_stays (held_logs cfg past (number_of from)) (logs (number_of from)) local rec (held_grows cfg e past (number_of from) valid run).held
            (delivered e past n run from local rec comes) in
            let sound = sound_before cfg e past number run same valid in
            let after = step_settles logs (marks_of (nodes.Consumer number) past) n e.event run.0.valid arrives sound now.0 now.1 in
            let a : Agreement = agreed_by (consumer_step any_meaning n e.event).state.base in
            (after.0, subst (λ l. AreSettled logs a (confirmations l)) (sym (marks_more cfg e past number run same)) after.1);
        stays = λ e past number n run other before.
            let now = grown e past run number n before in
            let same = other_shown (nodes.Consumer number) e past other in
            (now.0, subst (λ l. AreSettled (held_logs cfg (e ∷ past)) (agreed_by n.base) (confirmations l)) (sym same) now.1);
      })

-- ---- the clauses

-- confirmations whose positions are counted have each its own place
counted_at : (confirmed : List (ℕ × Record)) (from count i : ℕ) (c : ℕ × Record) → map (λ x. x.0) confirmed ≡ range_with_len from count
    → slice_get confirmed i ≡ Some c → c.0 ≡ from + i
counted_at [] from count i c counted at = absurd (cc)
counted_at (x ∷ confirmed) from count zero c counted at =
    let head = range_with_len_head from count x.0 (map (λ x. x.0) confirmed) counted in
    let same : x ≡ c = cc in
    omega (arith, head.2, ap (λ (y : ℕ × Record). y.0) same)
counted_at (x ∷ confirmed) from count (suc i) c counted at =
    let head = range_with_len_head from count x.0 (map (λ x. x.0) confirmed) counted in
    omega (arith, counted_at confirmed (from + 1) head.0 i c head.3 at)

-- so the record of each is that of its position's owner
owned_at : (logs : ℕ → List Record) (a : Agreement) (confirmed : List (ℕ × Record)) (count position : ℕ)
    → map (λ x. x.0) confirmed ≡ range_with_len 0 count → AreSettled logs a confirmed → position < length confirmed
    → IsOwned logs a position (slice_get (map (λ x. x.1) confirmed) position)
owned_at logs a confirmed count position counted settled below =
    let found = some_at confirmed position below in
    let c = found.0 in
    let place : c.0 ≡ position = counted_at confirmed 0 count position c counted found.1 ∙ omega arith in
    let one : IsOwned logs a c.0 (Some c.1) = (all_at (λ x. IsSettled logs a x.0 x.1) confirmed position c settled found.1).owned in
    record { owner = one.owner; there = ap (mapped a) (sym place) ∙ one.there; stands = one.stands ∙ sym (slice_get-map (λ x. x.1) confirmed position ∙ ap (option_map (λ x. x.1)) found.1) }

-- and so is that of each record that is applied beyond
owned_beyond : (logs : ℕ → List Record) (a : Agreement) (s : ConsumerState AnyApp) (log first : List Record) (i position : ℕ) → IsOwn a s
    → AreOfLogs logs s.lanes → log ≡ first ++ s.pending → length first ≡ s.confirmed → position ≡ s.confirmed + i → i < length s.pending
    → IsOwned logs a position (slice_get log position)
owned_beyond logs a s log first i position own held is long place below =
    let at = applied_at a s i below (own.applied i below) in
    let o = at.owner in
    let there : slice_get log position ≡ Some at.rec =
    ap (λ l. slice_get l position) is
    ∙ (ap (slice_get (first ++ s.pending)) place ∙ (slice_get_append_right first s.pending s.confirmed i long ∙ at.applied)) in
    record { owner = o; there = ap (mapped a) place ∙ at.position; stands = held_stands logs s.lanes o.shard o.local at.rec held at.held ∙ sym there }

pub held_is_true : OfEveryRun HeldIsTrue
held_is_true cfg past valid run consumer = (settled cfg valid past run consumer).0

-- each confirmation of a consumer, by what it knows now
pub confirmations_settled : (cfg : Config) → IsValidConfig cfg → (past : Past) → IsPastOf cfg past → (consumer : ℕ)
    → AreSettled (held_logs cfg past) (agreed_at cfg (nodes.Consumer consumer) past) (confirmations (marks_of (nodes.Consumer consumer) past))
confirmations_settled cfg valid past run consumer =
    subst (λ (a : Agreement). AreSettled (held_logs cfg past) a (confirmations (marks_of (nodes.Consumer consumer) past)))
    (agreed_is cfg valid past run consumer) (settled cfg valid past run consumer).1

pub confirmed_is_the_prefix : OfEveryRun ConfirmedIsThePrefix
confirmed_is_the_prefix cfg past valid run consumer position below =
    let is = tells cfg valid past run consumer in
    owned_at (held_logs cfg past) (agreed_at cfg (nodes.Consumer consumer) past) (confirmations (marks_of (nodes.Consumer consumer) past))
    (consumer_after cfg consumer past).own.confirmed position is.counted (confirmations_settled cfg valid past run consumer)
    (omega (arith, below, confirmed_long is, confirmed_count is))

pub applied_is_held : OfEveryRun AppliedIsHeld
applied_is_held cfg past valid run consumer position past_confirmed below =
    let own = (consumer_after cfg consumer past).own in
    let is = tells cfg valid past run consumer in
    owned_beyond (held_logs cfg past) (agreed_at cfg (nodes.Consumer consumer) past) own (applied_log consumer past) (confirmed_list consumer past)
    (position - own.confirmed) position (owns cfg valid past run consumer) (held_is_true cfg past valid run consumer) is.applied (confirmed_long is)
    (omega (arith, past_confirmed, confirmed_long is)) (omega (arith, past_confirmed, below, confirmed_long is, applied_long is))
