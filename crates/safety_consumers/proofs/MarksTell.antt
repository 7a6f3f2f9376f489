-- Of every run: what a consumer applies or confirms is the record of the position's owner, by what it knows as it shows it.
use Rattle.std.proofs.Common.{◌≡◌, ◌∙◌, ℕ, List, [], ◌∷◌, ◌++◌, length, slice_get, Option, Some, refl, sym, ap, subst, inl, inr}
use Rattle.std.specs.List.{AllByRecursion}
use Rattle.std.proofs.lemmas.Bool.{cases_lt}
use Rattle.std.proofs.lemmas.List.Elements.{filter_map-append}
use Rattle.std.proofs.lemmas.Option.{slice_get_within}
use Rattle.fix_ante.proofs.Entries.{slice_get_append_left}
use Rattle.cut_core.specs.Agreements.{Agreement}
use Rattle.msg_wire.specs.Valid.{IsValidConfig}
use Rattle.net_model.specs.Pasts.{Past, marks_of}
use Rattle.consumer_node.specs.Apps.{any_meaning}
use Rattle.consumer_node.specs.Steps.{consumer_step}
use Rattle.runs.specs.Names.{NodeId, Config, Entry, Record, Mark, HistoryEntry}
use Rattle.runs.specs.Names.nodes
use Rattle.runs.specs.Names.marks
use Rattle.runs.specs.Runs.{IsPastOf}
use Rattle.runs.specs.Kinds.{consumer_after, items_at}
use Rattle.runs.specs.Known.{agreed_after, agreed_at}
use Rattle.runs.specs.Marks.{IsPrefix, confirmation_in, confirmations, confirmed_list, applied_by, applied_log}
use Rattle.safety_frame.proofs.NodeKinds.{after, consumers}
use Rattle.safety_frame.proofs.Pasts.{of_sequencer, of_replica, of_client, of_consumer}
use Rattle.safety_frame.proofs.Lists.{index_stays, all_true, all_back}
use Rattle.safety_frame.proofs.Clauses.{every_mark}
use Rattle.safety_frame.specs.EveryRun.{OfEveryRun}
use Rattle.safety_logs.proofs.Growing.{held_grows}
use Rattle.safety_consumers.specs.Owned.{held_logs, IsOwned, IsSettled, MarkIsTrue, ConsumersMarkTells, ConsumersMarksTell}
use Rattle.safety_consumers.proofs.EachConsumer.{marks_more, knows_more, sound_before}
use Rattle.safety_consumers.proofs.Told.{tells}
use Rattle.safety_consumers.proofs.Settling.{AreSettled, settled_grown}
use Rattle.safety_consumers.proofs.Settled.{confirmations_settled, confirmed_is_the_prefix, applied_is_held}
use Rattle.safety_consumers.proofs.Applying.{Stands, step_stands}

-- ---- it stays true

mark_grown : (logs more : ℕ → List Record) (a : Agreement) (mark : Mark) → ((shard : ℕ) → IsPrefix (logs shard) (more shard)) → MarkIsTrue logs a mark
    → MarkIsTrue more a mark
mark_grown logs more a (marks.Apply position rec) grow is =
    let o = is.owner in
    record { owner = o; there = is.there; stands = index_stays (logs o.shard) (more o.shard) o.local rec (grow o.shard) is.stands }
mark_grown logs more a (marks.Confirm position rec) grow is = settled_grown logs more a position rec grow is
mark_grown logs more a mark grow is = tt

tells_on : (cfg : Config) → IsValidConfig cfg → (e : HistoryEntry) (past : Past) → IsPastOf cfg (e ∷ past) → (node : NodeId) (known : List Entry) (mark : Mark)
    → ConsumersMarkTells cfg past node known mark
    → ConsumersMarkTells cfg (e ∷ past) node known mark
tells_on cfg valid e past run (nodes.Consumer number) known mark is =
    mark_grown (held_logs cfg past) (held_logs cfg (e ∷ past)) (agreed_after cfg known) mark (λ shard. (held_grows cfg e past shard valid run).held) is
tells_on cfg valid e past run node known mark is = tt

-- ---- the marks of a step

-- where confirmations are settled, and what is applied stands in a log whose records are owned
marks_true : (logs : ℕ → List Record) (a : Agreement) (log : List Record) (shown : List Mark)
    → ((position : ℕ) (rec : Record) → slice_get log position ≡ Some rec → IsOwned logs a position (Some rec))
    → AreSettled logs a (confirmations shown) → AllByRecursion (Stands log) shown → AllByRecursion (MarkIsTrue logs a) shown
marks_true logs a log [] owned settled stand = tt
marks_true logs a log (marks.Apply position rec ∷ shown) owned settled stand = (
  owned position rec stand.0,
  marks_true logs a log shown owned settled stand.1,
)
marks_true logs a log (marks.Confirm position rec ∷ shown) owned settled stand = (settled.0, marks_true logs a log shown owned settled.1 stand.1)
marks_true logs a log (mark ∷ shown) owned settled stand = (tt, marks_true logs a log shown owned settled stand.1)

module _ (cfg : Config) (valid : IsValidConfig cfg) where
  -- what is applied at a position is owned, confirmed or not
  owned_at : (past : Past) → IsPastOf cfg past → (consumer position : ℕ) (rec : Record) → slice_get (applied_log consumer past) position ≡ Some rec
      → IsOwned (held_logs cfg past) (agreed_at cfg (nodes.Consumer consumer) past) position (Some rec)
  owned_at past run consumer position rec at =
      let is = tells cfg valid past run consumer in
      let list = confirmed_list consumer past in
      let Owned : Option Record → Type 0 = IsOwned (held_logs cfg past) (agreed_at cfg (nodes.Consumer consumer) past) position in
      elim (cases_lt position (length list)) [
        | inl below ↦
            subst Owned
            (sym (slice_get_append_left list (consumer_after cfg consumer past).own.pending position below)
            ∙ (ap (λ l. slice_get l position) (sym is.applied) ∙ at)) (confirmed_is_the_prefix cfg past valid run consumer position below)
        | inr above ↦
            subst Owned at
            (applied_is_held cfg past valid run consumer position above (slice_get_within (applied_log consumer past) position rec at))
      ]

  step_true : (e : HistoryEntry) (past : Past) (number : ℕ) → IsPastOf cfg (e ∷ past) → e.node ≡ nodes.Consumer number
      → (let t = consumer_step any_meaning (consumer_after cfg number past) e.event in
      AllByRecursion (ConsumersMarkTells cfg (e ∷ past) (nodes.Consumer number) t.state.base.known) t.marks)
  step_true e past number run same =
      let now : Past = e ∷ past in
      let node : NodeId = nodes.Consumer number in
      let n = consumer_after cfg number past in
      let before = marks_of node past in
      let shown = (consumer_step any_meaning n e.event).marks in
      let logs = held_logs cfg now in
      let more : marks_of node now ≡ before ++ shown = marks_more cfg e past number run same in
      let all : AreSettled logs (agreed_at cfg node now) (confirmations before ++ confirmations shown) =
      subst (AreSettled logs (agreed_at cfg node now)) (ap confirmations more ∙ filter_map-append confirmation_in before shown)
      (confirmations_settled cfg valid now run number) in
      let settled : AreSettled logs (agreed_at cfg node now) (confirmations shown) =
      all_back (λ (c : ℕ × Record). IsSettled logs (agreed_at cfg node now) c.0 c.1) (confirmations before) (confirmations shown) all in
      let stands : AllByRecursion (Stands (applied_log number now)) shown =
      subst (λ l. AllByRecursion (Stands (applied_by l)) shown) (sym more)
      (step_stands cfg.app before (items_at cfg node past) n e.event run.0.valid (sound_before cfg e past number run same valid)
      (tells cfg valid past run.1 number)) in
      subst (λ known. AllByRecursion (MarkIsTrue logs (agreed_after cfg known)) shown) (sym (knows_more cfg e past number run same valid))
      (marks_true logs (agreed_at cfg node now) (applied_log number now) shown (owned_at now run number) settled stands)

  abbrev NoneTell : Past → NodeId → Type 0
  NoneTell past node = (known : List Entry) (shown : List Mark) → AllByRecursion (ConsumersMarkTells cfg past node known) shown

  marks_tell : (past : Past) → IsPastOf cfg past → ConsumersMarksTell cfg past
  marks_tell =
      every_mark cfg valid (ConsumersMarkTells cfg)
      (record {
        stays = λ e past x run there is. tells_on cfg valid e past run x.node x.known x.mark is;
        at_sequencers = λ e past run one before.
            of_sequencer (NoneTell (e ∷ past)) (λ number known shown. all_true _ shown (λ mark. tt)) e.node one _ _;
        at_replicas = λ e past run one before.
            of_replica (NoneTell (e ∷ past)) (λ shard side known shown. all_true _ shown (λ mark. tt)) e.node one _ _;
        at_clients = λ e past run one before.
            of_client (NoneTell (e ∷ past)) (λ number known shown. all_true _ shown (λ mark. tt)) e.node one _ _;
        at_consumers = λ e past run one before.
            of_consumer
            (λ node. e.node ≡ node
            → AllByRecursion (ConsumersMarkTells cfg (e ∷ past) node (consumers.step (after consumers cfg node past) e.event).state.base.known)
            (consumers.step (after consumers cfg node past) e.event).marks) (λ number same. step_true e past number run same) e.node one refl;
      })

pub consumers_marks_tell : OfEveryRun ConsumersMarksTell
consumers_marks_tell cfg past valid run = marks_tell cfg valid past run
