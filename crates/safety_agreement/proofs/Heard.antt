-- The promises that an attempt has counted were sent to it: a Promise goes to the attempt of its slot and its ballot alone.
use Rattle.std.proofs.Common.{◌≡◌, ◌∙◌, ℕ, ◌<◌, List, [], ◌∷◌, ◌++◌, Contains, Option, Some, None, inl, inr, ◌⊎◌, refl, sym, ap, subst, arith}
use Rattle.std.proofs.lemmas.List.Elements.{Contains-append_left}
use Rattle.majority.specs.Proposers.{Attempt}
use Rattle.majority.specs.Agreement.{HasPromises, ReportedBy}
use Rattle.majority.proofs.Growth.{HasPromises_kept}
use Rattle.majority.proofs.Heard.{HasPromises_heard}
use Rattle.majority.proofs.Starts.{Contains_alone}
use Rattle.msg_wire.specs.Nodes.{number_of}
use Rattle.msg_wire.specs.Valid.{IsValidConfig}
use Rattle.net_model.specs.Pasts.{Past, sent}
use Rattle.node_rules.specs.Names.{Event}
use Rattle.node_rules.specs.Nodes.{Node, agreed_by}
use Rattle.node_rules.specs.Turns.{Turn}
use Rattle.node_rules.proofs.Places.{unshown_sites}
use Rattle.seq_node.specs.States.{SlotAttempt, SequencerState, with_idle}
use Rattle.seq_node.proofs.Places.{Promising, promise_comes, promise_alone, Stores, promised, accepted, begins_at_once, begins, sends, is_late, is_lower, is_waiting, Changes, waits, hears, reports, wishes, idles}
use Rattle.runs.specs.Names.{NodeId, Config, Entry, Item, Message}
use Rattle.runs.specs.Names.nodes
use Rattle.runs.specs.Kinds.{sequencer_after}
use Rattle.runs.specs.Runs.{Comes as ComesIn, IsPastOf}
use Rattle.safety_frame.proofs.Inductions.{OfStates, every_state}
use Rattle.safety_frame.proofs.Names.{IsNamed, states_named}
use Rattle.safety_frame.proofs.NodeKinds.{after, sequencers}
use Rattle.safety_agreement.specs.Heard.{IsPromised}
use Rattle.safety_agreement.proofs.Standing.{over_or_same, report_leaves}
use Rattle.safety_agreement.proofs.OwnedSteps.{number_below}

-- what was promised to an attempt of the node
abbrev Promised : List Message → NodeId → SlotAttempt → ℕ → Option (ℕ × Entry) → Type 0
Promised messages me a = IsPromised messages me a.slot a.attempt.ballot

abbrev MayHave : List Message → NodeId → Option SlotAttempt → Type 0
MayHave messages me None = Unit {0}
MayHave messages me (Some a) = HasPromises (number_of me) (Promised messages me a) a.attempt

-- it stays so as more is sent
has_on : (messages more : List Message) (me : NodeId) (o : Option SlotAttempt) → MayHave messages me o → MayHave (messages ++ more) me o
has_on messages more me None has = tt
has_on messages more me (Some a) has =
    HasPromises_kept (number_of me) (Promised messages me a) (Promised (messages ++ more) me a)
    (λ other report is. (is.0, Contains-append_left messages more is.0 is.1, is.2, is.3, is.4)) a.attempt has

-- ---- at each place

module _ (cfg : Config) (me : NodeId) (here : number_of me < cfg.seqs) (past : Past) (n : Node SequencerState) (event : Event)
    (taken : ComesIn past me event) where
  promise_is : (s : Node SequencerState) (slot ballot replica : ℕ) (report : Option (ℕ × Entry)) → IsNamed cfg me s
      → Promising n event s slot ballot replica report
      → IsPromised (sent past) me slot ballot replica report ⊎ ((replica ≡ number_of me) × (report ≡ None))
  promise_is s slot ballot _ report named (promise_comes from _ comes) =
      let was = subst (ComesIn past me) comes.same taken in
      inl (comes.message, was.1, was.0, ap number_of comes.by, comes.says)
  promise_is s slot ballot _ _ named (promise_alone one) =
      let few : cfg.seqs ≡ 1 = sym (ap (λ (c : Config). c.seqs) named.0) ∙ one in
      inr (omega (arith, few, here), refl)

  begun_has : (s : Node SequencerState) (slot : ℕ) (a : Attempt Entry) → IsNamed cfg me s → a.promises ≡ number_of s.base.me ∷ [] → a.reported ≡ None
      → HasPromises (number_of me) (IsPromised (sent past) me slot a.ballot) a
  begun_has s slot a named alone none = record {
    heard = λ other there. inl (sym (Contains_alone (number_of s.base.me) other (subst (λ l. Contains l other) alone there)) ∙ ap number_of named.1);
    reported = subst (ReportedBy (IsPromised (sent past) me slot a.ballot) a.promises) (sym none) tt;
  }

  abbrev Has : Option SlotAttempt → Type 0
  Has o = MayHave (sent past) me o

  stores_has : (s : Node SequencerState) (item : Item) (own : SequencerState) → Stores n event s item own → IsNamed cfg me s → Has s.own.attempt
      → Has own.attempt
  stores_has s _ _ (promised from at ballot comes free) named has = has
  stores_has s _ _ (accepted from at ballot entry comes free) named has = has
  stores_has s _ _ (begins_at_once value why) named has = begun_has s _ _ named refl refl
  stores_has s _ _ (begins ballot value why later) named has = begun_has s _ _ named refl refl
  stores_has s _ _ (sends a replica report value counted why) named has =
      let one = HasPromises_heard (number_of me) (Promised (sent past) me a) replica report a.attempt
      (promise_is s a.slot a.attempt.ballot replica report named counted.promise) (subst Has counted.stands has) in
      record { heard = one.heard; reported = one.reported }

  changes_has : (s : Node SequencerState) (own : SequencerState) → Changes n event s own → IsNamed cfg me s → Has s.own.attempt → Has own.attempt
  changes_has s _ (waits a replica report _ counted (is_late late)) named has = subst Has counted.stands has
  changes_has s _ (waits a replica report _ counted (is_lower greater e)) named has = subst Has counted.stands has
  changes_has s _ (waits a replica report _ counted (is_waiting not_yet few)) named has =
      HasPromises_heard (number_of me) (Promised (sent past) me a) replica report a.attempt
      (promise_is s a.slot a.attempt.ballot replica report named counted.promise) (subst Has counted.stands has)
  changes_has s _ (hears a replica value stands why sending) named has =
      let was = subst Has stands has in
      record { heard = was.heard; reported = was.reported }
  changes_has s _ (reports from len comes) named has = subst Has (sym (report_leaves from len s.own)) has
  changes_has s _ (wishes command why room) named has = has
  changes_has s _ (idles why) named has = has

  learns_has : (s : Node SequencerState) (entry : Entry) → Has s.own.attempt → Has (sequencers.learns s entry).attempt
  learns_has s entry has =
      elim (over_or_same s.own.attempt (agreed_by s.base).slots entry (with_idle 0 s.own)) [
        | inl over ↦ subst Has (sym over) tt
        | inr same ↦ subst Has (sym same) has
      ]

  step_has : IsNamed cfg me n → Has n.own.attempt → Has (sequencers.step n event).state.own.attempt
  step_has named has =
      (sequencers.walk _ n event
      (unshown_sites (λ (t : Turn SequencerState). IsNamed cfg me t.state × Has t.state.own.attempt)
      (record {
        starts = (named, has);
        restarts = λ e. (named, tt);
        learns = λ t entry why w. (w.0, learns_has t.state entry w.1);
        stores = λ t item own why w. (w.0, stores_has t.state item own why w.0 w.1);
        changes = λ t own why w. (w.0, changes_has t.state own why w.0 w.1);
      }))).1

-- ---- runs

all_have : (cfg : Config) (valid : IsValidConfig cfg) (past : Past) → IsPastOf cfg past
    → OfStates sequencers cfg valid (λ past node n. MayHave (sent past) node n.own.attempt) past
all_have cfg valid =
    every_state sequencers cfg valid (λ past node n. MayHave (sent past) node n.own.attempt)
    (record {
      starts = λ node one here. tt;
      steps = λ e past run one before.
          let n = after sequencers cfg e.node past in
          let named = states_named sequencers cfg valid past run.1 e.node one run.0.within in
          has_on (sent past) e.sends e.node (sequencers.step n e.event).state.own.attempt
          (step_has cfg e.node (number_below cfg e.node run.0.within one) past n e.event run.0.comes named (before e.node one run.0.within));
      stays = λ e past node n run other has. has_on (sent past) e.sends node n.own.attempt has;
    })

pub promises_were_sent : (cfg : Config) (past : Past) → IsValidConfig cfg → IsPastOf cfg past → (number : ℕ) (a : SlotAttempt) → number < cfg.seqs
    → (sequencer_after cfg number past).own.attempt ≡ Some a → HasPromises number (Promised (sent past) (nodes.Seq number) a) a.attempt
promises_were_sent cfg past valid run number a here stands =
    subst (MayHave (sent past) (nodes.Seq number)) stands (all_have cfg valid past run (nodes.Seq number) refl here)
