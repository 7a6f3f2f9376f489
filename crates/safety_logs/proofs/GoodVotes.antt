-- What a sequencer's step votes for is good at its slot: what it is asked to vote for or was promised was voted before, and what it begins with is
-- good after what it knows.
use Rattle.std.proofs.Common.{◌≡◌, ℕ, ◌%◌, List, [], ◌∷◌, ◌++◌, length, Contains, Option, Some, None, inl, inr, sym, subst, arith}
use Rattle.std.specs.List.{AllByRecursion}
use Rattle.majority.specs.Acceptors.{AcceptorState}
use Rattle.majority.specs.Proposers.{greater_report, value_to_send, with_heard}
use Rattle.msg_wire.specs.Valid.{IsValidConfig}
use Rattle.net_model.specs.Pasts.{Past}
use Rattle.node_rules.specs.Nodes.{Node, agreed_by}
use Rattle.node_rules.specs.Turns.{Turn}
use Rattle.node_rules.proofs.Lists.{all_push}
use Rattle.node_rules.proofs.Places.{unshown_sites}
use Rattle.seq_node.specs.States.{SlotAttempt, SequencerState, acceptor_at, with_idle}
use Rattle.seq_node.proofs.Places.{Promising, promise_comes, promise_alone, Begins, Stores, promised, accepted, begins_at_once, begins, sends, is_late, is_lower, is_waiting, Changes, waits, hears, reports, wishes, idles}
use Rattle.runs.specs.Names.{NodeId, Config, Entry, Item, HistoryEntry}
use Rattle.runs.specs.Names.nodes
use Rattle.runs.specs.Names.items
use Rattle.runs.specs.Names.whats
use Rattle.runs.specs.Runs.{IsPastOf}
use Rattle.runs.specs.Kinds.{items_at}
use Rattle.runs.specs.Known.{agreed_after}
use Rattle.runs.specs.Marks.{IsPrefix}
use Rattle.safety_frame.specs.AgreedList.{agreed_list}
use Rattle.safety_frame.proofs.Acceptors.{acceptors_by_items}
use Rattle.safety_frame.proofs.Lists.{begins_more, begins_on}
use Rattle.safety_frame.proofs.NodeKinds.{after, sequencers}
use Rattle.majority.specs.Agreement.{ToldOf}
use Rattle.safety_agreement.specs.Votes.{Voted}
use Rattle.safety_agreement.proofs.Votes.{owners_voted}
use Rattle.safety_agreement.proofs.Promises.{promises_tell}
use Rattle.safety_agreement.proofs.Standing.{over_or_same, report_leaves}
use Rattle.safety_logs.specs.Counting.{counted, counted_by}
use Rattle.safety_logs.specs.Cuts.{IsGoodWhere, IsGoodAt, IsGoodItem}
use Rattle.safety_logs.proofs.Coming.{was_sent}
use Rattle.safety_logs.proofs.GoodCuts.{good_on, good_next}
use Rattle.safety_logs.proofs.GoodValues.{value_good}
use Rattle.safety_logs.proofs.Goodness.{MayBeGood, AttemptIsGood, AcceptorsAreGood, greater_good, reported_good, acceptor_good}
use Rattle.safety_logs.proofs.Growing.{held_grows}
use Rattle.safety_logs.proofs.Reports.{Keeps, over_kept, stores_kept, changes_kept, none_up_to, primaries_in, backups_in, reports_told}
use Rattle.safety_logs.proofs.Wishes.{good_later}

module _ (cfg : Config) (valid : IsValidConfig cfg) (e : HistoryEntry) (past : Past) (run : IsPastOf cfg (e ∷ past))
    (before : (node : NodeId) (item : Item) → Contains (items_at cfg node past) item → IsGoodItem cfg past item) where
  abbrev now : Past
  now = e ∷ past

  abbrev n : Node SequencerState
  n = after sequencers cfg e.node past

  abbrev Kept : SequencerState → Type 0
  Kept = Keeps (primaries_in cfg valid past) (backups_in cfg valid past)

  -- a vote of before
  voted_good : (node : NodeId) (slot ballot : ℕ) (entry : Entry) → Contains (items_at cfg node past) (items.Accepted slot ballot entry)
      → IsGoodAt cfg now slot entry
  voted_good node slot ballot entry there = good_on cfg valid e past run slot entry (before node (items.Accepted slot ballot entry) there)

  pub told_good : (slot ballot number : ℕ) (report : Option (ℕ × Entry)) → ToldOf (Voted cfg past slot number) ballot report → MayBeGood cfg now slot report
  told_good slot ballot number None tells = tt
  told_good slot ballot number (Some report) tells = voted_good (nodes.Seq number) slot report.0 report.1 tells.1

  promise_good : (s : Node SequencerState) (slot ballot replica : ℕ) (report : Option (ℕ × Entry)) → Promising n e.event s slot ballot replica report
      → MayBeGood cfg now slot report
  promise_good s slot ballot _ report (promise_comes from _ comes) =
      let was = was_sent n e past from (whats.Promise slot ballot report) run.0.comes comes in
      told_good slot ballot _ report (promises_tell cfg past valid run.1 was.message slot ballot report was.there was.says).tells
  promise_good s slot ballot _ _ (promise_alone one) = tt

  begun_good : (s : Node SequencerState) (ballot : ℕ) (value : Entry) → Begins s ballot value → s.base.cfg ≡ cfg → Kept s.own
      → IsPrefix s.base.known (agreed_list cfg now) → IsGoodAt cfg now (length s.base.known) value
  begun_good s ballot value why named keeps begins_agreed =
      let counts = λ (shard : ℕ). counted cfg (agreed_by s.base) shard now in
      good_next cfg now s.base.known value begins_agreed
      (subst (λ (c : Config). IsGoodWhere counts (agreed_after c s.base.known) value) named
      (good_later (counted_by (agreed_by s.base) s.own) counts (agreed_by s.base) value
      (λ shard. omega (arith, keeps.0 shard, keeps.1 shard, (held_grows cfg e past shard valid run).counts (agreed_by s.base))) (value_good (agreed_by s.base) s.own value why.value_is)))

  -- of a node whose known entries begin the agreed list
  abbrev IsGood : Node SequencerState → Type 0
  IsGood s = AttemptIsGood cfg now s.own.attempt × AcceptorsAreGood cfg now s.own

  sent_good : (s : Node SequencerState) (a : SlotAttempt) (replica : ℕ) (report : Option (ℕ × Entry)) → s.own.attempt ≡ Some a
      → Promising n e.event s a.slot a.attempt.ballot replica report
      → IsGood s → IsGoodAt cfg now a.slot (value_to_send (acceptor_at s.own a.slot) (with_heard replica report a.attempt))
  sent_good s a replica report stands promising good =
      let attempt = subst (AttemptIsGood cfg now) stands good.0 in
      reported_good cfg now a.slot (greater_report (acceptor_at s.own a.slot).accepted (greater_report a.attempt.reported report)) a.attempt.wish
      (greater_good cfg now a.slot (acceptor_at s.own a.slot).accepted (greater_report a.attempt.reported report) (good.1 a.slot)
      (greater_good cfg now a.slot a.attempt.reported report attempt.1 (promise_good s a.slot a.attempt.ballot replica report promising))) attempt.0

  item_good : (s : Node SequencerState) (item : Item) (own : SequencerState) → Stores n e.event s item own → s.base.cfg ≡ cfg → Kept s.own
      → IsPrefix s.base.known (agreed_list cfg now) → IsGood s → IsGoodItem cfg now item
  item_good s _ _ (promised from slot ballot comes free) named keeps begins_agreed good = tt
  item_good s _ _ (accepted from slot ballot entry comes free) named keeps begins_agreed good =
      let was = was_sent n e past from (whats.Accept slot ballot entry) run.0.comes comes in
      voted_good (nodes.Seq (ballot % cfg.seqs)) slot ballot entry ((owners_voted cfg past valid run.1).asked was.message slot ballot entry was.there was.says)
  item_good s _ _ (begins_at_once value why) named keeps begins_agreed good = begun_good s 0 value why named keeps begins_agreed
  item_good s _ _ (begins ballot value why later) named keeps begins_agreed good = tt
  item_good s _ _ (sends a replica report value counts why) named keeps begins_agreed good =
      subst (IsGoodAt cfg now a.slot) why.value_is (sent_good s a replica report counts.stands counts.promise good)

  stores_good : (s : Node SequencerState) (item : Item) (own : SequencerState) → Stores n e.event s item own → s.base.cfg ≡ cfg → Kept s.own
      → IsPrefix s.base.known (agreed_list cfg now) → IsGood s → AttemptIsGood cfg now own.attempt
  stores_good s _ _ (promised from slot ballot comes free) named keeps begins_agreed good = good.0
  stores_good s _ _ (accepted from slot ballot entry comes free) named keeps begins_agreed good = good.0
  stores_good s _ _ (begins_at_once value why) named keeps begins_agreed good = (begun_good s 0 value why named keeps begins_agreed, tt)
  stores_good s _ _ (begins ballot value why later) named keeps begins_agreed good = (begun_good s ballot value why named keeps begins_agreed, tt)
  stores_good s _ _ (sends a replica report value counts why) named keeps begins_agreed good =
      let was = subst (AttemptIsGood cfg now) counts.stands good.0 in
      (was.0, greater_good cfg now a.slot a.attempt.reported report was.1 (promise_good s a.slot a.attempt.ballot replica report counts.promise))

  changes_good : (s : Node SequencerState) (own : SequencerState) → Changes n e.event s own → IsGood s → AttemptIsGood cfg now own.attempt
  changes_good s _ (waits a replica report _ counts (is_late late)) good = subst (AttemptIsGood cfg now) counts.stands good.0
  changes_good s _ (waits a replica report _ counts (is_lower greater lower)) good = subst (AttemptIsGood cfg now) counts.stands good.0
  changes_good s _ (waits a replica report _ counts (is_waiting early few)) good =
      let was = subst (AttemptIsGood cfg now) counts.stands good.0 in
      (was.0, greater_good cfg now a.slot a.attempt.reported report was.1 (promise_good s a.slot a.attempt.ballot replica report counts.promise))
  changes_good s _ (hears a replica value stands why sending) good = subst (AttemptIsGood cfg now) stands good.0
  changes_good s _ (reports from len comes) good = subst (AttemptIsGood cfg now) (sym (report_leaves from len s.own)) good.0
  changes_good s _ (wishes command why room) good = good.0
  changes_good s _ (idles why) good = good.0

  learned_good : (s : Node SequencerState) (entry : Entry) → AttemptIsGood cfg now s.own.attempt → AttemptIsGood cfg now (sequencers.learns s entry).attempt
  learned_good s entry good =
      elim (over_or_same s.own.attempt (agreed_by s.base).slots entry (with_idle 0 s.own)) [
        | inl over ↦ subst (AttemptIsGood cfg now) (sym over) tt
        | inr same ↦ subst (AttemptIsGood cfg now) (sym same) good
      ]

  -- as long as what is known begins the agreed list, all is good
  abbrev AllGood : Turn SequencerState → Type 0
  AllGood t = IsGood t.state × AllByRecursion (IsGoodItem cfg now) t.stable

  abbrev Holds : Turn SequencerState → Type 0
  Holds t = (t.state.base.cfg ≡ cfg) × Kept t.state.own × (IsPrefix t.state.base.known (agreed_list cfg now) → AllGood t)

  pub step_good : n.base.cfg ≡ cfg → Kept n.own → AttemptIsGood cfg now n.own.attempt → AcceptorsAreGood cfg now n.own
      → IsPrefix (sequencers.step n e.event).state.base.known (agreed_list cfg now)
      → AllByRecursion (IsGoodItem cfg now) (sequencers.step n e.event).stable
  step_good named keeps attempt acceptors begins_agreed =
      let told = reports_told cfg valid e past run n in
      let parts = acceptors_by_items in
      ((sequencers.walk _ n e.event
      (unshown_sites Holds
      (record {
        starts = (named, keeps, λ _. ((attempt, acceptors), tt));
        restarts = λ why. (
          named,
          (none_up_to (primaries_in cfg valid past), none_up_to (backups_in cfg valid past)),
          λ _. (
            (tt, λ slot. subst (λ (a : AcceptorState Entry). MayBeGood cfg now slot a.accepted) (sym ((parts slot).resets n)) (acceptors slot)),
            tt,
          ),
        );
        learns = λ t entry why w. (
          w.0,
          over_kept (primaries_in cfg valid past) (backups_in cfg valid past) t.state.own.attempt (agreed_by t.state.base).slots entry
              (with_idle 0 t.state.own) w.1,
          λ longer.
              let known : List Entry = t.state.base.known in
              let all = w.2 (begins_on known (known ++ entry ∷ []) (agreed_list cfg now) (begins_more known (entry ∷ [])) longer) in (
                (
                  learned_good t.state entry all.0.0,
                  λ slot. subst (λ (a : AcceptorState Entry). MayBeGood cfg now slot a.accepted) (sym ((parts slot).learns t.state entry)) (all.0.1 slot),
                ),
                all_push (IsGoodItem cfg now) t.stable (items.Known entry) all.1 tt,
              ),
        );
        stores = λ t item own why w. (
          w.0,
          stores_kept (primaries_in cfg valid past) (backups_in cfg valid past) n e.event told t.state item own why w.1,
          λ begins_now.
              let all = w.2 begins_now in
              let is = item_good t.state item own why w.0 w.1 begins_now all.0 in (
                (
                  stores_good t.state item own why w.0 w.1 begins_now all.0,
                  λ slot.
                      subst (λ (a : AcceptorState Entry). MayBeGood cfg now slot a.accepted) (sym ((parts slot).stores n e.event t.state item own why))
                      (acceptor_good cfg now slot (acceptor_at t.state.own slot) item (all.0.1 slot) is),
                ),
                all_push (IsGoodItem cfg now) t.stable item all.1 is,
              ),
        );
        changes = λ t own why w. (
          w.0,
          changes_kept (primaries_in cfg valid past) (backups_in cfg valid past) n e.event told t.state own why w.1,
          λ begins_now.
              let all = w.2 begins_now in (
                (
                  changes_good t.state own why all.0,
                  λ slot.
                      subst (λ (a : AcceptorState Entry). MayBeGood cfg now slot a.accepted) (sym ((parts slot).changes n e.event t.state own why))
                      (all.0.1 slot),
                ),
                all.1,
              ),
        );
      }))).2 begins_agreed).1
