-- A sequencer's attempt is for the slot after what it knows, with a wish that is good there; and it stays so, since logs only grow.
use Rattle.std.proofs.Common.{◌≡◌, ◌∙◌, ℕ, ◌≤◌, ◌==◌, ◌∷◌, length, drop, Option, Some, None, refl, sym, subst, arith}
use Rattle.std.specs.Prelude.{min}
use Rattle.std.proofs.lemmas.Bool.{true≢false, eq-eqb}
use Rattle.fix_ante.specs.declared.spots.Spot.{Spot}
use Rattle.fix_ante.specs.Windows.{round_end}
use Rattle.cut_core.specs.Agreements.{Agreement}
use Rattle.majority.specs.Proposers.{Attempt}
use Rattle.msg_wire.specs.Entries.{is_entry}
use Rattle.msg_wire.specs.Valid.{IsValidConfig}
use Rattle.net_model.specs.Pasts.{Past}
use Rattle.node_rules.specs.Nodes.{Node, agreed_by, knowing}
use Rattle.node_rules.proofs.Lists.{on_test, all_weaken}
use Rattle.node_rules.specs.Turns.{Turn}
use Rattle.node_rules.proofs.Places.{Comes, unshown_sites}
use Rattle.seq_node.specs.States.{SlotAttempt, SequencerState, with_attempt, with_idle}
use Rattle.seq_node.specs.Learning.{wish_granted, attempt_over}
use Rattle.seq_node.proofs.Limits.{slots_known}
use Rattle.seq_node.proofs.Places.{Begins, Waits, is_late, is_lower, is_waiting, Stores, promised, accepted, begins_at_once, begins, sends, Changes, waits, hears, reports, wishes, idles, over}
use Rattle.runs.specs.Names.{NodeId, Config, Entry, Item, Event, HistoryEntry}
use Rattle.runs.specs.Names.nodes
use Rattle.runs.specs.Names.entries
use Rattle.runs.specs.Names.whats
use Rattle.runs.specs.Runs.{IsPastOf}
use Rattle.runs.specs.Known.{agreed_after}
use Rattle.safety_frame.proofs.NodeKinds.{after, sequencers}
use Rattle.safety_frame.proofs.Inductions.{OfStates, every_state}
use Rattle.safety_frame.proofs.Names.{states_named}
use Rattle.safety_frame.specs.EveryRun.{OfEveryRun}
use Rattle.safety_agreement.proofs.Standing.{report_leaves}
use Rattle.safety_logs.specs.Counting.{counted, counted_by}
use Rattle.safety_logs.specs.Cuts.{IsGoodWhere, IsGoodAttempt, WishesAreGood}
use Rattle.safety_logs.proofs.GoodValues.{value_good}
use Rattle.safety_logs.proofs.Growing.{held_grows}
use Rattle.safety_logs.proofs.Reports.{Keeps, IsToldUpTo, over_kept, stores_kept, changes_kept, none_up_to, primaries_in, backups_in, reports_told, kept_reports}

-- ---- what is good stays good as more counts

pub good_later : (counts more : ℕ → ℕ) (a : Agreement) (entry : Entry) → ((shard : ℕ) → counts shard ≤ more shard) → IsGoodWhere counts a entry
    → IsGoodWhere more a entry
good_later counts more a (entries.Cut window round) grows good = (
  good.0,
  all_weaken (λ (row : Spot). round_end row round ≤ counts row.shard) (λ (row : Spot). round_end row round ≤ more row.shard) a.current.spots
      (λ row reaches. omega (arith, reaches, grows row.shard)) good.1,
)
good_later counts more a entries.Nothing grows good = tt
good_later counts more a (entries.Table after rounds rows) grows good = tt
good_later counts more a (entries.Remove window shard) grows good = tt

attempt_later : (counts more : ℕ → ℕ) (a : Agreement) (next : ℕ) (attempt : Option SlotAttempt) → ((shard : ℕ) → counts shard ≤ more shard)
    → IsGoodAttempt counts a next attempt
    → IsGoodAttempt more a next attempt
attempt_later counts more a next None grows good = tt
attempt_later counts more a next (Some b) grows good = (good.0, good_later counts more a b.attempt.wish grows good.1)

-- ---- a learned entry ends an attempt

over_ends : (attempt : Option SlotAttempt) (slot : ℕ) (entry : Entry) (s : SequencerState) → s.attempt ≡ attempt
    → ((a : SlotAttempt) → attempt ≡ Some a → a.slot ≡ slot)
    → (attempt_over attempt slot entry s).attempt ≡ None
over_ends None slot entry s here next = here
over_ends (Some a) slot entry s here next =
    on_test (λ (x : SequencerState). x.attempt ≡ None) (a.slot == slot) (wish_granted a.wished entry (with_attempt None s)) s
    (λ _. on_test (λ (x : SequencerState). x.attempt ≡ None) (is_entry a.wished entry) (record (with_attempt None s) { wishes = drop 1 s.wishes })
    (with_attempt None s) (λ _. refl) (λ _. refl))
    (λ other. absurd (true≢false (sym (eq-eqb a.slot slot (next a refl)) ∙ other)))

-- ---- a sequencer's step

module _ (primary backup : ℕ → ℕ) where
  abbrev counts : ℕ → ℕ
  counts shard = min (primary shard) (backup shard)

  abbrev Wishes : Node SequencerState → Type 0
  Wishes s = IsGoodAttempt counts (agreed_by s.base) (length s.base.known) s.own.attempt

  begun_good : (s : Node SequencerState) (ballot : ℕ) (value : Entry) → Begins s ballot value → Keeps primary backup s.own
      → IsGoodWhere counts (agreed_by s.base) value
  begun_good s ballot value why keeps =
      good_later (counted_by (agreed_by s.base) s.own) counts (agreed_by s.base) value (λ shard. omega (arith, keeps.0 shard, keeps.1 shard))
      (value_good (agreed_by s.base) s.own value why.value_is)

  stores_good : (n : Node SequencerState) (event : Event) (s : Node SequencerState) (item : Item) (own : SequencerState) → Stores n event s item own
      → Keeps primary backup s.own → Wishes s
      → IsGoodAttempt counts (agreed_by s.base) (length s.base.known) own.attempt
  stores_good n event s _ _ (promised from slot ballot comes free) keeps good = good
  stores_good n event s _ _ (accepted from slot ballot entry comes free) keeps good = good
  stores_good n event s _ _ (begins_at_once value why) keeps good = (refl, begun_good s 0 value why keeps)
  stores_good n event s _ _ (begins ballot value why later) keeps good = (refl, begun_good s ballot value why keeps)
  stores_good n event s _ _ (sends a replica report value heard why) keeps good =
      subst (IsGoodAttempt counts (agreed_by s.base) (length s.base.known)) heard.stands good

  waits_good : (s : Node SequencerState) (a : SlotAttempt) (replica : ℕ) (report : Option (ℕ × Entry)) (attempt : Attempt Entry)
      → Waits s a replica report attempt → IsGoodWhere counts (agreed_by s.base) a.attempt.wish → IsGoodWhere counts (agreed_by s.base) attempt.wish
  waits_good s a replica report _ (is_late late) good = good
  waits_good s a replica report _ (is_lower greater lower) good = good
  waits_good s a replica report _ (is_waiting early few) good = good

  changes_good : (n : Node SequencerState) (event : Event) (s : Node SequencerState) (own : SequencerState) → Changes n event s own → Wishes s
      → IsGoodAttempt counts (agreed_by s.base) (length s.base.known) own.attempt
  changes_good n event s _ (waits a replica report attempt heard why) good =
      let was = subst (IsGoodAttempt counts (agreed_by s.base) (length s.base.known)) heard.stands good in
      (was.0, waits_good s a replica report attempt why was.1)
  changes_good n event s _ (hears a replica value stands why sending) good =
      subst (IsGoodAttempt counts (agreed_by s.base) (length s.base.known)) stands good
  changes_good n event s _ (reports from len comes) good =
      subst (IsGoodAttempt counts (agreed_by s.base) (length s.base.known)) (sym (report_leaves from len s.own)) good
  changes_good n event s _ (wishes command why room) good = good
  changes_good n event s _ (idles why) good = good

  learned_good : (s : Node SequencerState) (entry : Entry) → Wishes s
      → IsGoodAttempt counts (agreed_by (knowing entry s.base)) (length (knowing entry s.base).known) (over s entry).attempt
  learned_good s entry good =
      let ended =
      over_ends s.own.attempt (agreed_by s.base).slots entry (with_idle 0 s.own) refl
      (λ a stands. (subst (IsGoodAttempt counts (agreed_by s.base) (length s.base.known)) stands good).0 ∙ sym (slots_known s.base)) in
      subst (IsGoodAttempt counts (agreed_by (knowing entry s.base)) (length (knowing entry s.base).known)) (sym ended) tt

  step_good : (n : Node SequencerState) (event : Event)
      → ((from : NodeId) (len : ℕ) → Comes n event from (whats.Report len) → IsToldUpTo primary backup from len)
      → Keeps primary backup n.own → Wishes n → Wishes (sequencers.step n event).state
  step_good n event told keeps good =
      (sequencers.walk _ n event
      (unshown_sites (λ (t : Turn SequencerState). Keeps primary backup t.state.own × Wishes t.state)
      (record {
        starts = (keeps, good);
        restarts = λ e. ((none_up_to primary, none_up_to backup), tt);
        learns = λ t entry why w. (
          over_kept primary backup t.state.own.attempt (agreed_by t.state.base).slots entry (with_idle 0 t.state.own) w.0,
          learned_good t.state entry w.1,
        );
        stores = λ t item own why w. (stores_kept primary backup n event told t.state item own why w.0, stores_good n event t.state item own why w.0 w.1);
        changes = λ t own why w. (changes_kept primary backup n event told t.state own why w.0, changes_good n event t.state own why w.1);
      }))).1

-- ---- of every run

module _ (cfg : Config) (valid : IsValidConfig cfg) where
  abbrev WishesIn : Past → Node SequencerState → Type 0
  WishesIn past n = IsGoodAttempt (λ shard. counted cfg (agreed_by n.base) shard past) (agreed_by n.base) (length n.base.known) n.own.attempt

  later_good : (e : HistoryEntry) (past : Past) (n : Node SequencerState) → IsPastOf cfg (e ∷ past) → WishesIn past n → WishesIn (e ∷ past) n
  later_good e past n run =
      attempt_later (λ shard. counted cfg (agreed_by n.base) shard past) (λ shard. counted cfg (agreed_by n.base) shard (e ∷ past)) (agreed_by n.base)
      (length n.base.known) n.own.attempt (λ shard. (held_grows cfg e past shard valid run).counts (agreed_by n.base))

  all_wishes : (past : Past) → IsPastOf cfg past → OfStates sequencers cfg valid (λ past node n. WishesIn past n) past
  all_wishes =
      every_state sequencers cfg valid (λ past node n. WishesIn past n)
      (record {
        starts = λ node one here. tt;
        steps = λ e past run one before.
            let n = after sequencers cfg e.node past in
            later_good e past (sequencers.step n e.event).state run
            (step_good (primaries_in cfg valid past) (backups_in cfg valid past) n e.event (reports_told cfg valid e past run n)
            (kept_reports cfg valid past run.1 e.node one run.0.within) (before e.node one run.0.within));
        stays = λ e past node n run other good. later_good e past n run good;
      })

pub wishes_are_good : OfEveryRun WishesAreGood
wishes_are_good cfg past valid run number here =
    let n = after sequencers cfg (nodes.Seq number) past in
    let named = states_named sequencers cfg valid past run (nodes.Seq number) refl here in
    subst (λ (c : Config). IsGoodAttempt (λ shard. counted cfg (agreed_after c n.base.known) shard past) (agreed_after c n.base.known) (length n.base.known) n.own.attempt) named.0
    (all_wishes cfg valid past run (nodes.Seq number) refl here)
