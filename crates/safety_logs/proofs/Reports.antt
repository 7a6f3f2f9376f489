-- The reports that a sequencer keeps are at most the lengths of the logs: each was told, and a restart keeps none.
use Rattle.std.proofs.Common.{◌≡◌, ℕ, zero, suc, ◌≤◌, ◌==◌, List, [], ◌∷◌, length, replicate, drop, get_or, set, Option, Some, None, refl, sym, ap, subst, arith}
use Rattle.std.specs.Prelude.{max, slice_index}
use Rattle.msg_wire.specs.Valid.{IsValidConfig}
use Rattle.msg_wire.specs.Entries.{is_entry}
use Rattle.net_model.specs.Pasts.{Past}
use Rattle.node_rules.specs.Nodes.{Node, agreed_by}
use Rattle.node_rules.proofs.Lists.{on_test, all_or, all_replicate}
use Rattle.node_rules.specs.Turns.{Turn}
use Rattle.node_rules.proofs.Places.{Comes, unshown_sites}
use Rattle.seq_node.specs.States.{SlotAttempt, SequencerState, with_greatest, with_report, with_attempt, with_idle}
use Rattle.seq_node.specs.Learning.{wish_granted, attempt_over}
use Rattle.seq_node.proofs.Places.{Stores, promised, accepted, begins_at_once, begins, sends, Changes, waits, hears, reports, wishes, idles}
use Rattle.runs.specs.Names.{NodeId, Config, Entry, Item, Event, HistoryEntry}
use Rattle.runs.specs.Names.nodes
use Rattle.runs.specs.Names.sides
use Rattle.runs.specs.Names.whats
use Rattle.runs.specs.Runs.{IsPastOf}
use Rattle.runs.specs.Known.{log_at}
use Rattle.safety_frame.proofs.NodeKinds.{after, sequencers}
use Rattle.safety_frame.proofs.Inductions.{OfStates, every_state}
use Rattle.safety_frame.proofs.Pasts.{log_grows}
use Rattle.safety_frame.specs.EveryRun.{OfEveryRun}
use Rattle.safety_frame.specs.Replicates.{LogTells}
use Rattle.safety_logs.specs.LogClauses.{AreUpTo, KeepsUpTo, KeepsWhatIsTrue, KeptReportsTell}
use Rattle.safety_logs.proofs.Fronts.{no_longer}
use Rattle.safety_frame.proofs.Replicates.{logs_tell}
use Rattle.safety_logs.proofs.Coming.{was_sent}

-- ---- lengths

-- what is put at a place of a list is what stands there, and elsewhere what stood there
put_either : (P : ℕ → Type 0) (xs : List ℕ) (i j v : ℕ) → (j ≡ i → P v) → P (get_or xs j 0) → P (get_or (set xs i v) j 0)
put_either P [] i j v new old = old
put_either P (x ∷ xs) zero zero v new old = new refl
put_either P (x ∷ xs) zero (suc j) v new old = old
put_either P (x ∷ xs) (suc i) zero v new old = old
put_either P (x ∷ xs) (suc i) (suc j) v new old = put_either P xs i j v (λ e. new (ap suc e)) old

greatest_up_to : (limit : ℕ → ℕ) (at len : ℕ) (lengths : List ℕ) → len ≤ limit at → AreUpTo limit lengths → AreUpTo limit (with_greatest at len lengths)
greatest_up_to limit at len lengths told are shard =
    let kept : ℕ = max len (slice_index lengths at) in
    let within : kept ≤ limit at = omega (arith, told, are at) in
    put_either (λ k. k ≤ limit shard) lengths at shard kept (λ same. subst (λ s. kept ≤ limit s) (sym same) within) (are shard)

pub none_up_to : (limit : ℕ → ℕ) → AreUpTo limit (replicate 6 0)
none_up_to limit shard = all_or (λ k. k ≤ limit shard) (replicate 6 0) shard 0 (all_replicate (λ k. k ≤ limit shard) 6 0 (omega arith)) (omega arith)

longer_up_to : (limit more : ℕ → ℕ) (lengths : List ℕ) → ((shard : ℕ) → limit shard ≤ more shard) → AreUpTo limit lengths → AreUpTo more lengths
longer_up_to limit more lengths grows are shard = omega (arith, grows shard, are shard)

-- ---- a sequencer's step

module _ (primary backup : ℕ → ℕ) where
  abbrev pub Keeps : SequencerState → Type 0
  Keeps = KeepsUpTo primary backup

  -- a report that is told is at most this
  abbrev pub IsToldUpTo : NodeId → ℕ → Type 0
  IsToldUpTo (nodes.Shard shard sides.Primary) len = len ≤ primary shard
  IsToldUpTo (nodes.Shard shard sides.Backup) len = len ≤ backup shard
  IsToldUpTo (nodes.Seq number) len = Unit {0}
  IsToldUpTo (nodes.Client number) len = Unit {0}
  IsToldUpTo (nodes.Consumer number) len = Unit {0}

  report_kept : (from : NodeId) (len : ℕ) (s : SequencerState) → IsToldUpTo from len → Keeps s → Keeps (with_report from len s)
  report_kept (nodes.Shard shard sides.Primary) len s told keeps = (greatest_up_to primary shard len s.primaries told keeps.0, keeps.1)
  report_kept (nodes.Shard shard sides.Backup) len s told keeps = (keeps.0, greatest_up_to backup shard len s.backups told keeps.1)
  report_kept (nodes.Seq number) len s told keeps = keeps
  report_kept (nodes.Client number) len s told keeps = keeps
  report_kept (nodes.Consumer number) len s told keeps = keeps

  pub over_kept : (attempt : Option SlotAttempt) (slot : ℕ) (entry : Entry) (s : SequencerState) → Keeps s → Keeps (attempt_over attempt slot entry s)
  over_kept None slot entry s keeps = keeps
  over_kept (Some a) slot entry s keeps =
      on_test Keeps (a.slot == slot) (wish_granted a.wished entry (with_attempt None s)) s
      (λ _. on_test Keeps (is_entry a.wished entry) (record (with_attempt None s) { wishes = drop 1 s.wishes }) (with_attempt None s) (λ _. keeps) (λ _. keeps))
      (λ _. keeps)

  module _ (n : Node SequencerState) (event : Event)
      (told : (from : NodeId) (len : ℕ) → Comes n event from (whats.Report len) → IsToldUpTo from len) where
    pub stores_kept : (s : Node SequencerState) (item : Item) (own : SequencerState) → Stores n event s item own → Keeps s.own → Keeps own
    stores_kept s _ _ (promised from slot ballot comes free) keeps = keeps
    stores_kept s _ _ (accepted from slot ballot entry comes free) keeps = keeps
    stores_kept s _ _ (begins_at_once value why) keeps = keeps
    stores_kept s _ _ (begins ballot value why later) keeps = keeps
    stores_kept s _ _ (sends a replica report value heard why) keeps = keeps

    pub changes_kept : (s : Node SequencerState) (own : SequencerState) → Changes n event s own → Keeps s.own → Keeps own
    changes_kept s _ (waits a replica report attempt heard why) keeps = keeps
    changes_kept s _ (hears a replica value stands why sending) keeps = keeps
    changes_kept s _ (reports from len comes) keeps = report_kept from len s.own (told from len comes) keeps
    changes_kept s _ (wishes command why room) keeps = keeps
    changes_kept s _ (idles why) keeps = keeps

    step_keeps : Keeps n.own → Keeps (sequencers.step n event).state.own
    step_keeps start =
        sequencers.walk _ n event
        (unshown_sites (λ (t : Turn SequencerState). Keeps t.state.own)
        (record {
          starts = start;
          restarts = λ e. (none_up_to primary, none_up_to backup);
          learns = λ t entry why w. over_kept t.state.own.attempt (agreed_by t.state.base).slots entry (with_idle 0 t.state.own) w;
          stores = λ t item own why w. stores_kept t.state item own why w;
          changes = λ t own why w. changes_kept t.state own why w;
        }))

-- ---- of every run

module _ (cfg : Config) (valid : IsValidConfig cfg) where
  abbrev pub primaries_in : Past → ℕ → ℕ
  primaries_in past shard = length (log_at cfg shard sides.Primary past)

  abbrev pub backups_in : Past → ℕ → ℕ
  backups_in past shard = length (log_at cfg shard sides.Backup past)

  told_up_to : (past : Past) (from : NodeId) (len : ℕ) → LogTells cfg past from (whats.Report len) → IsToldUpTo (primaries_in past) (backups_in past) from len
  told_up_to past (nodes.Shard shard sides.Primary) len said = said
  told_up_to past (nodes.Shard shard sides.Backup) len said = said
  told_up_to past (nodes.Seq number) len said = tt
  told_up_to past (nodes.Client number) len said = tt
  told_up_to past (nodes.Consumer number) len said = tt

  pub reports_told : (e : HistoryEntry) (past : Past) → IsPastOf cfg (e ∷ past) → (n : Node SequencerState) (from : NodeId) (len : ℕ)
      → Comes n e.event from (whats.Report len) → IsToldUpTo (primaries_in past) (backups_in past) from len
  reports_told e past run n from len comes =
      let was = was_sent n e past from (whats.Report len) run.0.comes comes in
      let said = subst (LogTells cfg past was.message.from) was.says (logs_tell cfg past valid run.1 was.message was.there) in
      told_up_to past from len (subst (λ node. LogTells cfg past node (whats.Report len)) was.by said)

  grown : (e : HistoryEntry) (past : Past) (s : SequencerState) → KeepsWhatIsTrue cfg past s → KeepsWhatIsTrue cfg (e ∷ past) s
  grown e past s keeps = (
    longer_up_to (primaries_in past) (primaries_in (e ∷ past)) s.primaries
        (λ shard. no_longer (log_at cfg shard sides.Primary past) (log_at cfg shard sides.Primary (e ∷ past))
        (log_grows cfg shard sides.Primary e past)) keeps.0,
    longer_up_to (backups_in past) (backups_in (e ∷ past)) s.backups
        (λ shard. no_longer (log_at cfg shard sides.Backup past) (log_at cfg shard sides.Backup (e ∷ past))
        (log_grows cfg shard sides.Backup e past)) keeps.1,
  )

  pub kept_reports : (past : Past) → IsPastOf cfg past → OfStates sequencers cfg valid (λ past node n. KeepsWhatIsTrue cfg past n.own) past
  kept_reports =
      every_state sequencers cfg valid (λ past node n. KeepsWhatIsTrue cfg past n.own)
      (record {
        starts = λ node one here. (none_up_to (primaries_in []), none_up_to (backups_in []));
        steps = λ e past run one before.
            let n = after sequencers cfg e.node past in
            grown e past (sequencers.step n e.event).state.own
            (step_keeps (primaries_in past) (backups_in past) n e.event (reports_told e past run n) (before e.node one run.0.within));
        stays = λ e past node n run other keeps. grown e past n.own keeps;
      })

pub kept_reports_tell : OfEveryRun KeptReportsTell
kept_reports_tell cfg past valid run number here = kept_reports cfg valid past run (nodes.Seq number) refl here
