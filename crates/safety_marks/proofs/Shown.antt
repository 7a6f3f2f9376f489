-- Of every run: with which notices marks are shown, and that a node's notices are the removals that it knows.
use Rattle.std.proofs.Common.{◌≡◌, ◌∙◌, ◌⊎◌, ℕ, List, [], ◌∷◌, ◌++◌, Contains, append_assoc, refl, sym, ap, subst, inl, inr}
use Rattle.std.specs.Prelude.{IsTrue}
use Rattle.std.proofs.lemmas.List.Elements.{filter_map-append, Contains-append_right, Contains-push}
use Rattle.cut_core.specs.Agreements.{agreement_from}
use Rattle.msg_wire.specs.Nodes.{is_sequencer, is_client, same_node}
use Rattle.msg_wire.specs.Valid.{IsValidConfig}
use Rattle.net_model.specs.Pasts.{Past, marks_of}
use Rattle.node_rules.specs.Nodes.{first_window}
use Rattle.runs.specs.Names.{NodeId, Config, Mark, HistoryEntry}
use Rattle.runs.specs.Names.nodes
use Rattle.runs.specs.Known.{known_at}
use Rattle.runs.specs.Marks.{IsPrefix, EachAfter, known_by, notice_in, notices}
use Rattle.runs.specs.Runs.{IsPastOf}
use Rattle.runs.proofs.SameNodes.{same_node_is, node_itself}
use Rattle.safety_frame.specs.EveryRun.{OfEveryRun}
use Rattle.safety_frame.specs.Gathered.{ToldMark, all_told, told_in}
use Rattle.safety_frame.proofs.Gathered.{member_mapped}
use Rattle.safety_frame.proofs.Growth.{told_grows}
use Rattle.safety_frame.proofs.Inductions.{every_past}
use Rattle.safety_frame.proofs.Lists.{member_stays, each_member}
use Rattle.safety_frame.proofs.Pasts.{own_shown, other_shown, other_stored, no_items, on_own}
use Rattle.safety_agreement.proofs.OtherKinds.{on_kind}
use Rattle.safety_marks.specs.Removals.{firsts_of}
use Rattle.safety_marks.specs.Shown.{ShownAs, IsOther, IsShown, MarksAreShownAs, HasNoticedAll, NoticesAreRemovals}
use Rattle.safety_marks.proofs.Lists.{each_after, each_join, each_weaken}
use Rattle.safety_marks.proofs.Notices.{some_have_all, firsts_known}
use Rattle.safety_marks.proofs.Others.{AllOther, sequencer_others, client_others}
use Rattle.safety_marks.proofs.Entries.{IsNoticing, EntryNotices, entry_notices}

-- ---- with one entry more

-- what is known after an entry has the removals known before and those that it shows
firsts_now : (cfg : Config) (e : HistoryEntry) (past : Past) → EntryNotices cfg e past
    → firsts_of cfg (known_at cfg e.node (e ∷ past)) ≡ firsts_of cfg (known_at cfg e.node past) ++ notices e.marks
firsts_now cfg e past is =
    ap (firsts_of cfg) is.known ∙ (firsts_known (agreement_from (first_window cfg)) (known_at cfg e.node past) is.learned
    ∙ ap (λ (l : List ℕ). firsts_of cfg (known_at cfg e.node past) ++ l) (sym is.shows.1))

own_noticed : (cfg : Config) (e : HistoryEntry) (past : Past) → EntryNotices cfg e past → HasNoticedAll cfg past e.node → HasNoticedAll cfg (e ∷ past) e.node
own_noticed cfg e past is before =
    let earlier : List Mark = marks_of e.node past in
    ap notices (own_shown e.node e past (node_itself e.node))
    ∙ (filter_map-append notice_in earlier e.marks ∙ (ap (λ (l : List ℕ). l ++ notices e.marks) before ∙ sym (firsts_now cfg e past is)))

-- ---- the notices of every run

module _ (cfg : Config) (valid : IsValidConfig cfg) where
  abbrev AllNoticed : Past → Type 0
  AllNoticed past = (node : NodeId) → IsNoticing node → HasNoticedAll cfg past node

  next_noticed : (e : HistoryEntry) (past : Past) → IsPastOf cfg (e ∷ past) → AllNoticed past → AllNoticed (e ∷ past)
  next_noticed e past run before node noticing =
      on_own (same_node e.node node)
      (λ own.
      let same = same_node_is e.node node own in
      let one = subst IsNoticing (sym same) noticing in
      subst (HasNoticedAll cfg (e ∷ past)) same (own_noticed cfg e past (entry_notices cfg valid e past run one) (before e.node one)))
      (λ other.
      ap notices (other_shown node e past other) ∙ (before node noticing ∙ ap (λ l. firsts_of cfg (known_by l)) (sym (other_stored cfg node e past other))))

  all_noticed : (past : Past) → IsPastOf cfg past → AllNoticed past
  all_noticed = every_past cfg AllNoticed (λ node noticing. sym (ap (λ l. firsts_of cfg (known_by l)) (no_items cfg node))) next_noticed

pub notices_are_removals : OfEveryRun NoticesAreRemovals
notices_are_removals cfg past valid run = record {
  replicas = λ shard side. all_noticed cfg valid past run (nodes.Shard shard side) (inl refl);
  consumers = λ number. all_noticed cfg valid past run (nodes.Consumer number) (inr refl);
}

-- ---- the marks of every run

shown_later : (cfg : Config) (e : HistoryEntry) (past : Past) (node : NodeId) (earlier : List Mark) (mark : Mark) → IsShown cfg past node earlier mark
    → IsShown cfg (e ∷ past) node earlier mark
shown_later cfg e past (nodes.Seq number) earlier mark is = is
shown_later cfg e past (nodes.Client number) earlier mark is = is
shown_later cfg e past (nodes.Shard shard side) earlier mark is = record {
  known = is.known;
  told = member_stays (all_told cfg past) (all_told cfg (e ∷ past)) _ (told_grows cfg e past) is.told;
  noticed = is.noticed;
}
shown_later cfg e past (nodes.Consumer number) earlier mark is = record {
  known = is.known;
  told = member_stays (all_told cfg past) (all_told cfg (e ∷ past)) _ (told_grows cfg e past) is.told;
  noticed = is.noticed;
}

-- by the kind of node
shown_by_noticing : (cfg : Config) (past : Past) (node : NodeId) (earlier : List Mark) (mark : Mark) → IsNoticing node → ShownAs cfg past node earlier mark
    → IsShown cfg past node earlier mark
shown_by_noticing cfg past (nodes.Shard shard side) earlier mark noticing is = is
shown_by_noticing cfg past (nodes.Consumer number) earlier mark noticing is = is
shown_by_noticing cfg past (nodes.Seq number) earlier mark (inl one) is = absurd (cc)
shown_by_noticing cfg past (nodes.Seq number) earlier mark (inr one) is = absurd (cc)
shown_by_noticing cfg past (nodes.Client number) earlier mark (inl one) is = absurd (cc)
shown_by_noticing cfg past (nodes.Client number) earlier mark (inr one) is = absurd (cc)

shown_by_other : (cfg : Config) (past : Past) (node : NodeId) (earlier : List Mark) (mark : Mark) → IsTrue (is_sequencer node) ⊎ IsTrue (is_client node)
    → IsOther mark → IsShown cfg past node earlier mark
shown_by_other cfg past (nodes.Seq number) earlier mark one other = other
shown_by_other cfg past (nodes.Client number) earlier mark one other = other
shown_by_other cfg past (nodes.Shard shard side) earlier mark (inl one) other = absurd (cc)
shown_by_other cfg past (nodes.Shard shard side) earlier mark (inr one) other = absurd (cc)
shown_by_other cfg past (nodes.Consumer number) earlier mark (inl one) other = absurd (cc)
shown_by_other cfg past (nodes.Consumer number) earlier mark (inr one) other = absurd (cc)

module _ (cfg : Config) (valid : IsValidConfig cfg) (e : HistoryEntry) (past : Past) (run : IsPastOf cfg (e ∷ past)) where
  abbrev now : Past
  now = e ∷ past

  abbrev before : List Mark
  before = marks_of e.node past

  abbrev EachShown : Type 0
  EachShown = EachAfter (IsShown cfg now e.node) before e.marks

  among : (front : List Mark) (mark : Mark) → IsPrefix (front ++ mark ∷ []) e.marks → Contains e.marks mark
  among front mark p = member_stays (front ++ mark ∷ []) e.marks mark p (Contains-push front mark)

  told_now : (mark : Mark) → Contains e.marks mark → Contains (all_told cfg now) (record { node = e.node; known = known_at cfg e.node now; mark = mark })
  told_now mark there =
      let told : Mark → ToldMark = λ m. record { node = e.node; known = known_at cfg e.node now; mark = m } in
      Contains-append_right (all_told cfg past) (told_in cfg e past) (told mark) (member_mapped told e.marks mark there)

  one_shown : EntryNotices cfg e past → HasNoticedAll cfg past e.node → (front : List Mark) (mark : Mark) → IsPrefix (front ++ mark ∷ []) e.marks
      → ShownAs cfg now e.node (before ++ front) mark
  one_shown is noticed front mark p = record {
    known = known_at cfg e.node now;
    told = told_now mark (among front mark p);
    noticed =
        ap notices (append_assoc before front (mark ∷ []))
        ∙ (filter_map-append notice_in before (front ++ mark ∷ [])
        ∙ (ap (λ (l : List ℕ). notices before ++ l) (some_have_all (notices e.marks) e.marks front mark p (is.shows.0, refl))
        ∙ (ap (λ (l : List ℕ). l ++ notices e.marks) noticed ∙ sym (firsts_now cfg e past is))));
  }

  noticing_shown : IsNoticing e.node → EachShown
  noticing_shown one =
      each_after (IsShown cfg now e.node) before e.marks
      (λ front mark p.
      shown_by_noticing cfg now e.node (before ++ front) mark one
      (one_shown (entry_notices cfg valid e past run one) (all_noticed cfg valid past run.1 e.node one) front mark p))

  others_shown : IsTrue (is_sequencer e.node) ⊎ IsTrue (is_client e.node) → AllOther e.marks → EachShown
  others_shown one others =
      each_after (IsShown cfg now e.node) before e.marks
      (λ front mark p. shown_by_other cfg now e.node (before ++ front) mark one (each_member IsOther e.marks mark others (among front mark p)))

  each_shown : EachShown
  each_shown =
      on_kind e.node (λ one. others_shown (inl one) (sequencer_others cfg e past run.0 one)) (λ one apart. noticing_shown (inl one))
      (λ one apart. others_shown (inr one) (client_others cfg e past run.0 one)) (λ one apart. noticing_shown (inr one))

  shown_still : (node : NodeId) → EachAfter (IsShown cfg past node) [] (marks_of node past) → EachAfter (IsShown cfg now node) [] (marks_of node past)
  shown_still node = each_weaken (IsShown cfg past node) (IsShown cfg now node) [] (marks_of node past) (shown_later cfg e past node)

  own_shown_as : EachAfter (IsShown cfg past e.node) [] before → EachAfter (IsShown cfg now e.node) [] (marks_of e.node now)
  own_shown_as each =
      subst (EachAfter (IsShown cfg now e.node) []) (sym (own_shown e.node e past (node_itself e.node)))
      (each_join (IsShown cfg now e.node) [] before e.marks (shown_still e.node each) each_shown)

  next_shown : MarksAreShownAs cfg past → MarksAreShownAs cfg now
  next_shown each node =
      on_own (same_node e.node node)
      (λ own.
      subst (λ (x : NodeId). EachAfter (IsShown cfg now x) [] (marks_of x now)) (same_node_is e.node node own) (own_shown_as (each e.node)))
      (λ other. subst (EachAfter (IsShown cfg now node) []) (sym (other_shown node e past other)) (shown_still node (each node)))

pub marks_are_shown_as : OfEveryRun MarksAreShownAs
marks_are_shown_as cfg past valid run = every_past cfg (MarksAreShownAs cfg) (λ node. tt) (next_shown cfg valid) past run
