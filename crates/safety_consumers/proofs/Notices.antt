-- Of every run: an undo of a consumer stands right after its notice, where more was applied than the removal leaves, or is a restart's.
use Rattle.std.proofs.Common.{◌≡◌, ◌∙◌, ℕ, ◌<◌, ◌≤◌, List, [], ◌∷◌, ◌++◌, length, append_assoc, append-nil, refl, sym, ap, subst, arith}
use Rattle.msg_wire.specs.Valid.{IsValidConfig, IsValidEvent}
use Rattle.net_model.specs.Pasts.{Past, marks_of}
use Rattle.app_law.specs.declared.any_app.AnyApp.{AnyApp}
use Rattle.node_rules.specs.Names.{AppKind, Item, Mark, Event}
use Rattle.node_rules.specs.Names.events
use Rattle.node_rules.specs.Names.marks
use Rattle.node_rules.specs.Turns.{Turn, own_of}
use Rattle.consumer_node.specs.Apps.{any_meaning}
use Rattle.consumer_node.specs.States.{ConsumerState, applied}
use Rattle.consumer_node.specs.Sound.{IsConsumer}
use Rattle.consumer_node.specs.Steps.{consumer_step}
use Rattle.consumer_node.proofs.Places.{Stage, removal_shown, StagedSites}
use Rattle.consumer_node.proofs.Walk.{staged_walk}
use Rattle.runs.specs.Names.{NodeId, Config, HistoryEntry}
use Rattle.runs.specs.Names.nodes
use Rattle.runs.specs.Runs.{IsPastOf}
use Rattle.runs.specs.Kinds.{consumer_after, items_at}
use Rattle.runs.specs.Marks.{confirmations, applied_by}
use Rattle.runs.specs.Undos.{IsRestartUndo, UndosFollowNotices, UndosAreDue, StateFollowsApplied}
use Rattle.safety_frame.specs.EveryRun.{OfEveryRun}
use Rattle.safety_consumers.specs.Applications.{UndosHaveNotices}
use Rattle.safety_consumers.proofs.EachConsumer.{Consumer, after_each, shows_of, sound_before}
use Rattle.safety_consumers.proofs.Telling.{Tells, confirmed_count, applied_long}
use Rattle.safety_consumers.proofs.TellingSteps.{Telling, telling_sites, telling_start}
use Rattle.safety_consumers.proofs.Told.{tells}
use Rattle.safety_consumers.proofs.Points.{state_is_the_fold}
use Rattle.safety_consumers.proofs.Stages.{Both, both_sites}

-- ---- marks one after another

abbrev IsNoUndo : Mark → Type 0
IsNoUndo (marks.Undo first) = ⊥
IsNoUndo _ = Unit {0}

after_notice : (event : Event) (earlier : List Mark) (first : ℕ) (mark : Mark) (rest : List Mark) → IsNoUndo mark → length (applied_by earlier) ≤ first
    → UndosFollowNotices event (earlier ++ marks.Notice first ∷ []) (mark ∷ rest) → UndosFollowNotices event earlier (marks.Notice first ∷ mark ∷ rest)
after_notice event earlier first (marks.Undo position) rest plain few follow = absurd plain
after_notice event earlier first mark rest plain few follow = (few, follow)

-- marks that follow others, where the first of them is no undo
pub follow_on : (event : Event) (earlier before : List Mark) (mark : Mark) (rest : List Mark) → IsNoUndo mark → UndosFollowNotices event earlier before
    → UndosFollowNotices event (earlier ++ before) (mark ∷ rest) → UndosFollowNotices event earlier (before ++ mark ∷ rest)
follow_on event earlier [] mark rest plain is next = subst (λ l. UndosFollowNotices event l (mark ∷ rest)) (append-nil earlier) next
follow_on event earlier (marks.Notice first ∷ []) mark rest plain is next = after_notice event earlier first mark rest plain is.0 next
follow_on event earlier (marks.Notice first ∷ marks.Undo position ∷ before) mark rest plain is next =
    let pair = marks.Notice first ∷ marks.Undo position ∷ [] in (
      is.0,
      is.1,
      follow_on event (earlier ++ pair) before mark rest plain is.2
          (subst (λ l. UndosFollowNotices event l (mark ∷ rest)) (sym (append_assoc earlier pair before)) next),
    )
follow_on event earlier (marks.Notice first ∷ other ∷ before) mark rest plain is next = (
  is.0,
  follow_on event (earlier ++ marks.Notice first ∷ []) (other ∷ before) mark rest plain is.1
      (subst (λ l. UndosFollowNotices event l (mark ∷ rest)) (sym (append_assoc earlier (marks.Notice first ∷ []) (other ∷ before))) next),
)
follow_on event earlier (marks.Undo first ∷ before) mark rest plain is next = (
  is.0,
  follow_on event (earlier ++ marks.Undo first ∷ []) before mark rest plain is.1
      (subst (λ l. UndosFollowNotices event l (mark ∷ rest)) (sym (append_assoc earlier (marks.Undo first ∷ []) before)) next),
)
follow_on event earlier (other ∷ before) mark rest plain is next =
    follow_on event (earlier ++ other ∷ []) before mark rest plain is
    (subst (λ l. UndosFollowNotices event l (mark ∷ rest)) (sym (append_assoc earlier (other ∷ []) before)) next)

-- ---- a step

-- a notice was shown after these, when so many records were applied
record NoticeShown (event : Event) (shown : List Mark) (first : ℕ) (now : List Mark) (count : ℕ) : Type 0 where
  pub before : List Mark
  pub last : now ≡ before ++ marks.Notice first ∷ []
  pub follow : UndosFollowNotices event shown before
  pub long : length (applied_by (shown ++ before)) ≡ count

module _ (kind : AppKind) (shown : List Mark) (stored : List Item) (n : Consumer) (event : Event) (valid : IsValidEvent event) where
  abbrev Follows : Stage → Turn (ConsumerState AnyApp) → Type 0
  Follows (removal_shown first) t = NoticeShown event shown first t.marks (applied t)
  Follows _ t = UndosFollowNotices event shown t.marks

  abbrev Noticing : Stage → Turn (ConsumerState AnyApp) → Type 0
  Noticing = Both any_meaning (Telling kind shown stored n event valid) Follows n event

  undone : (t : Turn (ConsumerState AnyApp)) (first : ℕ) → first < applied t → NoticeShown event shown first t.marks (applied t)
      → UndosFollowNotices event shown (t.marks ++ marks.Undo first ∷ [])
  undone t first past is =
      let undo = marks.Undo first ∷ [] in
      subst (UndosFollowNotices event shown) (sym (ap (λ l. l ++ undo) is.last ∙ append_assoc is.before (marks.Notice first ∷ []) undo))
      (follow_on event shown is.before (marks.Notice first) undo tt is.follow (refl, omega (arith, past, is.long), tt))

  none_undone : (t : Turn (ConsumerState AnyApp)) (first : ℕ) → applied t ≤ first → NoticeShown event shown first t.marks (applied t)
      → UndosFollowNotices event shown t.marks
  none_undone t first none is =
      subst (UndosFollowNotices event shown) (sym is.last)
      (follow_on event shown is.before (marks.Notice first) [] tt is.follow (omega (arith, none, is.long), tt))

  restarted : event ≡ events.Restart → Tells kind (shown ++ []) (stored ++ []) [] n.own.confirmed n.own.base n.own.pending
      → UndosFollowNotices event shown (marks.Undo n.own.confirmed ∷ [])
  restarted same is = (
    subst (λ e. IsRestartUndo e shown n.own.confirmed) (sym same)
        (sym (confirmed_count is) ∙ ap (λ l. length (confirmations l)) (append-nil shown)),
    tt,
  )

  noticing_sites : StagedSites any_meaning Noticing n event
  noticing_sites =
      both_sites any_meaning (Telling kind shown stored n event valid) Follows n event (telling_sites kind shown stored n event valid)
      (record {
        holds = λ t from local rec comes w. w.1;
        learns = λ t entry told w. w.1;
        notices = λ t shard first w. record { before = t.marks; last = refl; follow = w.1; long = applied_long w.0.1.0 };
        undoes = λ t first past w. undone t first past w.1;
        undoes_none = λ t first none w. none_undone t first none w.1;
        moves_none = λ t effect stays w. w.1;
        closes = λ t w. w.1;
        applies = λ t rec held w. follow_on event shown t.marks (marks.Apply (applied t) rec) [] tt w.1 tt;
        leaves_none = λ t none w. w.1;
        confirms = λ t rec o why w. follow_on event shown t.marks (marks.Confirm (own_of t).confirmed rec) [] tt w.1 tt;
        gives = λ t output some w. follow_on event shown t.marks (marks.Out output) [] tt w.1 tt;
        gives_none = λ t output none w. w.1;
        restarts = λ same w. restarted same w.0.1.0;
      })

  pub step_notices : IsConsumer n → Tells kind shown stored [] n.own.confirmed n.own.base n.own.pending
      → UndosFollowNotices event shown (consumer_step any_meaning n event).marks
  step_notices sound is =
      (staged_walk any_meaning Noticing n event noticing_sites (telling_start kind shown stored n event valid sound is, tt)).1

-- ---- of every run

due_at : (cfg : Config) (e : HistoryEntry) (past : Past) (node : NodeId) → IsValidConfig cfg → IsPastOf cfg (e ∷ past) → e.node ≡ node
    → UndosAreDue past e node
due_at cfg e past (nodes.Consumer number) valid run same =
    let node = nodes.Consumer number in
    subst (UndosFollowNotices e.event (marks_of node past)) (sym (shows_of cfg e past number run same))
    (step_notices cfg.app (marks_of node past) (items_at cfg node past) (consumer_after cfg number past) e.event run.0.valid
    (sound_before cfg e past number run same valid) (tells cfg valid past run.1 number))
due_at cfg e past (nodes.Seq number) valid run same = tt
due_at cfg e past (nodes.Shard shard side) valid run same = tt
due_at cfg e past (nodes.Client number) valid run same = tt

pub undos_have_notices : OfEveryRun UndosHaveNotices
undos_have_notices cfg [] valid run = tt
undos_have_notices cfg (e ∷ past) valid run = (due_at cfg e past e.node valid run refl, undos_have_notices cfg past valid run.1)

pub state_follows_applied : OfEveryRun StateFollowsApplied
state_follows_applied cfg past valid run = record {
  state = λ consumer. after_each cfg _ (λ before ran. state_is_the_fold cfg before valid ran consumer) past run;
  undos = undos_have_notices cfg past valid run;
}
