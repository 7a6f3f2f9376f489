-- A step of a consumer holds and confirms records of shards' logs, where what is delivered to it is.
use Rattle.std.proofs.Common.{◌≡◌, ◌∙◌, ℕ, ◌+◌, ◌<◌, List, [], ◌∷◌, ◌++◌, length, slice_get, Some, append_assoc, append-nil, sym, ap, subst, arith}
use Rattle.std.specs.List.{AllByRecursion}
use Rattle.std.specs.Option.{option_and_then}
use Rattle.std.proofs.lemmas.List.{length-append}
use Rattle.std.proofs.lemmas.List.Elements.{filter_map-append}
use Rattle.std.proofs.lemmas.Option.{slice_get_within}
use Rattle.fix_ante.specs.declared.spots.Owner.{Owner}
use Rattle.fix_ante.proofs.Entries.{slice_get_append_left}
use Rattle.cut_core.specs.Agreements.{Agreement, agreement_from}
use Rattle.cut_core.specs.Fold.{applied}
use Rattle.cut_core.specs.Map.{mapped}
use Rattle.cut_core.proofs.AgreeingLemmas.{covered_applied, applied_all_push}
use Rattle.cut_core.proofs.Parts.{mapped_covered}
use Rattle.msg_wire.specs.Nodes.{number_of}
use Rattle.msg_wire.specs.Valid.{IsValidEvent}
use Rattle.app_law.specs.declared.any_app.AnyApp.{AnyApp}
use Rattle.node_rules.specs.Names.{NodeId, Record, Entry, Mark, Event}
use Rattle.node_rules.specs.Names.marks
use Rattle.node_rules.specs.Names.whats
use Rattle.node_rules.specs.Nodes.{agreed_by, first_window, knowing}
use Rattle.node_rules.specs.Bases.{Base}
use Rattle.node_rules.specs.Turns.{Turn, own_of, agreed}
use Rattle.node_rules.proofs.Lists.{all_append, all_weaken}
use Rattle.node_rules.proofs.Places.{Comes}
use Rattle.consumer_node.specs.Apps.{any_meaning}
use Rattle.consumer_node.specs.States.{ConsumerState, applied_of}
use Rattle.consumer_node.specs.Sound.{IsConsumer, IsOwn, held_for}
use Rattle.consumer_node.specs.Speculation.{held_of}
use Rattle.consumer_node.specs.Steps.{consumer_step}
use Rattle.consumer_node.proofs.Places.{Stage, Confirms, StagedSites}
use Rattle.consumer_node.proofs.Turns.{Keeps, kept_sites}
use Rattle.consumer_node.proofs.Walk.{staged_walk}
use Rattle.runs.specs.Marks.{IsPrefix, confirmation_in, confirmations}
use Rattle.safety_frame.proofs.Lists.{index_stays}
use Rattle.safety_consumers.specs.Owned.{AreOfLogs, IsSettled}
use Rattle.safety_consumers.proofs.EachConsumer.{Consumer}
use Rattle.safety_consumers.proofs.TellingSteps.{kept_start}
use Rattle.safety_consumers.proofs.Holding.{held_put, held_raised, held_closed, held_none, held_stands}
use Rattle.safety_consumers.proofs.Stages.{Both, both_sites}

-- ---- settled records stay so

-- each confirmation is of a covered position, and carries its owner's record
abbrev pub AreSettled : (ℕ → List Record) → Agreement → List (ℕ × Record) → Type 0
AreSettled logs a confirmed = AllByRecursion (λ c. IsSettled logs a c.0 c.1) confirmed

-- as logs grow
pub settled_grown : (logs more : ℕ → List Record) (a : Agreement) (position : ℕ) (rec : Record) → ((shard : ℕ) → IsPrefix (logs shard) (more shard))
    → IsSettled logs a position rec → IsSettled more a position rec
settled_grown logs more a position rec grow is =
    let o = is.owned.owner in
    record {
      covered = is.covered;
      owned = record { owner = o; there = is.owned.there; stands = index_stays (logs o.shard) (more o.shard) o.local rec (grow o.shard) is.owned.stands };
    }

-- as an entry is learned
settled_applied : (logs : ℕ → List Record) (a : Agreement) (entry : Entry) (position : ℕ) (rec : Record) → IsSettled logs a position rec
    → IsSettled logs (applied a entry) position rec
settled_applied logs a entry position rec is =
    let more = covered_applied a entry in
    let within : position < length (applied a entry).covered = omega (arith, is.covered, ap length more.1, length-append a.covered more.0) in
    let same : mapped (applied a entry) position ≡ mapped a position =
    mapped_covered (applied a entry) position within
    ∙ (ap (λ l. slice_get l position) more.1 ∙ (slice_get_append_left a.covered more.0 position is.covered ∙ sym (mapped_covered a position is.covered))) in
    record { covered = within; owned = record { owner = is.owned.owner; there = same ∙ is.owned.there; stands = is.owned.stands } }

settled_known : (logs : ℕ → List Record) (b : Base) (entry : Entry) (confirmed : List (ℕ × Record)) → AreSettled logs (agreed_by b) confirmed
    → AreSettled logs (agreed_by (knowing entry b)) confirmed
settled_known logs b entry confirmed are =
    subst (λ (a : Agreement). AreSettled logs a confirmed) (sym (applied_all_push (agreement_from (first_window b.cfg)) b.known entry))
    (all_weaken (λ (c : ℕ × Record). IsSettled logs (agreed_by b) c.0 c.1) (λ c. IsSettled logs (applied (agreed_by b) entry) c.0 c.1) confirmed
    (λ c is. settled_applied logs (agreed_by b) entry c.0 c.1 is) are)

-- ---- a step

module _ (logs : ℕ → List Record) (shown : List Mark) (n : Consumer) (event : Event) (valid : IsValidEvent event)
    (delivered : (from : NodeId) (local : ℕ) (rec : Record) → Comes n event from (whats.Deliver local rec) → slice_get (logs (number_of from)) local ≡ Some rec)
  where
    abbrev SettledIn : List Mark → Consumer → Type 0
    SettledIn more s = AreOfLogs logs s.own.lanes × AreSettled logs (agreed_by s.base) (confirmations (shown ++ more))

    abbrev Settling : Stage → Turn (ConsumerState AnyApp) → Type 0
    Settling = Both any_meaning (Keeps any_meaning n) (λ stage t. SettledIn t.marks t.state) n event

    -- one mark more
    marked : (a : Agreement) (before : List Mark) (mark : Mark) → AreSettled logs a (confirmations (mark ∷ []))
        → AreSettled logs a (confirmations (shown ++ before))
        → AreSettled logs a (confirmations (shown ++ (before ++ mark ∷ [])))
    marked a before mark here are =
        subst (λ l. AreSettled logs a (confirmations l)) (append_assoc shown before (mark ∷ []))
        (subst (AreSettled logs a) (sym (filter_map-append confirmation_in (shown ++ before) (mark ∷ [])))
        (all_append (λ (c : ℕ × Record). IsSettled logs a c.0 c.1) (confirmations (shown ++ before)) (confirmations (mark ∷ [])) are here))

    -- the oldest record is held of the owner of its position
    oldest_settled : (s : Consumer) (rec : Record) (o : Owner) → Confirms s rec o → IsOwn (agreed_by s.base) s.own → AreOfLogs logs s.own.lanes
        → IsSettled logs (agreed_by s.base) s.own.confirmed rec
    oldest_settled s rec o why own are =
        let a = agreed_by s.base in
        let within : s.own.confirmed < length a.covered = slice_get_within a.covered s.own.confirmed o why.here in
        let there : mapped a s.own.confirmed ≡ Some o = mapped_covered a s.own.confirmed within ∙ why.here in
        let at : s.own.confirmed + 0 ≡ s.own.confirmed = omega arith in
        let held : held_of s.own.lanes o ≡ Some rec =
        sym (ap (option_and_then (held_of s.own.lanes)) there)
        ∙ (ap (λ k. held_for a s.own k) (sym at) ∙ (own.applied 0 (slice_get_within s.own.pending 0 rec why.oldest) ∙ why.oldest)) in
        record { covered = within; owned = record { owner = o; there = there; stands = held_stands logs s.own.lanes o.shard o.local rec are held } }

    settling_sites : StagedSites any_meaning Settling n event
    settling_sites =
        both_sites any_meaning (Keeps any_meaning n) (λ stage t. SettledIn t.marks t.state) n event (kept_sites any_meaning n event valid)
        (record {
          holds = λ t from local rec comes w. (held_put logs (own_of t).lanes (number_of from) local rec (delivered from local rec comes) w.1.0, w.1.1);
          learns = λ t entry told w. (w.1.0, settled_known logs t.state.base entry (confirmations (shown ++ t.marks)) w.1.1);
          notices = λ t shard first w. (w.1.0, marked (agreed t) t.marks (marks.Notice first) tt w.1.1);
          undoes = λ t first past w. (w.1.0, marked (agreed t) t.marks (marks.Undo first) tt w.1.1);
          undoes_none = λ t first none w. w.1;
          moves_none = λ t effect stays w. w.1;
          closes = λ t w. (held_closed logs (agreed t).gone (own_of t).lanes w.1.0, w.1.1);
          applies = λ t rec held w. (w.1.0, marked (agreed t) t.marks (marks.Apply (applied_of (own_of t)) rec) tt w.1.1);
          leaves_none = λ t none w. w.1;
          confirms = λ t rec o why w. (
            held_raised logs (own_of t).lanes o.shard w.1.0,
            marked (agreed t) t.marks (marks.Confirm (own_of t).confirmed rec) (oldest_settled t.state rec o why w.0.own w.1.0, tt) w.1.1,
          );
          gives = λ t output some w. (w.1.0, marked (agreed t) t.marks (marks.Out output) tt w.1.1);
          gives_none = λ t output none w. w.1;
          restarts = λ same w. (held_none logs n.own.lanes, marked (agreed_by n.base) [] (marks.Undo n.own.confirmed) tt w.1.1);
        })

    pub step_settles : IsConsumer n → AreOfLogs logs n.own.lanes → AreSettled logs (agreed_by n.base) (confirmations shown)
        → SettledIn (consumer_step any_meaning n event).marks (consumer_step any_meaning n event).state
    step_settles sound held are =
        (staged_walk any_meaning Settling n event settling_sites
        (kept_start n sound, (held, subst (λ l. AreSettled logs (agreed_by n.base) (confirmations l)) (sym (append-nil shown)) are))).1
