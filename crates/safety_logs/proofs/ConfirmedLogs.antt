-- Of every run: the confirmations of a replica are those of its covered locals, over all its restarts.
use Rattle.std.proofs.Common.{◌≡◌, ◌∙◌, ℕ, ◌≤◌, List, [], ◌∷◌, ◌++◌, length, Some, append-nil, refl, sym, ap, subst, arith}
use Rattle.std.specs.Prelude.{IsTrue, min}
use Rattle.std.specs.List.{slice_get}
use Rattle.std.proofs.lemmas.List.{length-append}
use Rattle.std.proofs.lemmas.List.Elements.{filter_map-append}
use Rattle.std.proofs.lemmas.Option.{slice_get_within}
use Rattle.cut_core.specs.Map.{covered_locals}
use Rattle.msg_wire.specs.Nodes.{is_replica, number_of}
use Rattle.msg_wire.specs.Valid.{IsValidConfig}
use Rattle.net_model.specs.Pasts.{Past, marks_of}
use Rattle.node_rules.specs.Nodes.{Node, agreed_by, knowing}
use Rattle.node_rules.specs.Turns.{started}
use Rattle.node_rules.proofs.Kept.{told_valid}
use Rattle.node_rules.proofs.Limits.{base_knowing}
use Rattle.node_rules.proofs.Places.{Comes, IsTold}
use Rattle.shard_node.specs.States.{ReplicaState}
use Rattle.runs.specs.Names.{NodeId, Side, Config, Entry, Record, Mark, HistoryEntry}
use Rattle.runs.specs.Names.nodes
use Rattle.runs.specs.Names.sides
use Rattle.runs.specs.Names.whats
use Rattle.runs.specs.Kinds.{step_at}
use Rattle.runs.specs.Runs.{IsPastOf}
use Rattle.runs.specs.Known.{known_at, agreed_after, log_at}
use Rattle.runs.specs.Marks.{IsPrefix, confirmation_in, confirmations, known_by, log_by}
use Rattle.runs.proofs.SameNodes.{node_itself}
use Rattle.safety_frame.specs.EveryRun.{OfEveryRun}
use Rattle.safety_frame.proofs.Inductions.{OfStates, every_state}
use Rattle.safety_frame.proofs.Lists.{index_stays}
use Rattle.safety_frame.proofs.Names.{states_named}
use Rattle.safety_frame.proofs.NodeKinds.{after, stored, replicas}
use Rattle.safety_frame.proofs.Pasts.{of_replica, own_shown, other_shown}
use Rattle.safety_frame.proofs.SoundStates.{states_are}
use Rattle.safety_frame.proofs.StableItems.{known_is, log_is}
use Rattle.safety_frame.proofs.StableParts.{replica_known}
use Rattle.safety_agreement.proofs.Slots.{decided_there}
use Rattle.safety_logs.specs.Held.{ConfirmsCovered, CoveredIsConfirmed}
use Rattle.safety_logs.proofs.AgreedLists.{shorter, whole}
use Rattle.safety_logs.proofs.ConfirmedLocals.{ConfirmsTo}
use Rattle.safety_logs.proofs.Confirming.{Confirmed, CanCover, step_confirms}
use Rattle.safety_logs.proofs.CoveredLogs.{known_counts}
use Rattle.safety_logs.proofs.Fronts.{begins_next}
use Rattle.safety_logs.proofs.Leases.{base_consistent}

-- what a node shows it has confirmed so far
abbrev shown_by : NodeId → Past → List (ℕ × Record)
shown_by node past = confirmations (marks_of node past)

-- of its state
abbrev Confirms : Past → NodeId → Node ReplicaState → Type 0
Confirms past node n =
    ConfirmsTo (agreed_by n.base) (number_of n.base.me) (covered_locals (agreed_by n.base) (number_of n.base.me)) n.own.log (shown_by node past)

module _ (cfg : Config) (valid : IsValidConfig cfg) where
  module _ (e : HistoryEntry) (past : Past) (run : IsPastOf cfg (e ∷ past)) (one : IsTrue (is_replica e.node)) where
    abbrev n : Node ReplicaState
    n = after replicas cfg e.node past

    was_known : n.base.known ≡ known_at cfg e.node past
    was_known =
        known_is replicas replica_known cfg valid past run.1 e.node one run.0.within
        ∙ of_replica (λ node. known_by (stored replicas cfg node past) ≡ known_at cfg node past) (λ k side. refl) e.node one

    -- what both replicas have its log has
    reaches : (len : ℕ) → ((shard : ℕ) (side : Side) → e.node ≡ nodes.Shard shard side → len ≤ length (log_at cfg shard side past)) → len ≤ length n.own.log
    reaches len each =
        subst (λ (l : List Record). len ≤ length l) (sym (log_is cfg valid past run.1 e.node one run.0.within))
        (of_replica (λ node. ((shard : ℕ) (side : Side) → node ≡ nodes.Shard shard side → len ≤ length (log_at cfg shard side past))
        → len ≤ length (log_by (stored replicas cfg node past)))
        (λ k side all. all k side refl) e.node one each)

    -- an entry that is told as the next is known elsewhere, after what this one knows
    told_counts : (from : NodeId) (count : ℕ) (entry : Entry) → Comes n e.event from (whats.Decided (length n.base.known) count entry)
        → covered_locals (agreed_after cfg (n.base.known ++ entry ∷ [])) (number_of e.node) ≤ length n.own.log
    told_counts from count entry comes =
        let slot : ℕ = length n.base.known in
        let there = decided_there cfg valid slot e past run n from slot count entry comes refl in
        let known : List Entry = known_at cfg there.0 past in
        let one_list = whole cfg valid past run.1 in
        let begins = subst (λ l. IsPrefix l one_list.0) (sym was_known) (one_list.1.begins e.node) in
        let at = index_stays known one_list.0 slot entry (one_list.1.begins there.0) there.1 in
        let next = begins_next n.base.known one_list.0 entry begins at in
        let few = slice_get_within known slot entry there.1 in
        let was =
        shorter (n.base.known ++ entry ∷ []) known one_list.0 next (one_list.1.begins there.0) (omega (arith, few, length-append n.base.known (entry ∷ []))) in
        let within = known_counts cfg valid past run.1 (n.base.known ++ entry ∷ []) (there.0, was) (number_of e.node) in
        reaches (covered_locals (agreed_after cfg (n.base.known ++ entry ∷ [])) (number_of e.node))
        (λ shard side same. reached shard side (subst (λ (x : NodeId). covered_locals (agreed_after cfg (n.base.known ++ entry ∷ [])) (number_of e.node)
        ≤ min (length (log_at cfg (number_of x) sides.Primary past)) (length (log_at cfg (number_of x) sides.Backup past))) same within))
      where
        reached : {len : ℕ} (shard : ℕ) (side : Side)
            → len ≤ min (length (log_at cfg shard sides.Primary past)) (length (log_at cfg shard sides.Backup past)) → len ≤ length (log_at cfg shard side past)
        reached shard sides.Primary within = omega (arith, within)
        reached shard sides.Backup within = omega (arith, within)

    can_cover : (from : NodeId) (count : ℕ) (entry : Entry) → Comes n e.event from (whats.Decided (length n.base.known) count entry) → CanCover n entry
    can_cover from count entry comes =
        let named = states_named replicas cfg valid past run.1 e.node one run.0.within in
        let base = (states_are replicas cfg valid past run.1 e.node one run.0.within).base in
        let told : IsTold n e.event n entry = record { from = from; count = count; comes = comes } in
        let fits = told_valid n e.event n entry told run.0.valid in
        let known : List Entry = n.base.known ++ entry ∷ [] in
        record {
          dense = (base_consistent (knowing entry n.base) (base_knowing entry n.base fits.0 fits.1 base)).sound.dense (number_of n.base.me);
          held =
              subst (λ (c : Config). covered_locals (agreed_after c known) (number_of n.base.me) ≤ length n.own.log) (sym named.0)
              (subst (λ (me : NodeId). covered_locals (agreed_after cfg known) (number_of me) ≤ length n.own.log) (sym named.1)
              (told_counts from count entry comes));
        }

    shown_now : shown_by e.node (e ∷ past) ≡ shown_by e.node past ++ confirmations (replicas.step n e.event).marks
    shown_now =
        ap confirmations (own_shown e.node e past (node_itself e.node))
        ∙ (filter_map-append confirmation_in (marks_of e.node past) e.marks
        ∙ ap (λ (l : List Mark). shown_by e.node past ++ confirmations l)
        (run.0.shows ∙ of_replica (λ node. (step_at cfg node past e.event).marks ≡ (replicas.step (after replicas cfg node past) e.event).marks)
        (λ k side. refl) e.node one))

    step_shows : Confirms past e.node n → Confirms (e ∷ past) e.node (replicas.step n e.event).state
    step_shows was =
        let s = (replicas.step n e.event).state in
        let start : Confirmed (shown_by e.node past) (started n) =
        subst (ConfirmsTo (agreed_by n.base) (number_of n.base.me) (covered_locals (agreed_by n.base) (number_of n.base.me)) n.own.log)
        (sym (append-nil (shown_by e.node past))) was in
        subst (ConfirmsTo (agreed_by s.base) (number_of s.base.me) (covered_locals (agreed_by s.base) (number_of s.base.me)) s.own.log) (sym shown_now)
        (step_confirms (shown_by e.node past) n e.event can_cover start)

  nothing_there : (i : ℕ) (x : ℕ × Record) → slice_get [] i ≡ Some x → ⊥
  nothing_there i x e = cc

  all_confirm : (past : Past) → IsPastOf cfg past → OfStates replicas cfg valid Confirms past
  all_confirm =
      every_state replicas cfg valid Confirms
      (record {
        starts = λ node one here. record { long = refl; each = λ local position rec at. absurd (nothing_there local (position, rec) at) };
        steps = λ e past run one before. step_shows e past run one (before e.node one run.0.within);
        stays = λ e past node n run other before.
            subst (ConfirmsTo (agreed_by n.base) (number_of n.base.me) (covered_locals (agreed_by n.base) (number_of n.base.me)) n.own.log)
            (sym (ap confirmations (other_shown node e past other))) before;
      })

pub covered_is_confirmed : OfEveryRun CoveredIsConfirmed
covered_is_confirmed cfg past valid run shard side here =
    let node : NodeId = nodes.Shard shard side in
    let n = after replicas cfg node past in
    let named = states_named replicas cfg valid past run node refl here in
    let is = all_confirm cfg valid past run node refl here in
    let plain : ConfirmsCovered (agreed_by n.base) (number_of n.base.me) n.own.log (shown_by node past) = record { long = is.long; each = is.each } in
    subst (λ (l : List Record). ConfirmsCovered (agreed_after cfg (known_at cfg node past)) shard l (shown_by node past))
    (log_is cfg valid past run node refl here)
    (subst (λ (known : List Entry). ConfirmsCovered (agreed_after cfg known) shard n.own.log (shown_by node past))
    (known_is replicas replica_known cfg valid past run node refl here)
    (subst (λ (c : Config). ConfirmsCovered (agreed_after c n.base.known) shard n.own.log (shown_by node past)) named.0
    (subst (λ (me : NodeId). ConfirmsCovered (agreed_after n.base.cfg n.base.known) (number_of me) n.own.log (shown_by node past)) named.1 plain)))
