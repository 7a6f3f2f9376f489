-- What nodes know in a run: valid entries within the limit, what they agree on, and the longest of the sequencers' lists.
use Rattle.std.proofs.Common.{◌≡◌, ℕ, ◌<◌, ◌≤◌, nat_lt, List, [], ◌∷◌, ◌++◌, length, refl, sym, ap, subst, arith}
use Rattle.std.specs.List.{AllByRecursion}
use Rattle.std.proofs.lemmas.List.{length-append}
use Rattle.std.proofs.lemmas.Bool.{ltb-true, ltb-false}
use Rattle.quota_table.specs.Entries.{IsValidEntry}
use Rattle.fix_ante.specs.Windows.{first_of}
use Rattle.cut_core.specs.Agreements.{Agreement, agreement_from}
use Rattle.cut_core.specs.Fold.{applied, applied_all, HasValidTable}
use Rattle.cut_core.specs.Soundness.{IsSound}
use Rattle.cut_core.specs.Consistency.{IsConsistent, IsContinuedBy}
use Rattle.cut_core.specs.Map.{map_of}
use Rattle.cut_core.specs.MapsAgree.{IsBelowFirsts}
use Rattle.cut_core.proofs.Sound.{IsSound_fold_of}
use Rattle.cut_core.proofs.Consistent.{IsConsistent_fold_of, IsContinuedBy_applied_all}
use Rattle.cut_core.proofs.AgreeingLemmas.{mapped_applied_all, slots_applied_all}
use Rattle.msg_wire.specs.Nodes.{same_node}
use Rattle.msg_wire.specs.Valid.{IsValidConfig, IsNodeOf}
use Rattle.net_model.specs.Pasts.{Past}
use Rattle.node_rules.specs.Bases.{Base}
use Rattle.node_rules.specs.Sound.{IsBase}
use Rattle.node_rules.proofs.Limits.{all_foldable}
use Rattle.node_rules.proofs.Lists.{on_test}
use Rattle.runs.specs.Names.{NodeId, Config, Entry, HistoryEntry}
use Rattle.runs.specs.Names.nodes
use Rattle.runs.specs.Runs.{IsPastOf}
use Rattle.runs.specs.Known.{known_at, agreed_after}
use Rattle.runs.specs.Marks.{known_by}
use Rattle.runs.specs.Maps.{WasKnown, AgreeAt}
use Rattle.runs.proofs.SameNodes.{same_node_is}
use Rattle.safety_frame.specs.AgreedList.{decided_at, longer_of, agreed_list, IsKnownToOne, AgreedListsAreLongest, KnownFolds}
use Rattle.safety_frame.proofs.NodeKinds.{after, sequencers, replicas, clients, consumers}
use Rattle.safety_frame.proofs.Inductions.{every_past}
use Rattle.safety_frame.proofs.Pasts.{other_stored, no_items, known_grows, on_own}
use Rattle.safety_frame.proofs.Lists.{all_front, all_back, begins_itself, begins_on}
use Rattle.safety_frame.proofs.SoundStates.{states_are}
use Rattle.safety_frame.proofs.StableItems.{known_is}
use Rattle.safety_frame.proofs.StableParts.{sequencer_known, replica_known, client_known, consumer_known}

-- ---- the base of each node

-- what every node has, of a node of the cluster
pub record HasBase (cfg : Config) (node : NodeId) (past : Past) : Type 0 where
  pub base : Base
  pub is : IsBase base
  pub known : base.known ≡ known_at cfg node past

module _ (cfg : Config) (valid : IsValidConfig cfg) (past : Past) (run : IsPastOf cfg past) where
  pub base_at : (node : NodeId) → IsNodeOf cfg node → HasBase cfg node past
  base_at (nodes.Seq n) here = record {
    base = (after sequencers cfg (nodes.Seq n) past).base;
    is = sequencers.base_is _ (states_are sequencers cfg valid past run (nodes.Seq n) refl here);
    known = known_is sequencers sequencer_known cfg valid past run (nodes.Seq n) refl here;
  }
  base_at (nodes.Shard n side) here = record {
    base = (after replicas cfg (nodes.Shard n side) past).base;
    is = replicas.base_is _ (states_are replicas cfg valid past run (nodes.Shard n side) refl here);
    known = known_is replicas replica_known cfg valid past run (nodes.Shard n side) refl here;
  }
  base_at (nodes.Client n) here = record {
    base = (after clients cfg (nodes.Client n) past).base;
    is = clients.base_is _ (states_are clients cfg valid past run (nodes.Client n) refl here);
    known = known_is clients client_known cfg valid past run (nodes.Client n) refl here;
  }
  base_at (nodes.Consumer n) here = record {
    base = (after consumers cfg (nodes.Consumer n) past).base;
    is = consumers.base_is _ (states_are consumers cfg valid past run (nodes.Consumer n) refl here);
    known = known_is consumers consumer_known cfg valid past run (nodes.Consumer n) refl here;
  }

-- ---- the entries that any node knows

pub record IsKnownList (known : List Entry) : Type 0 where
  pub few : length known ≤ 1000000
  pub valid : AllByRecursion IsValidEntry known

pub known_sound : (cfg : Config) (valid : IsValidConfig cfg) (past : Past) → IsPastOf cfg past → (node : NodeId) → IsKnownList (known_at cfg node past)
known_sound cfg valid =
    every_past cfg (λ past. (node : NodeId) → IsKnownList (known_at cfg node past))
    (λ node. subst IsKnownList (sym (ap known_by (no_items cfg node))) (record { few = omega arith; valid = tt }))
    (λ e past run before node.
    on_own (same_node e.node node)
    (λ own.
    let base = base_at cfg valid (e ∷ past) run node (subst (IsNodeOf cfg) (same_node_is e.node node own) run.0.within) in
    subst IsKnownList base.known (record { few = base.is.few; valid = base.is.entries }))
    (λ other. subst IsKnownList (sym (ap known_by (other_stored cfg node e past other))) (before node)))

front_sound : (front rest : List Entry) → IsKnownList (front ++ rest) → IsKnownList front
front_sound front rest is = record { few = omega (arith, is.few, length-append front rest); valid = all_front IsValidEntry front rest is.valid }

applied_more : (a : Agreement) (xs ys : List Entry) → applied_all a (xs ++ ys) ≡ applied_all (applied_all a xs) ys
applied_more a [] ys = refl
applied_more a (x ∷ xs) ys = applied_more (applied a x) xs ys

module _ (cfg : Config) (valid : IsValidConfig cfg) where
  fold_sound : (known : List Entry) → IsKnownList known → IsSound (agreed_after cfg known)
  fold_sound known is = IsSound_fold_of cfg.rounds cfg.table known valid.rounds.0 valid.rounds.1 valid.rows.table is.few (all_foldable known is.valid)

  fold_consistent : (known : List Entry) → IsKnownList known → IsConsistent (agreed_after cfg known)
  fold_consistent known is = IsConsistent_fold_of cfg.rounds cfg.table known valid.rounds.0 valid.rounds.1 valid.rows.table is.few (all_foldable known is.valid)

  continued : (known more : List Entry) → IsKnownList (known ++ more) → IsContinuedBy (agreed_after cfg known) (agreed_after cfg (known ++ more))
  continued known more is =
      subst (IsContinuedBy (agreed_after cfg known)) (sym (applied_more (agreement_from (first_of cfg.rounds cfg.table)) known more))
      (IsContinuedBy_applied_all (agreed_after cfg known) more (fold_sound known (front_sound known more is)))

  agree : (known more : List Entry) (position : ℕ) → IsKnownList (known ++ more) → position < length (map_of (agreed_after cfg known))
      → IsBelowFirsts (agreed_after cfg known) more position
      → AgreeAt (agreed_after cfg known) (agreed_after cfg (known ++ more)) position
  agree known more position is within below =
      let first : Agreement = agreement_from (first_of cfg.rounds cfg.table) in
      let slots = slots_applied_all first known in
      let same =
      mapped_applied_all (agreed_after cfg known) more position (fold_sound known (front_sound known more is))
      (omega (arith, slots, is.few, length-append known more))
      (all_back HasValidTable known more (all_foldable (known ++ more) is.valid)) within below in
      subst (λ (a : Agreement). AgreeAt (agreed_after cfg known) a position) (sym (applied_more first known more))
      (record { reached = same.0; same_owner = same.1 })

  was_known_sound : (past : Past) → IsPastOf cfg past → (known : List Entry) → WasKnown cfg past known → IsKnownList known
  was_known_sound past run known was = front_sound known was.1.0 (subst IsKnownList was.1.1 (known_sound cfg valid past run was.0))

pub known_folds_hold : KnownFolds
known_folds_hold cfg past valid run = record {
  few = λ known was. (was_known_sound cfg valid past run known was).few;
  consistent = λ known was. fold_consistent cfg valid known (was_known_sound cfg valid past run known was);
  continued = λ known more was. continued cfg valid known more (was_known_sound cfg valid past run (known ++ more) was);
  maps_agree = λ known more position was. agree cfg valid known more position (was_known_sound cfg valid past run (known ++ more) was);
}

-- ---- the agreed list

was_known_on : (cfg : Config) (e : HistoryEntry) (past : Past) (known : List Entry) → IsKnownToOne cfg past known → IsKnownToOne cfg (e ∷ past) known
was_known_on cfg e past known was =
    let one = nodes.Seq was.0 in
    (was.0, begins_on known (known_at cfg one past) (known_at cfg one (e ∷ past)) was.1 (known_grows cfg one e past))

decided_known : (cfg : Config) (node : NodeId) (past : Past) → IsKnownToOne cfg past (decided_at cfg node past)
decided_known cfg (nodes.Seq n) past = (n, begins_itself (known_at cfg (nodes.Seq n) past))
decided_known cfg (nodes.Shard n side) past = (0, (known_at cfg (nodes.Seq 0) past, refl))
decided_known cfg (nodes.Client n) past = (0, (known_at cfg (nodes.Seq 0) past, refl))
decided_known cfg (nodes.Consumer n) past = (0, (known_at cfg (nodes.Seq 0) past, refl))

agreed_grows : (agreed known : List Entry) → length agreed ≤ length (longer_of agreed known)
agreed_grows agreed known =
    on_test (λ l. length agreed ≤ length l) (nat_lt (length agreed) (length known)) known agreed (λ more. omega (arith, ltb-true _ _ more))
    (λ none. omega arith)

decided_within : (agreed known : List Entry) → length known ≤ length (longer_of agreed known)
decided_within agreed known =
    on_test (λ l. length known ≤ length l) (nat_lt (length agreed) (length known)) known agreed (λ more. omega arith)
    (λ none. omega (arith, ltb-false _ _ none))

pub agreed_is_longest : AgreedListsAreLongest
agreed_is_longest cfg [] run = record { was_known = (0, ([], refl)); longest = λ number. omega arith }
agreed_is_longest cfg (e ∷ past) run =
    let before = agreed_is_longest cfg past run.1 in
    let agreed = agreed_list cfg past in
    let known = decided_at cfg e.node (e ∷ past) in
    record {
      was_known =
          on_test (IsKnownToOne cfg (e ∷ past)) (nat_lt (length agreed) (length known)) known agreed
          (λ more. decided_known cfg e.node (e ∷ past)) (λ none. was_known_on cfg e past agreed before.was_known);
      longest = λ number.
          on_own (same_node e.node (nodes.Seq number))
          (λ own.
          subst (λ node. length (decided_at cfg node (e ∷ past)) ≤ length (longer_of agreed known)) (same_node_is e.node (nodes.Seq number) own)
          (decided_within agreed known))
          (λ other.
          let same = ap length (ap known_by (other_stored cfg (nodes.Seq number) e past other)) in
          omega (arith, same, before.longest number, agreed_grows agreed known));
    }
