-- Every known list begins the longest that a sequencer knows, and what this has is chosen.
use Rattle.std.proofs.Common.{◌≡◌, ◌∙◌, ℕ, zero, suc, ◌<◌, List, [], ◌∷◌, ◌++◌, length, Some, refl, sym, ap, arith}
use Rattle.std.specs.List.{slice_get}
use Rattle.std.proofs.lemmas.Option.{slice_get_within}
use Rattle.msg_wire.specs.Nodes.{same_node}
use Rattle.msg_wire.specs.Valid.{IsValidConfig}
use Rattle.net_model.specs.Pasts.{Past}
use Rattle.node_rules.specs.Names.{Event}
use Rattle.node_rules.specs.Nodes.{Node}
use Rattle.node_rules.proofs.Places.{IsTold}
use Rattle.runs.specs.Names.{NodeId, Config, Entry, HistoryEntry}
use Rattle.runs.specs.Names.nodes
use Rattle.runs.specs.Kinds.{items_at}
use Rattle.runs.specs.Known.{known_at}
use Rattle.runs.specs.Marks.{IsPrefix, known_by}
use Rattle.runs.specs.Chosen.{KnownIsChosen}
use Rattle.runs.specs.Runs.{IsPastOf}
use Rattle.runs.proofs.SameNodes.{same_node_is}
use Rattle.safety_frame.specs.AgreedList.{agreed_list}
use Rattle.safety_frame.proofs.NodeKinds.{Kind, after, stored, replicas, clients, consumers}
use Rattle.safety_frame.proofs.Pasts.{other_stored, no_items, known_grows, on_own, of_sequencer, of_replica, of_client, of_consumer}
use Rattle.safety_frame.proofs.Lists.{index_stays}
use Rattle.safety_frame.proofs.Parts.{IsByItems, adds}
use Rattle.safety_frame.proofs.StableParts.{replica_known, client_known, consumer_known}
use Rattle.safety_frame.proofs.Known.{agreed_is_longest}
use Rattle.safety_frame.proofs.Inductions.{every_past}
use Rattle.safety_frame.specs.EveryRun.{OfEveryRun}
use Rattle.safety_agreement.specs.Chosen.{AgreedIsChosen}
use Rattle.safety_agreement.proofs.OtherKinds.{on_kind, told_stays}
use Rattle.safety_agreement.proofs.Slots.{decided_there, knew, knows}
use Rattle.safety_agreement.proofs.Chosen.{one_is_chosen, each_known_is_chosen}

-- some sequencer knows it too
abbrev IsDecided : Config → Past → ℕ → Entry → Type 0
IsDecided cfg past slot entry = (number : ℕ) × (slice_get (known_at cfg (nodes.Seq number) past) slot ≡ Some entry)

abbrev AllDecided : Config → Past → Type 0
AllDecided cfg past = (node : NodeId) (slot : ℕ) (entry : Entry) → slice_get (known_at cfg node past) slot ≡ Some entry → IsDecided cfg past slot entry

still_decided : (cfg : Config) (e : HistoryEntry) (past : Past) (slot : ℕ) (entry : Entry) → IsDecided cfg past slot entry → IsDecided cfg (e ∷ past) slot entry
still_decided cfg e past slot entry is = (
  is.0,
  index_stays (known_at cfg (nodes.Seq is.0) past) (known_at cfg (nodes.Seq is.0) (e ∷ past)) slot entry (known_grows cfg
      (nodes.Seq is.0) e past) is.1,
)

module _ (cfg : Config) (valid : IsValidConfig cfg) where
  module _ (e : HistoryEntry) (past : Past) (run : IsPastOf cfg (e ∷ past)) (before : AllDecided cfg past) where
    told_decided : {S : Type 0} (k : Kind S) → IsByItems k (λ s. s.base.known) (adds known_by) → k.IsOne e.node
        → ((p : Past) → items_at cfg e.node p ≡ stored k cfg e.node p)
        → ((n : Node S) (event : Event) (s : Node S) (entry : Entry) → k.places.Learns n event s entry → IsTold n event s entry)
        → (slot : ℕ) (entry : Entry) → slice_get (known_at cfg e.node (e ∷ past)) slot ≡ Some entry → IsDecided cfg (e ∷ past) slot entry
    told_decided k is one same is_told slot entry at =
        let n = after k cfg e.node past in
        still_decided cfg e past slot entry
        (told_stays k n e.event slot (IsDecided cfg past slot) (is_told n e.event)
        (λ from slot_told count more comes here.
        let there = decided_there cfg valid slot e past run n from slot_told count more comes here in
        before there.0 slot more there.1)
        (λ more was. before e.node slot more (sym (ap (λ l. slice_get l slot) (knew cfg valid slot e past run k is one same)) ∙ was)) entry
        (ap (λ l. slice_get l slot) (knows cfg valid slot e past run k is one same) ∙ at))

    own_decided : (slot : ℕ) (entry : Entry) → slice_get (known_at cfg e.node (e ∷ past)) slot ≡ Some entry → IsDecided cfg (e ∷ past) slot entry
    own_decided =
        on_kind e.node
        (λ one. of_sequencer (λ node. (slot : ℕ) (entry : Entry) → slice_get (known_at cfg node (e ∷ past)) slot ≡ Some entry → IsDecided cfg
        (e ∷ past) slot entry)
        (λ number slot entry at. (number, at)) e.node one)
        (λ one apart. told_decided replicas replica_known one
        (of_replica (λ node. (p : Past) → items_at cfg node p ≡ stored replicas cfg node p) (λ n side p. refl) e.node one) (λ n event s entry is. is))
        (λ one apart. told_decided clients client_known one
        (of_client (λ node. (p : Past) → items_at cfg node p ≡ stored clients cfg node p) (λ n p. refl) e.node one) (λ n event s entry is. is))
        (λ one apart. told_decided consumers consumer_known one
        (of_consumer (λ node. (p : Past) → items_at cfg node p ≡ stored consumers cfg node p) (λ n p. refl) e.node one) (λ n event s entry is. is))

    next_decided : AllDecided cfg (e ∷ past)
    next_decided node slot entry at =
        on_own (same_node e.node node)
        (λ own. own_decided slot entry (ap (λ (x : NodeId). slice_get (known_at cfg x (e ∷ past)) slot) (same_node_is e.node node own) ∙ at))
        (λ other. still_decided cfg e past slot entry
        (before node slot entry (sym (ap (λ l. slice_get (known_by l) slot) (other_stored cfg node e past other)) ∙ at)))

  nothing_there : (entry : Entry) (k : ℕ) → slice_get [] k ≡ Some entry → ⊥
  nothing_there entry k e = cc

  all_decided : (past : Past) → IsPastOf cfg past → AllDecided cfg past
  all_decided =
      every_past cfg (AllDecided cfg)
      (λ node slot entry at. absurd (nothing_there entry slot (sym (ap (λ l. slice_get (known_by l) slot) (no_items cfg node)) ∙ at))) next_decided

-- ---- lists that agree entry by entry

shorter_begins : {X : Type 0} (xs ys : List X) → ((k : ℕ) (x : X) → slice_get xs k ≡ Some x → slice_get ys k ≡ Some x) → IsPrefix xs ys
shorter_begins [] ys same = (ys, refl)
shorter_begins (x ∷ xs) [] same = let none : slice_get [] 0 ≡ Some x = same 0 x refl in absurd (cc)
shorter_begins (x ∷ xs) (y ∷ ys) same =
    let rest = shorter_begins xs ys (λ k z at. same (suc k) z at) in
    let first : y ≡ x = let found : Some y ≡ Some x = same 0 x refl in cc in
    (rest.0, ap (λ (l : List _). y ∷ l) rest.1 ∙ ap (λ h. h ∷ (xs ++ rest.0)) first)

there_below : {X : Type 0} (xs : List X) (k : ℕ) → k < length xs → (x : X) × (slice_get xs k ≡ Some x)
there_below [] k below = absurd (omega (arith, below))
there_below (x ∷ xs) zero below = (x, refl)
there_below (x ∷ xs) (suc k) below = there_below xs k (omega (arith, below))

pub agreed_is_chosen : OfEveryRun AgreedIsChosen
agreed_is_chosen cfg past valid run =
    let agreed = agreed_list cfg past in
    let longest = agreed_is_longest cfg past run in
    let was = longest.was_known in
    let knower : NodeId = nodes.Seq was.0 in
    let among : (slot : ℕ) (entry : Entry) → slice_get agreed slot ≡ Some entry → slice_get (known_at cfg knower past) slot ≡ Some entry =
    λ slot entry at. index_stays agreed (known_at cfg knower past) slot entry was.1 at in
    record {
      chosen = λ slot entry at. each_known_is_chosen cfg past valid run knower slot entry (among slot entry at);
      begins = λ node. shorter_begins (known_at cfg node past) agreed (λ slot entry at.
          let decided = all_decided cfg valid past run node slot entry at in
          let below = slice_get_within (known_at cfg (nodes.Seq decided.0) past) slot entry decided.1 in
          let there = there_below agreed slot (omega (arith, below, longest.longest decided.0)) in
          let same : there.0 ≡ entry =
          one_is_chosen cfg past valid run slot there.0 entry (each_known_is_chosen cfg past valid run knower slot there.0 (among slot there.0 there.1))
          (each_known_is_chosen cfg past valid run node slot entry at) in
          there.1 ∙ ap (λ v. Some v) same);
    }

pub known_is_chosen : OfEveryRun KnownIsChosen
known_is_chosen cfg past valid run = record {
  one_each = one_is_chosen cfg past valid run;
  one_list = (agreed_list cfg past, agreed_is_chosen cfg past valid run);
}
