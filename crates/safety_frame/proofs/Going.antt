-- Between which classes a message goes: of what comes, of what is asked, and of nodes in lists.
use Rattle.std.proofs.Common.{◌≡◌, ◌⊎◌, ◌∙◌, ℕ, ◌+◌, ◌%◌, ◌<◌, ◌==◌, ◌&&◌, not, Bool, true, false, nat_lt, if◌then◌else◌, List, [], ◌∷◌, length, map, filter, Option, Some, None, refl, sym, ap, subst, inl, inr, arith}
use Rattle.std.specs.List.{AllByRecursion, slice_get, range_with_len}
use Rattle.std.proofs.lemmas.Bool.{false≢true, false_from_ne_true, and_parts, not-true, ltb-true, eqb-true}
use Rattle.msg_wire.specs.Heeded.{goes_between}
use Rattle.msg_wire.specs.Nodes.{is_node_of, is_sequencer, is_replica, is_client, is_consumer, number_of, same_node, without_node}
use Rattle.msg_wire.specs.Valid.{IsValidConfig, IsNodeOf}
use Rattle.node_rules.specs.Nodes.{Node}
use Rattle.node_rules.proofs.Lists.{all_at, all_push}
use Rattle.node_rules.proofs.Places.{Comes, Asks, asks_on, asks_at_tick}
use Rattle.runs.specs.Names.{NodeId, Config, Message, What, Event}
use Rattle.runs.specs.Names.nodes
use Rattle.runs.specs.Names.whats
use Rattle.runs.proofs.SameNodes.{same_node_is, node_itself}
use Rattle.safety_frame.proofs.NodeKinds.{Kind}
use Rattle.safety_frame.proofs.Names.{IsNamed}
use Rattle.safety_frame.proofs.Lists.{all_mapped, all_true}

-- to another node, between the classes of its kind
abbrev pub GoesTo : NodeId → NodeId → What → Type 0
GoesTo from to what = (same_node from to ≡ false) × (goes_between what from to ≡ true)

-- ---- nodes that differ

pub differs : (f : NodeId → Bool) (a b : NodeId) → f a ≡ true → f b ≡ false → same_node a b ≡ false
differs f a b here there = false_from_ne_true (same_node a b) (λ same. false≢true (sym there ∙ (sym (ap f (same_node_is a b same)) ∙ here)))

pub differs_back : (a b : NodeId) → same_node a b ≡ false → same_node b a ≡ false
differs_back a b other =
    false_from_ne_true (same_node b a) (λ same. false≢true (sym other ∙ (ap (λ x. same_node x b) (sym (same_node_is b a same)) ∙ node_itself b)))

-- ---- classes

pub sequencer_is_no : (a : NodeId) → is_sequencer a ≡ true → (is_replica a ≡ false) × (is_client a ≡ false) × (is_consumer a ≡ false)
sequencer_is_no (nodes.Seq n) is = (refl, refl, refl)
sequencer_is_no _ is = absurd (cc)

pub consumer_is_no : (a : NodeId) → is_consumer a ≡ true → is_replica a ≡ false
consumer_is_no (nodes.Consumer n) is = refl
consumer_is_no _ is = absurd (cc)

-- ---- lists of nodes

pub class_of_all : (f : NodeId → Bool) (make : ℕ → NodeId) (count : ℕ) → ((i : ℕ) → f (make i) ≡ true)
    → AllByRecursion (λ node. f node ≡ true) (map make (range_with_len 0 count))
class_of_all f make count each =
    all_mapped (λ node. f node ≡ true) make (range_with_len 0 count) (all_true (λ i. f (make i) ≡ true) (range_with_len 0 count) each)

kept_if : {A : Type 0} (P : A → Type 0) (test : A → Bool) (b : Bool) (x : A) (rest : List A) → test x ≡ b → P x
    → AllByRecursion (λ y. P y × (test y ≡ true)) rest
    → AllByRecursion (λ y. P y × (test y ≡ true)) (if b then x ∷ rest else rest)
kept_if P test true x rest e here all = ((here, e), all)
kept_if P test false x rest e here all = all

all_kept : {A : Type 0} (P : A → Type 0) (test : A → Bool) (xs : List A) → AllByRecursion P xs → AllByRecursion (λ y. P y × (test y ≡ true)) (filter test xs)
all_kept P test [] all = tt
all_kept P test (x ∷ xs) all = kept_if P test (test x) x (filter test xs) refl all.0 (all_kept P test xs all.1)

-- one of the nodes but this one
pub among_others : (P : NodeId → Type 0) (me : NodeId) (xs : List NodeId) (i : ℕ) (to : NodeId) → AllByRecursion P xs
    → slice_get (without_node me xs) i ≡ Some to
    → P to × (same_node me to ≡ false)
among_others P me xs i to all at =
    let here = all_at (λ y. P y × (not (same_node y me) ≡ true)) (without_node me xs) i to (all_kept P (λ y. not (same_node y me)) xs all) at in
    (here.0, differs_back to me (not-true _ here.1))

-- ---- what comes

-- from another node, between the classes of its kind
pub came : {S : Type 0} (n : Node S) (event : Event) (from : NodeId) (what : What) → Comes n event from what
    → (same_node n.base.me from ≡ false) × (goes_between what from n.base.me ≡ true)
came n event from what comes =
    let m = comes.message in
    let me = n.base.me in
    let parts = and_parts (same_node m.to me && is_node_of n.base.cfg m.from) (not (same_node m.from m.to) && goes_between m.what m.from m.to) comes.heeded in
    let goes = and_parts (not (same_node m.from m.to)) (goes_between m.what m.from m.to) parts.1 in
    let to = same_node_is m.to me (and_parts (same_node m.to me) (is_node_of n.base.cfg m.from) parts.0).0 in
    let other : same_node m.from me ≡ false = subst (λ x. same_node m.from x ≡ false) to (not-true _ goes.0) in
    let between : goes_between m.what m.from me ≡ true = subst (λ x. goes_between m.what m.from x ≡ true) to goes.1 in (
      subst (λ x. same_node me x ≡ false) comes.by (differs_back m.from me other),
      subst (λ x. goes_between x from me ≡ true) comes.says (subst (λ x. goes_between m.what x me ≡ true) comes.by between),
    )

-- ---- whom a tick asks

abbrev asked : Config → NodeId → ℕ → Option NodeId
asked cfg me ticks =
    if is_sequencer me then (if nat_lt 1 cfg.seqs then Some (nodes.Seq ((number_of me + 1) % cfg.seqs)) else None) else Some (nodes.Seq (ticks % cfg.seqs))

chosen_if : (b : Bool) (x to : NodeId) → (if b then Some x else None) ≡ Some to → (b ≡ true) × (x ≡ to)
chosen_if true x to e = (refl, cc)
chosen_if false x to e = absurd (cc)

-- the next of several, round again, is another
next_differs : (cfg : Config) (i : ℕ) → IsValidConfig cfg → i < cfg.seqs → 1 < cfg.seqs → (i == (i + 1) % cfg.seqs) ≡ false
next_differs cfg i valid here more =
    false_from_ne_true (i == (i + 1) % cfg.seqs) (λ same.
    let e = eqb-true i ((i + 1) % cfg.seqs) same in
    by_count cfg.seqs i valid.seqs here more e)
  where
    by_count : (n i : ℕ) → (n ≡ 1) ⊎ (n ≡ 3) ⊎ (n ≡ 5) → i < n → 1 < n → i ≡ (i + 1) % n → ⊥
    by_count n i (inl one) here more e = omega (arith, one, more)
    by_count n i (inr (inl three)) here more e =
        let next : i ≡ (i + 1) % 3 = subst (λ m. i ≡ (i + 1) % m) three e in
        omega (arith, three, here, next)
    by_count n i (inr (inr five)) here more e =
        let next : i ≡ (i + 1) % 5 = subst (λ m. i ≡ (i + 1) % m) five e in
        omega (arith, five, here, next)

asked_goes : (cfg : Config) (me to : NodeId) (ticks slot : ℕ) → IsValidConfig cfg → IsNodeOf cfg me → asked cfg me ticks ≡ Some to
    → GoesTo me to (whats.Learn slot)
asked_goes cfg (nodes.Seq i) to ticks slot valid here e =
    let found = chosen_if (nat_lt 1 cfg.seqs) (nodes.Seq ((i + 1) % cfg.seqs)) to e in
    subst (λ x. GoesTo (nodes.Seq i) x (whats.Learn slot)) found.1 (next_differs cfg i valid here (ltb-true _ _ found.0), refl)
asked_goes cfg (nodes.Shard n side) to ticks slot valid here e =
    let same : nodes.Seq (ticks % cfg.seqs) ≡ to = cc in subst (λ x. GoesTo (nodes.Shard n side) x (whats.Learn slot)) same (refl, refl)
asked_goes cfg (nodes.Client n) to ticks slot valid here e =
    let same : nodes.Seq (ticks % cfg.seqs) ≡ to = cc in subst (λ x. GoesTo (nodes.Client n) x (whats.Learn slot)) same (refl, refl)
asked_goes cfg (nodes.Consumer n) to ticks slot valid here e =
    let same : nodes.Seq (ticks % cfg.seqs) ≡ to = cc in subst (λ x. GoesTo (nodes.Consumer n) x (whats.Learn slot)) same (refl, refl)

pub asks_go : {S : Type 0} (n : Node S) (event : Event) (s : Node S) (to : NodeId) (slot : ℕ) → IsValidConfig n.base.cfg → IsNodeOf n.base.cfg n.base.me
    → IsNamed n.base.cfg n.base.me s
    → Asks n event s to → GoesTo n.base.me to (whats.Learn slot)
asks_go n event s _ slot valid here named (asks_on from at count entry comes more free) = came n event from (whats.Decided at count entry) comes
asks_go n event s _ slot valid here named (asks_at_tick to tick whom free) =
    let whom_by : asked n.base.cfg n.base.me s.base.ticks ≡ Some to =
    subst (λ cfg. asked cfg n.base.me s.base.ticks ≡ Some to) named.0 (subst (λ me. asked s.base.cfg me s.base.ticks ≡ Some to) named.1 whom) in
    asked_goes n.base.cfg n.base.me to s.base.ticks slot valid here whom_by

-- ---- of a whole step

module _ {S : Type 0} (k : Kind S) (n : Node S) (event : Event) where
  abbrev pub SaysGo : Type 0
  SaysGo = (s : Node S) (to : NodeId) (what : What) → IsNamed n.base.cfg n.base.me s → k.places.Says n event s to what → GoesTo n.base.me to what

  pub step_goes : IsValidConfig n.base.cfg → IsNodeOf n.base.cfg n.base.me → SaysGo
      → AllByRecursion (λ (m : Message). GoesTo n.base.me m.to m.what) (k.step n event).sends
  step_goes valid here says =
      (k.walk (λ t. IsNamed n.base.cfg n.base.me t.state × AllByRecursion (λ (m : Message). GoesTo n.base.me m.to m.what) t.sends) n event
      (record {
        starts = ((refl, refl), tt);
        restarts = λ e. ((ap (λ b. b.cfg) (k.resets n), ap (λ b. b.me) (k.resets n)), tt);
        learns = λ t entry why w. w;
        sees = λ t from slot count entry why w. w;
        ticks = λ t why w. w;
        asks = λ t to why w. (w.0, all_push _ t.sends _ w.1 (asks_go n event t.state to (length t.state.base.known) valid here w.0 why));
        says = λ t to what why w. (w.0, all_push _ t.sends _ w.1 (says t.state to what w.0 why));
        shows = λ t mark why w. w;
        stores = λ t item own why w. w;
        changes = λ t own why w. w;
      })).1
