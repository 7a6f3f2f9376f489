-- The induction over a run, for each form of clause: of the past, of each member of a list that grows, and of each node's state.
use Rattle.std.proofs.Common.{◌≡◌, Bool, true, false, List, [], ◌∷◌, ◌++◌, Contains, refl, sym, subst, inl, inr, arith}
use Rattle.std.specs.List.{AllByRecursion}
use Rattle.std.proofs.lemmas.List.Elements.{Contains-append_cases}
use Rattle.msg_wire.specs.Nodes.{same_node}
use Rattle.msg_wire.specs.Valid.{IsValidConfig, IsNodeOf}
use Rattle.net_model.specs.Pasts.{Past}
use Rattle.node_rules.specs.Nodes.{Node}
use Rattle.runs.specs.Names.{NodeId, Config, HistoryEntry}
use Rattle.runs.specs.Runs.{IsPastOf}
use Rattle.runs.proofs.SameNodes.{same_node_is, node_itself}
use Rattle.safety_frame.proofs.NodeKinds.{Kind, after}
use Rattle.safety_frame.proofs.Pasts.{own_state, other_state}
use Rattle.safety_frame.proofs.Lists.{each_member}

-- ---- of the past

pub every_past : (cfg : Config) (P : Past → Type 0) → P [] → ((e : HistoryEntry) (past : Past) → IsPastOf cfg (e ∷ past) → P past → P (e ∷ past))
    → (past : Past) → IsPastOf cfg past → P past
every_past cfg P start next [] run = start
every_past cfg P start next (e ∷ past) run = next e past run (every_past cfg P start next past run.1)

-- ---- of each member of a list to which each entry adds at the end

module _ (cfg : Config) {X : Type 0} (all : Past → List X) (added : HistoryEntry → Past → List X) where
  pub record Gathers : Type 0 where
    pub none : all [] ≡ []
    pub more : (e : HistoryEntry) (past : Past) → all (e ∷ past) ≡ all past ++ added e past

  abbrev pub OfEach : (Past → X → Type 0) → Past → Type 0
  OfEach T past = (x : X) → Contains (all past) x → T past x

  -- it stays true as an entry comes, and holds of what the entry adds
  pub record KeepsEach (T : Past → X → Type 0) : Type 0 where
    pub stays : (e : HistoryEntry) (past : Past) (x : X) → IsPastOf cfg (e ∷ past) → Contains (all past) x → T past x → T (e ∷ past) x
    pub made : (e : HistoryEntry) (past : Past) → IsPastOf cfg (e ∷ past) → OfEach T past → AllByRecursion (T (e ∷ past)) (added e past)

  one_more : (T : Past → X → Type 0) → Gathers → KeepsEach T → (e : HistoryEntry) (past : Past) → IsPastOf cfg (e ∷ past) → OfEach T past → OfEach T (e ∷ past)
  one_more T gathers keeps e past run before x c =
      elim (Contains-append_cases (all past) (added e past) x (subst (λ l. Contains l x) (gathers.more e past) c)) [
        | inl old ↦ keeps.stays e past x run old (before x old)
        | inr new ↦ each_member (T (e ∷ past)) (added e past) x (keeps.made e past run before) new
      ]

  pub every_member : (T : Past → X → Type 0) → Gathers → KeepsEach T → (past : Past) → IsPastOf cfg past → OfEach T past
  every_member T gathers keeps =
      every_past cfg (OfEach T) (λ x c. absurd (omega (arith, (subst (λ l. Contains l x) gathers.none c).1))) (one_more T gathers keeps)

-- ---- of each node's state

module _ {S : Type 0} (k : Kind S) (cfg : Config) (valid : IsValidConfig cfg) where
  abbrev pub OfStates : (Past → NodeId → Node S → Type 0) → Past → Type 0
  OfStates P past = (node : NodeId) → k.IsOne node → IsNodeOf cfg node → P past node (after k cfg node past)

  -- it holds at the start, each step of a node keeps it, and it stays true as an entry of another node comes
  pub record KeepsStates (P : Past → NodeId → Node S → Type 0) : Type 0 where
    pub starts : (node : NodeId) → k.IsOne node → IsNodeOf cfg node → P [] node (k.fresh cfg node)
    pub steps : (e : HistoryEntry) (past : Past) → IsPastOf cfg (e ∷ past) → k.IsOne e.node → OfStates P past
        → P (e ∷ past) e.node (k.step (after k cfg e.node past) e.event).state
    pub stays : (e : HistoryEntry) (past : Past) (node : NodeId) (n : Node S) → IsPastOf cfg (e ∷ past) → same_node e.node node ≡ false → P past node n
        → P (e ∷ past) node n

  module _ (P : Past → NodeId → Node S → Type 0) (keeps : KeepsStates P) where
    own_kept : (e : HistoryEntry) (past : Past) → IsPastOf cfg (e ∷ past) → OfStates P past → k.IsOne e.node
        → P (e ∷ past) e.node (after k cfg e.node (e ∷ past))
    own_kept e past run before one =
        subst (P (e ∷ past) e.node) (sym (own_state k cfg e.node e past valid run (node_itself e.node))) (keeps.steps e past run one before)

    next_kept : (e : HistoryEntry) (past : Past) → IsPastOf cfg (e ∷ past) → OfStates P past → (own : Bool) (node : NodeId) → same_node e.node node ≡ own
        → k.IsOne node → IsNodeOf cfg node
        → P (e ∷ past) node (after k cfg node (e ∷ past))
    next_kept e past run before true node own one here =
        let same = same_node_is e.node node own in
        subst (λ n. P (e ∷ past) n (after k cfg n (e ∷ past))) same (own_kept e past run before (subst k.IsOne (sym same) one))
    next_kept e past run before false node other one here =
        subst (P (e ∷ past) node) (sym (other_state k cfg node e past other)) (keeps.stays e past node (after k cfg node past) run other (before node one here))

    pub every_state : (past : Past) → IsPastOf cfg past → OfStates P past
    every_state = every_past cfg (OfStates P) keeps.starts (λ e past run before node. next_kept e past run before (same_node e.node node) node refl)
