-- The induction over a run for what holds of every consumer's state: one that isn't the cluster's takes no step. And what an entry of a consumer's
-- own adds to what it has shown and stored.
use Rattle.std.proofs.Common.{◌≡◌, ◌∙◌, ℕ, ◌<◌, true, false, [], ◌∷◌, ◌++◌, refl, sym, ap, subst}
use Rattle.msg_wire.specs.Nodes.{same_node}
use Rattle.msg_wire.specs.Valid.{IsValidConfig, IsNodeOf}
use Rattle.net_model.specs.Pasts.{Past, AfterEach, marks_of}
use Rattle.node_rules.specs.Nodes.{Node}
use Rattle.app_law.specs.declared.any_app.AnyApp.{AnyApp}
use Rattle.consumer_node.specs.Apps.{any_meaning}
use Rattle.consumer_node.specs.States.{ConsumerState}
use Rattle.consumer_node.specs.Sound.{IsConsumer}
use Rattle.consumer_node.specs.Steps.{consumer_step}
use Rattle.consumer_node.specs.Restart.{fresh_node}
use Rattle.runs.specs.Names.{NodeId, Config, HistoryEntry}
use Rattle.runs.specs.Names.nodes
use Rattle.runs.specs.Runs.{IsPastOf}
use Rattle.runs.specs.Kinds.{consumer_after, items_at, step_at}
use Rattle.runs.specs.Known.{known_at}
use Rattle.runs.proofs.SameNodes.{same_node_is, node_itself}
use Rattle.safety_frame.proofs.NodeKinds.{consumers}
use Rattle.safety_frame.proofs.Pasts.{own_state, other_state, own_items, own_shown, on_own}
use Rattle.safety_frame.proofs.Inductions.{every_past}
use Rattle.safety_frame.proofs.SoundStates.{states_are_sound}
use Rattle.safety_frame.proofs.StableItems.{known_is}
use Rattle.safety_frame.proofs.StableParts.{consumer_known}

abbrev pub Consumer : Type 0
Consumer = Node (ConsumerState AnyApp)

module _ (cfg : Config) (valid : IsValidConfig cfg) where
  -- it holds at the start, each step of its own keeps it, and it stays true as an entry of another node comes
  pub record KeepsConsumers (P : Past → ℕ → Consumer → Type 0) : Type 0 where
    pub starts : (number : ℕ) → P [] number (fresh_node any_meaning cfg (nodes.Consumer number))
    pub steps : (e : HistoryEntry) (past : Past) (number : ℕ) → IsPastOf cfg (e ∷ past) → e.node ≡ nodes.Consumer number
        → P past number (consumer_after cfg number past) → P (e ∷ past) number (consumer_step any_meaning (consumer_after cfg number past) e.event).state
    pub stays : (e : HistoryEntry) (past : Past) (number : ℕ) (n : Consumer) → IsPastOf cfg (e ∷ past)
        → same_node e.node (nodes.Consumer number) ≡ false → P past number n → P (e ∷ past) number n

  module _ (P : Past → ℕ → Consumer → Type 0) (keeps : KeepsConsumers P) where
    next_kept : (e : HistoryEntry) (past : Past) → IsPastOf cfg (e ∷ past) → ((number : ℕ) → P past number (consumer_after cfg number past)) → (number : ℕ)
        → P (e ∷ past) number (consumer_after cfg number (e ∷ past))
    next_kept e past run before number =
        let node : NodeId = nodes.Consumer number in
        on_own (same_node e.node node)
        (λ own.
        subst (P (e ∷ past) number) (sym (own_state consumers cfg node e past valid run own))
        (keeps.steps e past number run (same_node_is e.node node own) (before number)))
        (λ other.
        subst (P (e ∷ past) number) (sym (other_state consumers cfg node e past other))
        (keeps.stays e past number (consumer_after cfg number past) run other (before number)))

    pub every_consumer : (past : Past) → IsPastOf cfg past → (number : ℕ) → P past number (consumer_after cfg number past)
    every_consumer = every_past cfg (λ past. (number : ℕ) → P past number (consumer_after cfg number past)) keeps.starts next_kept

-- what holds of every past holds after each entry
pub after_each : (cfg : Config) (P : Past → Type 0) → ((past : Past) → IsPastOf cfg past → P past) → (past : Past) → IsPastOf cfg past → AfterEach P past
after_each cfg P each [] run = tt
after_each cfg P each (e ∷ past) run = (each (e ∷ past) run, after_each cfg P each past run.1)

-- ---- an entry of a consumer's own

module _ (cfg : Config) (e : HistoryEntry) (past : Past) (number : ℕ) (run : IsPastOf cfg (e ∷ past)) (same : e.node ≡ nodes.Consumer number) where
  pub is_own : same_node e.node (nodes.Consumer number) ≡ true
  is_own = ap (λ node. same_node node (nodes.Consumer number)) same ∙ node_itself (nodes.Consumer number)

  pub is_there : number < cfg.consumers
  is_there = subst (IsNodeOf cfg) same run.0.within

  pub shows_of : e.marks ≡ (consumer_step any_meaning (consumer_after cfg number past) e.event).marks
  shows_of = run.0.shows ∙ ap (λ node. (step_at cfg node past e.event).marks) same

  pub marks_more : marks_of (nodes.Consumer number) (e ∷ past)
      ≡ marks_of (nodes.Consumer number) past ++ (consumer_step any_meaning (consumer_after cfg number past) e.event).marks
  marks_more = own_shown (nodes.Consumer number) e past is_own ∙ ap (λ l. marks_of (nodes.Consumer number) past ++ l) shows_of

  pub items_more : items_at cfg (nodes.Consumer number) (e ∷ past)
      ≡ items_at cfg (nodes.Consumer number) past ++ (consumer_step any_meaning (consumer_after cfg number past) e.event).stable
  items_more = own_items consumers cfg (nodes.Consumer number) e past is_own

  pub knows_more : IsValidConfig cfg
      → (consumer_step any_meaning (consumer_after cfg number past) e.event).state.base.known ≡ known_at cfg (nodes.Consumer number) (e ∷ past)
  knows_more valid =
      ap (λ (s : Consumer). s.base.known) (sym (own_state consumers cfg (nodes.Consumer number) e past valid run is_own))
      ∙ known_is consumers consumer_known cfg valid (e ∷ past) run (nodes.Consumer number) refl is_there

  pub sound_before : IsValidConfig cfg → IsConsumer (consumer_after cfg number past)
  sound_before valid = (states_are_sound cfg past valid run.1).consumers number is_there
