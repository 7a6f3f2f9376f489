-- What is known of a slot as a step of a sequencer begins, and in its midst.
use Rattle.std.proofs.Common.{◌≡◌, ℕ, zero, suc, ◌<◌, List, [], ◌∷◌, ◌++◌, length, Some, inl, inr, ◌⊎◌, refl, ap}
use Rattle.std.specs.Prelude.{IsTrue}
use Rattle.std.specs.List.{AllByRecursion, slice_get}
use Rattle.majority.specs.Votes.{IsChosenByVotes}
use Rattle.majority.specs.Slot.{SlotState}
use Rattle.majority.specs.Agreement.{IsSound}
use Rattle.majority.proofs.Decided.{IsChosenAt_kept}
use Rattle.msg_wire.specs.Nodes.{number_of, is_sequencer}
use Rattle.msg_wire.specs.Valid.{IsValidEvent}
use Rattle.node_rules.specs.Names.{Event, Message}
use Rattle.node_rules.specs.Nodes.{Node}
use Rattle.node_rules.specs.Turns.{Turn}
use Rattle.node_rules.proofs.Places.{Comes}
use Rattle.seq_node.specs.States.{SequencerState}
use Rattle.seq_node.proofs.Keeps.{IsOrderlyAs}
use Rattle.runs.specs.Names.{NodeId, Config, Entry, Item, What}
use Rattle.runs.specs.Names.whats
use Rattle.safety_frame.proofs.Names.{IsNamed}
use Rattle.safety_agreement.proofs.Mirrors.{IsSaid, Mirrors, Moves}

abbrev pub Named : NodeId → Type 0
Named me = IsTrue (is_sequencer me)

-- an entry of a list with one more at its end
pub at_end : {X : Type 0} (xs : List X) (x y : X) (k : ℕ) → slice_get (xs ++ x ∷ []) k ≡ Some y → (slice_get xs k ≡ Some y) ⊎ ((length xs ≡ k) × (x ≡ y))
at_end [] x y zero e = inr (refl, cc)
at_end [] x y (suc k) e = absurd (cc)
at_end (z ∷ xs) x y zero e = inl e
at_end (z ∷ xs) x y (suc k) e = elim (at_end xs x y k e) [
  | inl before ↦ inl before
  | inr last ↦ inr (ap suc last.0, last.1)
]

-- what is chosen stays so
pub chosen_on : (n i : ℕ) (old new : SlotState Entry) (entry : Entry) → Moves i old new → IsChosenByVotes n old.votes entry → IsChosenByVotes n new.votes entry
chosen_on n i old new entry moves is =
    (is.0, IsChosenAt_kept n old.votes new.votes is.0 entry (λ vote there. moves.kept vote.replica vote.ballot vote.value there) is.1)

-- what is known as a step begins
pub record Given (cfg : Config) (slot : ℕ) (me : NodeId) (start : SlotState Entry) (earlier : List Item) (n : Node SequencerState)
    (event : Event) : Type 0 where
  pub within : number_of me < cfg.seqs
  pub sound : IsSound cfg.seqs start
  pub mirrors : Mirrors slot (number_of me) start n.own earlier
  pub named : IsNamed cfg me n
  pub is : IsOrderlyAs Named n
  pub valid : IsValidEvent event
  pub told : (from : NodeId) (what : What) → Comes n event from what → IsSaid slot start.sent from what
  pub decided : (from : NodeId) (at count : ℕ) (entry : Entry) → Comes n event from (whats.Decided at count entry) → at ≡ slot
      → IsChosenByVotes cfg.seqs start.votes entry
  pub known : (entry : Entry) → slice_get n.base.known slot ≡ Some entry → IsChosenByVotes cfg.seqs start.votes entry

-- and in its midst
pub record Midway (cfg : Config) (slot : ℕ) (me : NodeId) (start : SlotState Entry) (earlier : List Item) (t : Turn SequencerState) : Type 0 where
  pub state : SlotState Entry
  pub sound : IsSound cfg.seqs state
  pub moves : Moves (number_of me) start state
  pub mirrors : Mirrors slot (number_of me) state t.state.own (earlier ++ t.stable)
  pub said : AllByRecursion (λ (m : Message). IsSaid slot state.sent me m.what) t.sends
  pub named : IsNamed cfg me t.state
  pub is : IsOrderlyAs Named t.state
  pub known : (entry : Entry) → slice_get t.state.base.known slot ≡ Some entry → IsChosenByVotes cfg.seqs state.votes entry
