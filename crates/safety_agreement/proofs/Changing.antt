-- How the machine of one slot follows a sequencer: what its state is after a change there, with what the sequencer then has.
use Rattle.std.proofs.Common.{◌≡◌, ◌∙◌, ℕ, ◌<◌, List, [], ◌∷◌, ◌++◌, Contains, Option, None, inl, inr, sym, subst}
use Rattle.std.proofs.lemmas.List.Elements.{Contains-append_left, Contains-append_right, Contains-push_cases}
use Rattle.majority.specs.Acceptors.{AcceptorState}
use Rattle.majority.specs.Proposers.{Attempt}
use Rattle.majority.specs.Votes.{Vote, HasVote}
use Rattle.majority.specs.Slot.{Message as SlotMessage, SlotState}
use Rattle.majority.specs.Agreement.{IsSound}
use Rattle.majority.proofs.Lists.{Contains_here, Contains_later, Contains_cases}
use Rattle.majority.proofs.Steps.{with_entry_here}
use Rattle.seq_node.specs.States.{SequencerState, acceptor_at}
use Rattle.runs.specs.Names.{Entry, Item}
use Rattle.runs.specs.Names.items
use Rattle.safety_agreement.proofs.Mirrors.{attempt_at, IsOfferedIfAny, Mirrors, Moves, changed, moves_none, same_mirrors, stored_mirrors, changed_moves, adds_none, adds_one}
use Rattle.safety_agreement.proofs.Machine.{vote_of, attempt_sound}

-- the state that follows
pub record Follows (n slot i : ℕ) (state : SlotState Entry) (own : SequencerState) (stored : List Item) : Type 0 where
  pub next : SlotState Entry
  pub sound : IsSound n next
  pub moves : Moves i state next
  pub mirrors : Mirrors slot i next own stored

module _ (n slot i : ℕ) (state : SlotState Entry) (old : SequencerState) (stored : List Item) (within : i < n) (sound : IsSound n state)
    (was : Mirrors slot i state old stored) where
  -- nothing of the slot changed
  abbrev pub nothing_follows : (own : SequencerState) → acceptor_at own slot ≡ acceptor_at old slot → attempt_at slot own.attempt ≡ attempt_at slot old.attempt
      → Follows n slot i state own stored
  nothing_follows own acceptor attempt =
      record { next = state; sound = sound; moves = moves_none i state; mirrors = same_mirrors slot i state old own stored acceptor attempt was }

  -- what is mirrored where the acceptor and the attempt are put
  put_mirrors : (acceptor : AcceptorState Entry) (attempt : Option (Attempt Entry)) (votes : List (Vote Entry)) (sent : List (SlotMessage Entry))
      (own : SequencerState) (later : List Item) → acceptor ≡ acceptor_at own slot → attempt ≡ attempt_at slot own.attempt → IsOfferedIfAny sent attempt
      → ((ballot : ℕ) (entry : Entry) → Contains later (items.Accepted slot ballot entry) → HasVote votes i ballot entry)
      → ((ballot : ℕ) (entry : Entry) → HasVote votes i ballot entry → Contains later (items.Accepted slot ballot entry))
      → Mirrors slot i (changed i acceptor attempt votes sent state) own later
  put_mirrors acceptor attempt votes sent own later acceptor_is attempt_is offered voted cast = record {
    acceptor = with_entry_here i acceptor state.acceptors ∙ acceptor_is;
    attempt = with_entry_here i attempt state.attempts ∙ attempt_is;
    offered = subst (IsOfferedIfAny sent) (sym (with_entry_here i attempt state.attempts)) offered;
    voted = voted;
    votes = cast;
  }

  -- without a vote
  pub change_follows : (acceptor : AcceptorState Entry) (attempt : Option (Attempt Entry)) (sent : List (SlotMessage Entry)) (own : SequencerState)
      → IsSound n (changed i acceptor attempt state.votes sent state) → ((m : SlotMessage Entry) → Contains state.sent m → Contains sent m)
      → acceptor ≡ acceptor_at own slot → attempt ≡ attempt_at slot own.attempt → IsOfferedIfAny sent attempt → Follows n slot i state own stored
  change_follows acceptor attempt sent own is more acceptor_is attempt_is offered = record {
    next = changed i acceptor attempt state.votes sent state;
    sound = is;
    moves = changed_moves i acceptor attempt state.votes sent state (adds_none i state.votes) more;
    mirrors = put_mirrors acceptor attempt state.votes sent own stored acceptor_is attempt_is offered was.voted was.votes;
  }

  -- an attempt for the slot ends, if there is one
  pub drop_follows : (own : SequencerState) → acceptor_at own slot ≡ acceptor_at old slot → attempt_at slot own.attempt ≡ None
      → Follows n slot i state own stored
  drop_follows own acceptor none =
      change_follows (state.acceptors i) None state.sent own (attempt_sound n i state within sound None tt) (λ m c. c) (was.acceptor ∙ sym acceptor)
      (sym none) tt

  -- with a vote, which is stored
  vote_stored : (b : ℕ) (v : Entry) (ballot : ℕ) (entry : Entry) → Contains (stored ++ items.Accepted slot b v ∷ []) (items.Accepted slot ballot entry)
      → HasVote (vote_of i b v ∷ state.votes) i ballot entry
  vote_stored b v ballot entry c =
      elim (Contains-push_cases stored (items.Accepted slot b v) (items.Accepted slot ballot entry) c) [
        | inl before ↦ Contains_later (vote_of i b v) (vote_of i ballot entry) state.votes (was.voted ballot entry before)
        | inr same ↦
            let at_ballot : b ≡ ballot = cc in
            let of_value : v ≡ entry = cc in
            subst (λ w. HasVote (vote_of i b v ∷ state.votes) i ballot w) of_value
            (subst (λ c. HasVote (vote_of i b v ∷ state.votes) i c v) at_ballot (Contains_here (vote_of i b v) state.votes))
      ]

  vote_cast : (b : ℕ) (v : Entry) (ballot : ℕ) (entry : Entry) → HasVote (vote_of i b v ∷ state.votes) i ballot entry
      → Contains (stored ++ items.Accepted slot b v ∷ []) (items.Accepted slot ballot entry)
  vote_cast b v ballot entry h =
      elim (Contains_cases (vote_of i b v) (vote_of i ballot entry) state.votes h) [
        | inl same ↦
            let All : Item → Type 0 = Contains (stored ++ items.Accepted slot b v ∷ []) in
            subst (λ (x : Vote Entry). All (items.Accepted slot x.ballot x.value)) same
            (Contains-append_right stored (items.Accepted slot b v ∷ []) (items.Accepted slot b v) (Contains_here (items.Accepted slot b v) []))
        | inr before ↦ Contains-append_left stored (items.Accepted slot b v ∷ []) (items.Accepted slot ballot entry) (was.votes ballot entry before)
      ]

  pub vote_follows : (b : ℕ) (v : Entry) (acceptor : AcceptorState Entry) (attempt : Option (Attempt Entry)) (sent : List (SlotMessage Entry))
      (own : SequencerState)
      → IsSound n (changed i acceptor attempt (vote_of i b v ∷ state.votes) sent state) → ((m : SlotMessage Entry) → Contains state.sent m → Contains sent m)
      → acceptor ≡ acceptor_at own slot → attempt ≡ attempt_at slot own.attempt → IsOfferedIfAny sent attempt
      → Follows n slot i state own (stored ++ items.Accepted slot b v ∷ [])
  vote_follows b v acceptor attempt sent own is more acceptor_is attempt_is offered = record {
    next = changed i acceptor attempt (vote_of i b v ∷ state.votes) sent state;
    sound = is;
    moves = changed_moves i acceptor attempt (vote_of i b v ∷ state.votes) sent state (adds_one i b v state.votes) more;
    mirrors =
        put_mirrors acceptor attempt (vote_of i b v ∷ state.votes) sent own (stored ++ items.Accepted slot b v ∷ []) acceptor_is attempt_is offered
        (vote_stored b v) (vote_cast b v);
  }

-- an item that is no vote at the slot is stored as well
pub with_item : (n slot i : ℕ) (state : SlotState Entry) (own : SequencerState) (stored : List Item) (item : Item)
    → ((ballot : ℕ) (entry : Entry) → item ≡ items.Accepted slot ballot entry → ⊥) → Follows n slot i state own stored
    → Follows n slot i state own (stored ++ item ∷ [])
with_item n slot i state own stored item no_vote f = record {
  next = f.next;
  sound = f.sound;
  moves = f.moves;
  mirrors = stored_mirrors slot i f.next own stored item no_vote f.mirrors;
}
