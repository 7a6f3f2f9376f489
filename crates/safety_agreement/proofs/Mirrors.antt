-- A slot of a run as a state of the machine of one slot: what such a state mirrors of a sequencer and of what was sent, and how it moves
-- as one sequencer does something.
use Rattle.std.proofs.Common.{◌≡◌, ◌∙◌, ℕ, ◌==◌, Bool, false, List, [], ◌∷◌, ◌++◌, Contains, Option, Some, None, inl, inr, refl, sym, ap, subst, if◌then◌else◌}
use Rattle.std.proofs.lemmas.Bool.{eq-eqb}
use Rattle.std.proofs.lemmas.List.Elements.{Contains-append_left, Contains-push_cases}
use Rattle.majority.specs.Acceptors.{AcceptorState}
use Rattle.majority.specs.Proposers.{Attempt}
use Rattle.majority.specs.Votes.{Vote, HasVote}
use Rattle.majority.specs.Slot.{Message as SlotMessage, Prepare, Promise, Accept, Accepted, SlotState, with_entry}
use Rattle.majority.proofs.Lists.{Contains_cases, Contains_later}
use Rattle.majority.proofs.Entries.{with_entry_other}
use Rattle.msg_wire.specs.Nodes.{number_of}
use Rattle.seq_node.specs.States.{SlotAttempt, SequencerState, acceptor_at}
use Rattle.runs.specs.Names.{NodeId, Entry, Item, What}
use Rattle.runs.specs.Names.items
use Rattle.runs.specs.Names.whats

-- the attempt, where it is for the slot
abbrev pub attempt_at : ℕ → Option SlotAttempt → Option (Attempt Entry)
attempt_at slot None = None
attempt_at slot (Some a) = if a.slot == slot then Some a.attempt else None

-- what an attempt asks for was sent
abbrev pub IsOffered : List (SlotMessage Entry) → ℕ → Option Entry → Type 0
IsOffered sent ballot None = Contains sent (Prepare ballot)
IsOffered sent ballot (Some value) = Contains sent (Accept ballot value)

abbrev pub IsOfferedIfAny : List (SlotMessage Entry) → Option (Attempt Entry) → Type 0
IsOfferedIfAny sent None = Unit {0}
IsOfferedIfAny sent (Some a) = IsOffered sent a.ballot a.sending

-- of one sequencer: its acceptor and its attempt, and its votes by its items
pub record Mirrors (slot i : ℕ) (state : SlotState Entry) (own : SequencerState) (stored : List Item) : Type 0 where
  pub acceptor : state.acceptors i ≡ acceptor_at own slot
  pub attempt : state.attempts i ≡ attempt_at slot own.attempt
  pub offered : IsOfferedIfAny state.sent (state.attempts i)
  pub voted : (ballot : ℕ) (entry : Entry) → Contains stored (items.Accepted slot ballot entry) → HasVote state.votes i ballot entry
  pub votes : (ballot : ℕ) (entry : Entry) → HasVote state.votes i ballot entry → Contains stored (items.Accepted slot ballot entry)

-- a message of the slot is one of the machine
abbrev pub IsSaid : ℕ → List (SlotMessage Entry) → NodeId → What → Type 0
IsSaid slot sent from (whats.Prepare at ballot) = at ≡ slot → Contains sent (Prepare ballot)
IsSaid slot sent from (whats.Promise at ballot report) = at ≡ slot → Contains sent (Promise (number_of from) ballot report)
IsSaid slot sent from (whats.Accept at ballot entry) = at ≡ slot → Contains sent (Accept ballot entry)
IsSaid slot sent from (whats.Accepted at ballot) = at ≡ slot → Contains sent (Accepted (number_of from) ballot)
IsSaid slot sent from _ = Unit {0}

-- one sequencer did something: what was voted and sent is kept, and of the others nothing else changed
pub record Moves (i : ℕ) (old new : SlotState Entry) : Type 0 where
  pub acceptors : (j : ℕ) → (j ≡ i → ⊥) → new.acceptors j ≡ old.acceptors j
  pub attempts : (j : ℕ) → (j ≡ i → ⊥) → new.attempts j ≡ old.attempts j
  pub votes : (j ballot : ℕ) (entry : Entry) → (j ≡ i → ⊥) → HasVote new.votes j ballot entry → HasVote old.votes j ballot entry
  pub kept : (j ballot : ℕ) (entry : Entry) → HasVote old.votes j ballot entry → HasVote new.votes j ballot entry
  pub sent : (m : SlotMessage Entry) → Contains old.sent m → Contains new.sent m

pub moves_none : (i : ℕ) (state : SlotState Entry) → Moves i state state
moves_none i state = record {
  acceptors = λ j other. refl;
  attempts = λ j other. refl;
  votes = λ j ballot entry other h. h;
  kept = λ j ballot entry h. h;
  sent = λ m c. c;
}

pub moves_on : (i : ℕ) (a b c : SlotState Entry) → Moves i a b → Moves i b c → Moves i a c
moves_on i a b c p q = record {
  acceptors = λ j other. q.acceptors j other ∙ p.acceptors j other;
  attempts = λ j other. q.attempts j other ∙ p.attempts j other;
  votes = λ j ballot entry other h. p.votes j ballot entry other (q.votes j ballot entry other h);
  kept = λ j ballot entry h. q.kept j ballot entry (p.kept j ballot entry h);
  sent = λ m h. q.sent m (p.sent m h);
}

-- ---- votes and messages that are added

-- the replica's vote, if any is added
pub record AddsVotes (i : ℕ) (old new : List (Vote Entry)) : Type 0 where
  pub votes : (j ballot : ℕ) (entry : Entry) → (j ≡ i → ⊥) → HasVote new j ballot entry → HasVote old j ballot entry
  pub kept : (j ballot : ℕ) (entry : Entry) → HasVote old j ballot entry → HasVote new j ballot entry

pub adds_none : (i : ℕ) (votes : List (Vote Entry)) → AddsVotes i votes votes
adds_none i votes = record { votes = λ j ballot entry other h. h; kept = λ j ballot entry h. h }

pub adds_one : (i b : ℕ) (v : Entry) (votes : List (Vote Entry)) → AddsVotes i votes (record { replica = i; ballot = b; value = v } ∷ votes)
adds_one i b v votes = record {
  votes = λ j ballot entry other h.
      elim (Contains_cases (record { replica = i; ballot = b; value = v }) (record { replica = j; ballot = ballot; value = entry }) votes h) [
        | inl same ↦ absurd (other (sym (ap (λ (x : Vote Entry). x.replica) same)))
        | inr old ↦ old
      ];
  kept = λ j ballot entry h. Contains_later _ _ votes h;
}

-- the replica's acceptor and attempt become these
abbrev pub changed : ℕ → AcceptorState Entry → Option (Attempt Entry) → List (Vote Entry) → List (SlotMessage Entry) → SlotState Entry → SlotState Entry
changed i acceptor attempt votes sent state =
    record { acceptors = with_entry i acceptor state.acceptors; attempts = with_entry i attempt state.attempts; votes = votes; sent = sent }

pub changed_moves : (i : ℕ) (acceptor : AcceptorState Entry) (attempt : Option (Attempt Entry)) (votes : List (Vote Entry)) (sent : List (SlotMessage Entry))
    (state : SlotState Entry) → AddsVotes i state.votes votes → ((m : SlotMessage Entry) → Contains state.sent m → Contains sent m)
    → Moves i state (changed i acceptor attempt votes sent state)
changed_moves i acceptor attempt votes sent state adds more = record {
  acceptors = λ j other. with_entry_other i j acceptor state.acceptors other;
  attempts = λ j other. with_entry_other i j attempt state.attempts other;
  votes = adds.votes;
  kept = adds.kept;
  sent = more;
}

-- ---- what goes on being so

offered_on : (old new : List (SlotMessage Entry)) → ((m : SlotMessage Entry) → Contains old m → Contains new m) → (ballot : ℕ) (sending : Option Entry)
    → IsOffered old ballot sending → IsOffered new ballot sending
offered_on old new more ballot None was = more (Prepare ballot) was
offered_on old new more ballot (Some value) was = more (Accept ballot value) was

pub offered_still : (old new : List (SlotMessage Entry)) → ((m : SlotMessage Entry) → Contains old m → Contains new m) → (attempt : Option (Attempt Entry))
    → IsOfferedIfAny old attempt → IsOfferedIfAny new attempt
offered_still old new more None was = tt
offered_still old new more (Some a) was = offered_on old new more a.ballot a.sending was

pub said_still : (slot : ℕ) (old new : List (SlotMessage Entry)) → ((m : SlotMessage Entry) → Contains old m → Contains new m) → (from : NodeId) (what : What)
    → IsSaid slot old from what → IsSaid slot new from what
said_still slot old new more from (whats.Prepare at ballot) was = λ here. more (Prepare ballot) (was here)
said_still slot old new more from (whats.Promise at ballot report) was = λ here. more (Promise (number_of from) ballot report) (was here)
said_still slot old new more from (whats.Accept at ballot entry) was = λ here. more (Accept ballot entry) (was here)
said_still slot old new more from (whats.Accepted at ballot) was = λ here. more (Accepted (number_of from) ballot) (was here)
said_still slot old new more from _ was = tt

-- another sequencer is mirrored as it was
pub other_mirrors : (slot i j : ℕ) (old new : SlotState Entry) (own : SequencerState) (stored : List Item) → Moves i old new → (j ≡ i → ⊥)
    → Mirrors slot j old own stored → Mirrors slot j new own stored
other_mirrors slot i j old new own stored moves other was = record {
  acceptor = moves.acceptors j other ∙ was.acceptor;
  attempt = moves.attempts j other ∙ was.attempt;
  offered = subst (IsOfferedIfAny new.sent) (sym (moves.attempts j other)) (offered_still old.sent new.sent moves.sent (old.attempts j) was.offered);
  voted = λ ballot entry c. moves.kept j ballot entry (was.voted ballot entry c);
  votes = λ ballot entry h. was.votes ballot entry (moves.votes j ballot entry other h);
}

-- so is one whose part changed elsewhere
pub same_mirrors : (slot i : ℕ) (state : SlotState Entry) (own later : SequencerState) (stored : List Item) → acceptor_at later slot ≡ acceptor_at own slot
    → attempt_at slot later.attempt ≡ attempt_at slot own.attempt → Mirrors slot i state own stored → Mirrors slot i state later stored
same_mirrors slot i state own later stored acceptor attempt was = record {
  acceptor = was.acceptor ∙ sym acceptor;
  attempt = was.attempt ∙ sym attempt;
  offered = was.offered;
  voted = was.voted;
  votes = was.votes;
}

-- and one that stored something that is no vote at the slot
pub stored_mirrors : (slot i : ℕ) (state : SlotState Entry) (own : SequencerState) (stored : List Item) (item : Item)
    → ((ballot : ℕ) (entry : Entry) → item ≡ items.Accepted slot ballot entry → ⊥) → Mirrors slot i state own stored → Mirrors slot i state own
    (stored ++ item ∷ [])
stored_mirrors slot i state own stored item no_vote was = record {
  acceptor = was.acceptor;
  attempt = was.attempt;
  offered = was.offered;
  voted = λ ballot entry c. elim (Contains-push_cases stored item (items.Accepted slot ballot entry) c) [
    | inl old ↦ was.voted ballot entry old
    | inr same ↦ absurd (no_vote ballot entry same)
  ];
  votes = λ ballot entry h. Contains-append_left stored (item ∷ []) (items.Accepted slot ballot entry) (was.votes ballot entry h);
}

-- ---- attempts of the slot and of others

pub at_slot : (slot : ℕ) (a : SlotAttempt) → a.slot ≡ slot → attempt_at slot (Some a) ≡ Some a.attempt
at_slot slot a here = ap (λ (b : Bool). if b then Some a.attempt else None) (eq-eqb a.slot slot here)

pub off_slot : (slot : ℕ) (a : SlotAttempt) → (a.slot == slot) ≡ false → attempt_at slot (Some a) ≡ None
off_slot slot a other = ap (λ (b : Bool). if b then Some a.attempt else None) other
