-- What a sequencer says of a slot, the machine of that slot says: a promise and an acceptance since they are true of its acceptor, and what
-- an attempt asks for since it was sent as the attempt began or began to send.
use Rattle.std.proofs.Common.{◌≡◌, ◌∙◌, ℕ, ◌+◌, ◌<◌, ◌==◌, Bool, true, false, List, ◌∷◌, length, Contains, Option, Some, None, refl, sym, ap, subst, arith}
use Rattle.std.proofs.lemmas.Bool.{eqb-true, eqb-false}
use Rattle.majority.specs.Ballots.{greater_promise}
use Rattle.majority.specs.Acceptors.{AcceptorState}
use Rattle.majority.specs.Votes.{HasVote}
use Rattle.majority.specs.Slot.{Message as SlotMessage, Promise, Accepted, SlotState}
use Rattle.majority.specs.Agreement.{IsSound, IsLastVote, IsTrueMessage, Reaches, Tells, bars_of}
use Rattle.majority.proofs.Heard.{Tells_own}
use Rattle.majority.proofs.Steps.{not_passed}
use Rattle.majority.proofs.Lists.{Contains_here, Contains_later}
use Rattle.msg_wire.specs.Nodes.{number_of}
use Rattle.node_rules.specs.Names.{Event}
use Rattle.node_rules.specs.Nodes.{Node}
use Rattle.seq_node.specs.States.{SlotAttempt, SequencerState, acceptor_at}
use Rattle.seq_node.proofs.Places.{Says, tells, announces, promises, accepts, prepares, proposes, fills}
use Rattle.runs.specs.Names.{NodeId, Config, Entry, Item, What}
use Rattle.runs.specs.Names.whats
use Rattle.safety_agreement.proofs.Mirrors.{attempt_at, at_slot, IsOffered, IsOfferedIfAny, offered_still, IsSaid, Mirrors}
use Rattle.safety_agreement.proofs.Machine.{say_sound}
use Rattle.safety_agreement.proofs.Changing.{Follows, nothing_follows}
use Rattle.safety_agreement.proofs.Alone.{never_less}

-- the machine goes on, and says it
pub record Speaks (n slot i : ℕ) (state : SlotState Entry) (own : SequencerState) (stored : List Item) (from : NodeId) (what : What) : Type 0 where
  pub follows : Follows n slot i state own stored
  pub said : IsSaid slot follows.next.sent from what

module _ (cfg : Config) (slot : ℕ) (me : NodeId) (within : number_of me < cfg.seqs) (n : Node SequencerState) (event : Event) (s : Node SequencerState)
    (state : SlotState Entry) (stored : List Item) (sound : IsSound cfg.seqs state) (was : Mirrors slot (number_of me) state s.own stored)
  where
    abbrev i : ℕ
    i = number_of me

    abbrev Spoken : What → Type 0
    Spoken what = Speaks cfg.seqs slot i state s.own stored me what

    quiet : Follows cfg.seqs slot i state s.own stored
    quiet = nothing_follows cfg.seqs slot i state s.own stored within sound was s.own refl refl

    as_it_is : (what : What) → IsSaid slot state.sent me what → Spoken what
    unfolding quiet
    as_it_is what said = record { follows = quiet; said = said }

    held : (at : ℕ) → at ≡ slot → state.acceptors i ≡ acceptor_at s.own at
    held at here = was.acceptor ∙ ap (acceptor_at s.own) (sym here)

    later : (m : SlotMessage Entry) → (x : SlotMessage Entry) → Contains state.sent x → Contains (m ∷ state.sent) x
    later m x c = Contains_later m x state.sent c

    -- a true message is said
    true_follows : (m : SlotMessage Entry) → IsTrueMessage cfg.seqs state.votes (bars_of state.acceptors) m
        → (f : Follows cfg.seqs slot i state s.own stored) × (f.next.sent ≡ m ∷ state.sent)
    true_follows m holds = (
      record {
        next = record state { sent = m ∷ state.sent };
        sound = say_sound cfg.seqs state sound m holds;
        moves = record {
          acceptors = λ j other. refl;
          attempts = λ j other. refl;
          votes = λ j ballot entry other h. h;
          kept = λ j ballot entry h. h;
          sent = later m;
        };
        mirrors = record {
          acceptor = was.acceptor;
          attempt = was.attempt;
          offered = offered_still state.sent (m ∷ state.sent) (later m) (state.attempts i) was.offered;
          voted = was.voted;
          votes = was.votes;
        };
      },
      refl,
    )

    say : (what : What) (m : SlotMessage Entry) → IsTrueMessage cfg.seqs state.votes (bars_of state.acceptors) m → IsSaid slot (m ∷ state.sent) me what
        → Spoken what
    say what m holds said =
        let f = true_follows m holds in
        record { follows = f.0; said = subst (λ (sent : List (SlotMessage Entry)). IsSaid slot sent me what) (sym f.1) said }

    -- it promises what it has promised, and tells what it accepted last
    says_promise : (at ballot : ℕ) (report : Option (ℕ × Entry)) (test : Bool) → (at == slot) ≡ test
        → acceptor_at s.own at ≡ record { promised = Some ballot; accepted = report } → Spoken (whats.Promise at ballot report)
    says_promise at ballot report false test stands = as_it_is (whats.Promise at ballot report) (λ here. absurd (eqb-false at slot test here))
    says_promise at ballot report true test stands =
        let is = held at (eqb-true at slot test) ∙ stands in
        let bar : bars_of state.acceptors i ≡ Some ballot = ap (λ (a : AcceptorState Entry). a.promised) is in
        let free = ap (λ (p : Option ℕ). greater_promise p ballot) bar ∙ never_less ballot in
        say (whats.Promise at ballot report) (Promise i ballot report)
        (record {
          within = within;
          barred = subst (λ (p : Option ℕ). Reaches p ballot) (sym bar) (omega arith);
          tells =
              subst (Tells state.votes i ballot) (ap (λ (a : AcceptorState Entry). a.accepted) is)
              (Tells_own cfg.seqs state.votes i ballot (state.acceptors i) (sound.agreed.acceptors i)
              (not_passed (state.acceptors i).promised ballot free));
        })
        (λ same. Contains_here (Promise i ballot report) state.sent)

    -- its acceptance is a vote
    vote_of_last : (last : Option (ℕ × Entry)) (ballot : ℕ) (entry : Entry) → last ≡ Some (ballot, entry) → IsLastVote state.votes i last
        → HasVote state.votes i ballot entry
    vote_of_last None ballot entry e is = absurd (cc)
    vote_of_last (Some last) ballot entry e is =
        let same : last ≡ (ballot, entry) = cc in
        subst (λ (x : ℕ × Entry). HasVote state.votes i x.0 x.1) same is.0

    says_acceptance : (at ballot : ℕ) (entry : Entry) (test : Bool) → (at == slot) ≡ test
        → acceptor_at s.own at ≡ record { promised = Some ballot; accepted = Some (ballot, entry) } → Spoken (whats.Accepted at ballot)
    says_acceptance at ballot entry false test stands = as_it_is (whats.Accepted at ballot) (λ here. absurd (eqb-false at slot test here))
    says_acceptance at ballot entry true test stands =
        let is = held at (eqb-true at slot test) ∙ stands in
        say (whats.Accepted at ballot) (Accepted i ballot) (
          entry,
          vote_of_last (state.acceptors i).accepted ballot entry (ap (λ (a : AcceptorState Entry). a.accepted) is) (sound.agreed.acceptors i).last,
        )
        (λ same. Contains_here (Accepted i ballot) state.sent)

    -- ---- what an attempt asks for

    asked : (a : SlotAttempt) → s.own.attempt ≡ Some a → a.slot ≡ slot → IsOffered state.sent a.attempt.ballot a.attempt.sending
    asked a stands here =
        subst (IsOfferedIfAny state.sent) (was.attempt ∙ (ap (attempt_at slot) stands ∙ at_slot slot a here)) was.offered

    -- ---- all of it

    pub says_follow : (to : NodeId) (what : What) → Says n event s to what → Spoken what
    says_follow to _ (tells _ at entry why known here) = as_it_is (whats.Decided at (length s.base.known) entry) tt
    says_follow to _ (announces _ k at entry there more here) = as_it_is (whats.Decided at (at + 1) entry) tt
    says_follow to _ (promises _ at ballot report comes unknown stands) = says_promise at ballot report (at == slot) refl stands
    says_follow to _ (accepts _ at ballot entry comes unknown stands) = says_acceptance at ballot entry (at == slot) refl stands
    says_follow to _ (prepares _ k a there stands next none bar) =
        as_it_is (whats.Prepare a.slot a.attempt.ballot) (λ here. subst (IsOffered state.sent a.attempt.ballot) none (asked a stands here))
    says_follow to _ (proposes _ k a value there stands sending bar) =
        as_it_is (whats.Accept a.slot a.attempt.ballot value) (λ here. subst (IsOffered state.sent a.attempt.ballot) sending (asked a stands here))
    says_follow _ _ (fills k w tick uncovered at) = as_it_is (whats.Fill w.len) tt
