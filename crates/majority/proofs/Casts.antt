-- The two changes that matter: a replica promises a ballot, and a replica votes. Each goes with one message.
use Rattle.std.proofs.Common.{◌≡◌, ℕ, suc, ◌%◌, ◌<◌, ◌≤◌, List, ◌∷◌, Option, Some, None, ◌⊎◌, inl, inr, refl, sym, subst, arith}
use Rattle.std.proofs.lemmas.Bool.{cases_lt}
use Rattle.majority.specs.Acceptors.{AcceptorState, with_promise, with_vote}
use Rattle.majority.specs.Votes.{Vote, HasVote}
use Rattle.majority.specs.Slot.{Message, with_entry}
use Rattle.majority.proofs.Lists.{Contains_here, Contains_later}
use Rattle.majority.proofs.Entries.{with_entry_cases, Contains_elim, HasVote_elim}
use Rattle.majority.specs.Agreement.{Reaches, bars_of, HasNoVote, OneVotePerBallot, OwnersVoted, IsLastVote, AcceptorIsItems, IsTrueMessage, IsSafeAt, IsAgreed}
use Rattle.majority.proofs.Chosen.{OneValuePerBallot}
use Rattle.majority.proofs.Growth.{Grows, IsSafeAt_kept, IsTrueMessage_kept}

-- what a promise that does not pass a ballot reaches is no greater
pub Reaches_bound : (promise : Option ℕ) (ballot other : ℕ) → (Reaches promise (suc ballot) → ⊥) → Reaches promise other → other ≤ ballot
Reaches_bound None ballot other free reached = absurd reached
Reaches_bound (Some promise) ballot other free reached =
    elim (cases_lt ballot promise) [
      | inl passes ↦ absurd (free (omega arith))
      | inr below ↦ omega arith
    ]

module _ {V : Type 0} where
  bars_grow : (held : ℕ → AcceptorState V) (i b : ℕ) (own : AcceptorState V) → own.promised ≡ Some b → (Reaches (bars_of held i) (suc b) → ⊥) →
      (j c : ℕ) → Reaches (bars_of held j) c → Reaches (bars_of (with_entry i own held) j) c
  bars_grow held i b own promised free =
      with_entry_cases (λ (j : ℕ) (a : AcceptorState V). (c : ℕ) → Reaches (bars_of held j) c → Reaches a.promised c) i own held
      (λ c reached. rw promised (Reaches_bound (bars_of held i) b c free reached))
      (λ j other c reached. reached)

  -- A replica promises a ballot that its promise does not pass.
  module _ (n : ℕ) (held : ℕ → AcceptorState V) (votes : List (Vote V)) (sent : List (Message V)) (i b : ℕ) (message : Message V) (free : Reaches (bars_of held i) (suc b) → ⊥) where
    pub Grows_promise : Grows votes votes (bars_of held) (bars_of (with_entry i (with_promise b (held i)) held)) sent (message ∷ sent)
    Grows_promise =
        record {
          votes_kept = λ j c w vote. vote;
          votes_new = λ j c w vote. inl vote;
          bars_grow = bars_grow held i b (with_promise b (held i)) refl free;
          sent_kept = λ m member. Contains_later message m sent member;
        }

    pub IsAgreed_promise : IsAgreed n held votes sent → IsTrueMessage n votes (bars_of (with_entry i (with_promise b (held i)) held)) message →
        IsAgreed n (with_entry i (with_promise b (held i)) held) votes (message ∷ sent)
    IsAgreed_promise agreed holds =
        let bars' = bars_of (with_entry i (with_promise b (held i)) held) in
        record {
          one_vote = agreed.one_vote;
          owners = agreed.owners;
          acceptors = with_entry_cases (λ (j : ℕ) (a : AcceptorState V). AcceptorIsItems n votes j a) i (with_promise b (held i)) held
              (let before = agreed.acceptors i in
              record {
                within = before.within;
                barred = λ c w vote. Reaches_bound (bars_of held i) b c free (before.barred c w vote);
                last = before.last;
              })
              (λ j other. agreed.acceptors j);
          messages = Contains_elim (IsTrueMessage n votes bars') message sent holds (λ m member. IsTrueMessage_kept votes votes (bars_of held) bars' sent (message ∷ sent) Grows_promise n m (agreed.messages m member));
          safe = λ j c w vote. IsSafeAt_kept votes votes (bars_of held) bars' sent (message ∷ sent) Grows_promise n c w (agreed.safe j c w vote);
        }

  -- A replica votes at a ballot that its promise does not pass, where the ballot's owner voted this value before,
  -- or is this replica and nobody voted at the ballot.
  module _ (n : ℕ) (held : ℕ → AcceptorState V) (votes : List (Vote V)) (sent : List (Message V)) (i b : ℕ) (v : V) (message : Message V) (free : Reaches (bars_of held i) (suc b) → ⊥) where
    abbrev voted : List (Vote V)
    voted = record { replica = i; ballot = b; value = v } ∷ votes

    abbrev pub MayVote : Type 0
    MayVote = OwnersVoted n votes b v ⊎ ((b % n ≡ i) × ((j : ℕ) → HasNoVote votes j b))

    pub Grows_vote : Grows votes (record { replica = i; ballot = b; value = v } ∷ votes) (bars_of held) (bars_of (with_entry i (with_vote b v (held i)) held)) sent (message ∷ sent)
    Grows_vote =
        record {
          votes_kept = λ j c w vote. Contains_later (record { replica = i; ballot = b; value = v }) (record { replica = j; ballot = c; value = w }) votes vote;
          votes_new = HasVote_elim (λ j c w. HasVote votes j c w ⊎ (Reaches (bars_of held j) (suc c) → ⊥)) i b v votes (inr free) (λ j c w vote. inl vote);
          bars_grow = bars_grow held i b (with_vote b v (held i)) refl free;
          sent_kept = λ m member. Contains_later message m sent member;
        }

    here : HasVote voted i b v
    here = Contains_here (record { replica = i; ballot = b; value = v }) votes

    -- the votes that stand at the ballot are of the value
    agrees : IsAgreed n held votes sent → MayVote → (j : ℕ) (w : V) → HasVote votes j b w → v ≡ w
    agrees agreed may j w vote =
        elim may [
          | inl owner ↦ OneValuePerBallot n votes agreed.one_vote agreed.owners (b % n) j b v w owner vote
          | inr first ↦ absurd (first.1 j w vote)
        ]

    owner_voted : MayVote → OwnersVoted n voted b v
    owner_voted may =
        elim may [
          | inl owner ↦ Grows_vote.votes_kept (b % n) b v owner
          | inr first ↦ subst (λ k. HasVote voted k b v) (sym first.0) here
        ]

    -- the votes of another replica are the old ones
    old_vote : (j c : ℕ) (w : V) → HasVote voted j c w → (j ≡ i → ⊥) → HasVote votes j c w
    old_vote = HasVote_elim (λ j c w. (j ≡ i → ⊥) → HasVote votes j c w) i b v votes (λ other. absurd (other refl)) (λ j c w vote other. vote)

    last_kept : (j : ℕ) (last : Option (ℕ × V)) → (j ≡ i → ⊥) → IsLastVote votes j last → IsLastVote voted j last
    last_kept j None other holds = λ c w vote. holds c w (old_vote j c w vote other)
    last_kept j (Some last) other holds = (Grows_vote.votes_kept j last.0 last.1 holds.0, λ c w vote. holds.1 c w (old_vote j c w vote other))

    items_kept : (j : ℕ) (a : AcceptorState V) → (j ≡ i → ⊥) → AcceptorIsItems n votes j a → AcceptorIsItems n voted j a
    items_kept j a other holds =
        record {
          within = λ c w vote. holds.within c w (old_vote j c w vote other);
          barred = λ c w vote. holds.barred c w (old_vote j c w vote other);
          last = last_kept j a.accepted other holds.last;
        }

    -- each vote of the replica is of no greater ballot than this one
    no_later : IsAgreed n held votes sent → (j c : ℕ) (w : V) → HasVote voted j c w → j ≡ i → c ≤ b
    no_later agreed =
        HasVote_elim (λ j c w. j ≡ i → c ≤ b) i b v votes (λ same. omega arith)
        (λ j c w vote same. Reaches_bound (bars_of held i) b c free ((agreed.acceptors i).barred c w (subst (λ k. HasVote votes k c w) same vote)))

    items_here : i < n → IsAgreed n held votes sent → AcceptorIsItems n voted i (with_vote b v (held i))
    items_here within agreed =
        record {
          within = λ c w vote. within;
          barred = λ c w vote. no_later agreed i c w vote refl;
          last = (here, λ c w vote. no_later agreed i c w vote refl);
        }

    one_vote : IsAgreed n held votes sent → MayVote → OneVotePerBallot voted
    one_vote agreed may j c w x p q = first j c w p x q
      where
        first : (j c : ℕ) (w : V) → HasVote voted j c w → (x : V) → HasVote voted j c x → w ≡ x
        first = HasVote_elim (λ j c w. (x : V) → HasVote voted j c x → w ≡ x) i b v votes
            (λ x vote. HasVote_elim (λ j c x. c ≡ b → v ≡ x) i b v votes (λ same. refl) (λ j c x old same. agrees agreed may j x (subst (λ d. HasVote votes j d x) same old)) i b x vote refl)
            (λ j c w old x vote. HasVote_elim (λ k d x. k ≡ j → d ≡ c → w ≡ x) i b v votes
            (λ same at. sym (agrees agreed may j w (subst (λ d. HasVote votes j d w) (sym at) old)))
            (λ k d x other same at. agreed.one_vote j c w x old (subst (λ d. HasVote votes j d x) at (subst (λ k. HasVote votes k d x) same other)))
            j c x vote refl refl)

    pub IsAgreed_vote : i < n → IsAgreed n held votes sent → MayVote → IsSafeAt n votes (bars_of held) b v →
        IsTrueMessage n (record { replica = i; ballot = b; value = v } ∷ votes) (bars_of (with_entry i (with_vote b v (held i)) held)) message →
        IsAgreed n (with_entry i (with_vote b v (held i)) held) (record { replica = i; ballot = b; value = v } ∷ votes) (message ∷ sent)
    IsAgreed_vote within agreed may safe holds =
        let bars' = bars_of (with_entry i (with_vote b v (held i)) held) in
        record {
          one_vote = one_vote agreed may;
          owners = HasVote_elim (λ j c w. OwnersVoted n voted c w) i b v votes (owner_voted may) (λ j c w vote. Grows_vote.votes_kept (c % n) c w (agreed.owners j c w vote));
          acceptors = with_entry_cases (λ (j : ℕ) (a : AcceptorState V). AcceptorIsItems n voted j a) i (with_vote b v (held i)) held
              (items_here within agreed)
              (λ j other. items_kept j (held j) other (agreed.acceptors j));
          messages = Contains_elim (IsTrueMessage n voted bars') message sent holds (λ m member. IsTrueMessage_kept votes voted (bars_of held) bars' sent (message ∷ sent) Grows_vote n m (agreed.messages m member));
          safe = HasVote_elim (λ j c w. IsSafeAt n voted bars' c w) i b v votes
              (IsSafeAt_kept votes voted (bars_of held) bars' sent (message ∷ sent) Grows_vote n b v safe)
              (λ j c w vote. IsSafeAt_kept votes voted (bars_of held) bars' sent (message ∷ sent) Grows_vote n c w (agreed.safe j c w vote));
        }
