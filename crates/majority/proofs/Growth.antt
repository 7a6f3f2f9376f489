-- What stays true of a slot as votes, promises and messages are added.
use Rattle.std.proofs.Common.{◌≡◌, ℕ, suc, ◌%◌, ◌<◌, ◌≤◌, List, Option, Some, None, Contains, ◌⊎◌, inl, inr, arith}
use Rattle.majority.specs.Votes.{Vote, HasVote}
use Rattle.majority.specs.Proposers.{Attempt}
use Rattle.majority.specs.Slot.{Message, Prepare, Promise, Accept, Accepted}
use Rattle.majority.specs.Agreement.{Reaches, HasNoVote, IsSafeAt, Tells, PromisesTell, IsTrueMessage, HasPromises, ReportedBy, AttemptsHavePromises, AttemptsAreVoted, AttemptStands, IsAttemptIfAny}

pub Reaches_lower : (promise : Option ℕ) (ballot lower : ℕ) → Reaches promise ballot → lower ≤ ballot → Reaches promise lower
Reaches_lower None ballot lower h below = h
Reaches_lower (Some promise) ballot lower h below = omega arith

module _ {V : Type 0} where
  -- votes, promises and messages are kept, and each new vote is at a ballot that its replica's promise did not pass
  pub record Grows (votes votes' : List (Vote V)) (bars bars' : ℕ → Option ℕ) (sent sent' : List (Message V)) : Type 0 where
    pub votes_kept : (replica ballot : ℕ) (value : V) → HasVote votes replica ballot value → HasVote votes' replica ballot value
    pub votes_new : (replica ballot : ℕ) (value : V) → HasVote votes' replica ballot value
        → HasVote votes replica ballot value ⊎ (Reaches (bars replica) (suc ballot) → ⊥)
    pub bars_grow : (replica ballot : ℕ) → Reaches (bars replica) ballot → Reaches (bars' replica) ballot
    pub sent_kept : (message : Message V) → Contains sent message → Contains sent' message

  -- promises that stand on
  module _ (P Q : ℕ → Option (ℕ × V) → Type 0) (on : (from : ℕ) (report : Option (ℕ × V)) → P from report → Q from report) where
    ReportedBy_kept : (promises : List ℕ) (report : Option (ℕ × V)) → ReportedBy P promises report → ReportedBy Q promises report
    ReportedBy_kept promises None was = tt
    ReportedBy_kept promises (Some report) was = (was.0, was.1, on was.0 (Some report) was.2)

  pub HasPromises_kept : (own : ℕ) (P Q : ℕ → Option (ℕ × V) → Type 0) → ((from : ℕ) (report : Option (ℕ × V)) → P from report → Q from report)
      → (a : Attempt V) → HasPromises own P a → HasPromises own Q a
  HasPromises_kept own P Q on a have =
      record {
        heard = λ replica member. elim (have.heard replica member) [
          | inl alone ↦ inl alone
          | inr other ↦ inr (other.0, on replica other.0 other.1, other.2)
        ];
        reported = ReportedBy_kept P Q on a.promises a.reported have.reported;
      }

  module _ (votes votes' : List (Vote V)) (bars bars' : ℕ → Option ℕ) (sent sent' : List (Message V)) (grows : Grows votes votes' bars bars' sent sent') where
    pub HasNoVote_kept : (replica ballot : ℕ) → Reaches (bars replica) (suc ballot) → HasNoVote votes replica ballot → HasNoVote votes' replica ballot
    HasNoVote_kept replica ballot barred none value vote =
        elim (grows.votes_new replica ballot value vote) [
          | inl old ↦ none value old
          | inr new ↦ new barred
        ]

    pub IsSafeAt_kept : (n ballot : ℕ) (value : V) → IsSafeAt n votes bars ballot value → IsSafeAt n votes' bars' ballot value
    IsSafeAt_kept n ballot value safe lower below =
        let quorum = safe lower below in (
          quorum.0,
          quorum.1,
          λ replica member. elim (quorum.2 replica member) [
            | inl vote ↦ inl (grows.votes_kept replica lower value vote)
            | inr none ↦ inr (HasNoVote_kept replica lower none.1 none.0, grows.bars_grow replica (suc lower) none.1)
          ],
        )

    Tells_kept : (from ballot : ℕ) (report : Option (ℕ × V)) → Reaches (bars from) ballot → Tells votes from ballot report → Tells votes' from ballot report
    Tells_kept from ballot None barred tells =
        λ other below. HasNoVote_kept from other (Reaches_lower (bars from) ballot (suc other) barred (omega arith)) (tells other below)
    Tells_kept from ballot (Some report) barred tells =
        (tells.0, grows.votes_kept from report.0 report.1 tells.1, λ other above below. HasNoVote_kept from other (Reaches_lower (bars from) ballot (suc other) barred (omega arith)) (tells.2 other above below))

    pub PromisesTell_kept : (n from ballot : ℕ) (report : Option (ℕ × V)) → PromisesTell n votes bars from ballot report
        → PromisesTell n votes' bars' from ballot report
    PromisesTell_kept n from ballot report promise =
        record {
          within = promise.within;
          barred = grows.bars_grow from ballot promise.barred;
          tells = Tells_kept from ballot report promise.barred promise.tells;
        }

    pub IsTrueMessage_kept : (n : ℕ) (message : Message V) → IsTrueMessage n votes bars message → IsTrueMessage n votes' bars' message
    IsTrueMessage_kept n (Prepare ballot) holds = tt
    IsTrueMessage_kept n (Promise from ballot report) holds = PromisesTell_kept n from ballot report holds
    IsTrueMessage_kept n (Accept ballot value) holds = grows.votes_kept (ballot % n) ballot value holds
    IsTrueMessage_kept n (Accepted from ballot) holds = (holds.0, grows.votes_kept from ballot holds.0 holds.1)

    pub AttemptsHavePromises_kept : (a : Attempt V) → AttemptsHavePromises sent a → AttemptsHavePromises sent' a
    AttemptsHavePromises_kept a have =
        HasPromises_kept a.replica (λ from report. Contains sent (Promise from a.ballot report)) (λ from report. Contains sent' (Promise from a.ballot report))
        (λ from report there. grows.sent_kept (Promise from a.ballot report) there) a have

    pub AttemptsAreVoted_kept : (n : ℕ) (a : Attempt V) (value : V) → AttemptsAreVoted votes n a value → AttemptsAreVoted votes' n a value
    AttemptsAreVoted_kept n a value voted =
        record {
          own = grows.votes_kept a.replica a.ballot value voted.own;
          within = voted.within;
          distinct = voted.distinct;
          voted = λ replica member. grows.votes_kept replica a.ballot value (voted.voted replica member);
        }

    AttemptStands_kept : (n : ℕ) (a : Attempt V) (sending : Option V) →
        (0 < a.ballot → ((other : ℕ) → HasNoVote votes other a.ballot) → (other : ℕ) → HasNoVote votes' other a.ballot) →
        AttemptStands votes sent n a sending → AttemptStands votes' sent' n a sending
    AttemptStands_kept n a None still stands =
        (record { above = stands.0.above; unvoted = still stands.0.above stands.0.unvoted }, AttemptsHavePromises_kept a stands.1)
    AttemptStands_kept n a (Some value) still stands = AttemptsAreVoted_kept n a value stands

    -- an attempt stands on, unless a new vote is the first at the ballot of its replica's own
    pub IsAttemptIfAny_kept : (n replica : ℕ) (attempt : Option (Attempt V)) →
        ((ballot : ℕ) → 0 < ballot → ballot % n ≡ replica → ((other : ℕ) → HasNoVote votes other ballot) → (other : ℕ) → HasNoVote votes' other ballot) →
        IsAttemptIfAny n votes (bars replica) sent replica attempt → IsAttemptIfAny n votes' (bars' replica) sent' replica attempt
    IsAttemptIfAny_kept n replica None still holds = tt
    IsAttemptIfAny_kept n replica (Some a) still holds =
        record {
          here = holds.here;
          count = holds.count;
          owned = holds.owned;
          barred = grows.bars_grow replica a.ballot holds.barred;
          within = holds.within;
          distinct = holds.distinct;
          stands = AttemptStands_kept n a a.sending (λ above. still a.ballot above holds.owned) holds.stands;
        }
