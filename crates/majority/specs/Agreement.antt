-- The invariant of one slot, clause by clause. Each clause speaks of votes, promises, messages and attempts as data, so
-- that the proof of a larger protocol can hold it of many slots at once. Replicas are numbered below n, and the owner of
-- a ballot is its remainder by n. `bars` gives each replica's promise.
use Rattle.std.specs.Prelude.{◌≡◌, ℕ, suc, ◌%◌, ◌<◌, ◌≤◌, List, nat_eq, Option, Some, None, All, Contains, ◌⊎◌}
use Rattle.std.specs.Bool.{⊤}
use Rattle.std.specs.List.{IsDistinct}
use Rattle.majority.specs.Ballots.{IsMajority}
use Rattle.majority.specs.Acceptors.{AcceptorState}
use Rattle.majority.specs.Proposers.{Attempt}
use Rattle.majority.specs.Votes.{Vote, HasVote}
use Rattle.majority.specs.Slot.{Message, Prepare, Promise, Accept, Accepted, SlotState}

-- the promise is at least the ballot
abbrev pub Reaches : Option ℕ → ℕ → Type 0
Reaches None ballot = ⊥
Reaches (Some promise) ballot = ballot ≤ promise

-- each replica's promise
abbrev pub bars_of : {V : Type 0} → (ℕ → AcceptorState V) → ℕ → Option ℕ
bars_of acceptors replica = (acceptors replica).promised

-- ---- of votes, told by what was voted: at a ballot, by a replica at each ballot, or by each replica

module _ {V : Type 0} where
  -- there is no vote
  abbrev pub IsUnvoted : (V → Type 0) → Type 0
  IsUnvoted Voted = (value : V) → Voted value → ⊥

  -- the vote of the greatest ballot; none where no vote was cast
  abbrev pub LastOf : (ℕ → V → Type 0) → Option (ℕ × V) → Type 0
  LastOf Voted None = (ballot : ℕ) (value : V) → Voted ballot value → ⊥
  LastOf Voted (Some last) = Voted last.0 last.1 × ((ballot : ℕ) (value : V) → Voted ballot value → ballot ≤ last.0)

  -- what a report at the ballot tells: the vote of the greatest ballot up to this one, if any was cast below it
  abbrev pub ToldOf : (ℕ → V → Type 0) → ℕ → Option (ℕ × V) → Type 0
  ToldOf Voted ballot None = (other : ℕ) → other < ballot → IsUnvoted (Voted other)
  ToldOf Voted ballot (Some report) =
      (report.0 ≤ ballot) × Voted report.0 report.1 × ((other : ℕ) → report.0 < other → other < ballot → IsUnvoted (Voted other))

  -- the replica voted the value at the ballot, or did not vote there and has promised a greater one
  abbrev pub Supports : (ℕ → ℕ → V → Type 0) → (ℕ → Option ℕ) → ℕ → V → ℕ → Type 0
  Supports Voted bars ballot value replica = Voted replica ballot value ⊎ (IsUnvoted (Voted replica ballot) × Reaches (bars replica) (suc ballot))

  -- no value but this one is chosen below the ballot, nor can be: at each lower ballot a majority supports it
  abbrev pub SafeBy : ℕ → (ℕ → ℕ → V → Type 0) → (ℕ → Option ℕ) → ℕ → V → Type 0
  SafeBy n Voted bars ballot value =
      (lower : ℕ) → lower < ballot
      → (quorum : List ℕ) × IsMajority n quorum × ((replica : ℕ) → Contains quorum replica → Supports Voted bars lower value replica)

  -- ---- of promises, told by who promised and what was reported

  -- the greatest report is of no lower ballot than this one
  abbrev pub Covers : Option (ℕ × V) → Option (ℕ × V) → Type 0
  Covers greatest None = ⊤
  Covers None (Some report) = ⊥
  Covers (Some greatest) (Some report) = report.0 ≤ greatest.0

  -- the report is that of one who counts as having promised
  abbrev pub ReportedBy : (ℕ → Option (ℕ × V) → Type 0) → List ℕ → Option (ℕ × V) → Type 0
  ReportedBy Promised promises None = ⊤
  ReportedBy Promised promises (Some report) = (from : ℕ) × Contains promises from × Promised from (Some report)

  -- who counts as having promised has promised, but for the attempt's own replica, and of their reports the greatest is kept
  pub record HasPromises (own : ℕ) (Promised : ℕ → Option (ℕ × V) → Type 0) (a : Attempt V) : Type 0 where
    pub heard : (replica : ℕ) → Contains a.promises replica
        → (replica ≡ own) ⊎ ((report : Option (ℕ × V)) × Promised replica report × Covers a.reported report)
    pub reported : ReportedBy Promised a.promises a.reported

-- ---- the invariant

module _ {V : Type 0} where
  -- the replica cast no vote at the ballot
  abbrev pub HasNoVote : List (Vote V) → ℕ → ℕ → Type 0
  HasNoVote votes replica ballot = IsUnvoted (HasVote votes replica ballot)

  -- two votes of one replica at one ballot have one value
  abbrev pub OneVotePerBallot : List (Vote V) → Type 0
  OneVotePerBallot votes =
      (replica ballot : ℕ) (v w : V) → HasVote votes replica ballot v → HasVote votes replica ballot w → v ≡ w

  -- the ballot's owner voted the value at it
  abbrev pub OwnersVoted : ℕ → List (Vote V) → ℕ → V → Type 0
  OwnersVoted n votes ballot value = HasVote votes (ballot % n) ballot value

  -- each vote is of the value that the ballot's owner voted
  abbrev pub VotesHaveOwners : ℕ → List (Vote V) → Type 0
  VotesHaveOwners n votes = (replica ballot : ℕ) (value : V) → HasVote votes replica ballot value → OwnersVoted n votes ballot value

  -- the replica voted at the ballot
  abbrev pub AcceptedsAreVotes : List (Vote V) → ℕ → ℕ → Type 0
  AcceptedsAreVotes votes from ballot = (value : V) × HasVote votes from ballot value

  -- the acceptance is the replica's vote of the greatest ballot; there is none where it cast no vote
  abbrev pub IsLastVote : List (Vote V) → ℕ → Option (ℕ × V) → Type 0
  IsLastVote votes replica = LastOf (HasVote votes replica)

  -- the acceptance, where there is one, is a vote that was cast
  abbrev pub IsOfVote : List (Vote V) → Option (ℕ × V) → Type 0
  IsOfVote votes None = ⊤
  IsOfVote votes (Some report) = (replica : ℕ) × HasVote votes replica report.0 report.1

  -- an acceptor has its replica's last vote, and its promise is at least each of its votes
  pub record AcceptorIsItems (n : ℕ) (votes : List (Vote V)) (replica : ℕ) (own : AcceptorState V) : Type 0 where
    pub within : (ballot : ℕ) (value : V) → HasVote votes replica ballot value → replica < n
    pub barred : (ballot : ℕ) (value : V) → HasVote votes replica ballot value → Reaches own.promised ballot
    pub last : IsLastVote votes replica own.accepted

  -- what a report at the ballot tells of the replica: its vote of the greatest ballot up to this one, if it cast any below it
  abbrev pub Tells : List (Vote V) → ℕ → ℕ → Option (ℕ × V) → Type 0
  Tells votes replica = ToldOf (HasVote votes replica)

  -- a promise binds its sender, and reports truly
  pub record PromisesTell (n : ℕ) (votes : List (Vote V)) (bars : ℕ → Option ℕ) (from ballot : ℕ) (report : Option (ℕ × V)) : Type 0 where
    pub within : from < n
    pub barred : Reaches (bars from) ballot
    pub tells : Tells votes from ballot report

  -- what a message tells is so. A prepare tells nothing
  abbrev pub IsTrueMessage : ℕ → List (Vote V) → (ℕ → Option ℕ) → Message V → Type 0
  IsTrueMessage n votes bars (Prepare ballot) = ⊤
  IsTrueMessage n votes bars (Promise from ballot report) = PromisesTell n votes bars from ballot report
  IsTrueMessage n votes bars (Accept ballot value) = OwnersVoted n votes ballot value
  IsTrueMessage n votes bars (Accepted from ballot) = AcceptedsAreVotes votes from ballot

  -- no value but this one is chosen below the ballot, nor can be
  abbrev pub IsSafeAt : ℕ → List (Vote V) → (ℕ → Option ℕ) → ℕ → V → Type 0
  IsSafeAt n votes = SafeBy n (HasVote votes)

  -- each vote is safe
  abbrev pub SafeAtBallot : ℕ → List (Vote V) → (ℕ → Option ℕ) → Type 0
  SafeAtBallot n votes bars =
      (replica ballot : ℕ) (value : V) → HasVote votes replica ballot value → IsSafeAt n votes bars ballot value

  -- while nothing is being sent: nobody has voted at the ballot
  pub record AttemptsAreUnvoted (votes : List (Vote V)) (ballot : ℕ) : Type 0 where
    pub above : 0 < ballot
    pub unvoted : (replica : ℕ) → HasNoVote votes replica ballot

  -- while nothing is being sent: who counts as having promised has promised, and the greatest report is kept
  abbrev pub AttemptsHavePromises : List (Message V) → Attempt V → Type 0
  AttemptsHavePromises sent a = HasPromises a.replica (λ from report. Contains sent (Promise from a.ballot report)) a

  -- while a value is being sent: who counts as having accepted has voted it
  pub record AttemptsAreVoted (votes : List (Vote V)) (n : ℕ) (a : Attempt V) (value : V) : Type 0 where
    pub own : HasVote votes a.replica a.ballot value
    pub within : All (λ replica. replica < n) a.acceptances
    pub distinct : IsDistinct nat_eq a.acceptances
    pub voted : (replica : ℕ) → Contains a.acceptances replica → HasVote votes replica a.ballot value

  abbrev pub AttemptStands : List (Vote V) → List (Message V) → ℕ → Attempt V → Option V → Type 0
  AttemptStands votes sent n a None = AttemptsAreUnvoted votes a.ballot × AttemptsHavePromises sent a
  AttemptStands votes sent n a (Some value) = AttemptsAreVoted votes n a value

  -- what holds of an attempt of the replica. `owned` says that ballots have owners, `barred` that attempts are promised
  pub record IsAttempt (n : ℕ) (votes : List (Vote V)) (bar : Option ℕ) (sent : List (Message V)) (replica : ℕ) (a : Attempt V) : Type 0 where
    pub here : a.replica ≡ replica
    pub count : a.n ≡ n
    pub owned : a.ballot % n ≡ replica
    pub barred : Reaches bar a.ballot
    pub within : All (λ other. other < n) a.promises
    pub distinct : IsDistinct nat_eq a.promises
    pub stands : AttemptStands votes sent n a a.sending

  abbrev pub IsAttemptIfAny : ℕ → List (Vote V) → Option ℕ → List (Message V) → ℕ → Option (Attempt V) → Type 0
  IsAttemptIfAny n votes bar sent replica None = ⊤
  IsAttemptIfAny n votes bar sent replica (Some a) = IsAttempt n votes bar sent replica a

  -- the invariant of acceptors, votes and messages
  pub record IsAgreed (n : ℕ) (held : ℕ → AcceptorState V) (votes : List (Vote V)) (sent : List (Message V)) : Type 0 where
    pub one_vote : OneVotePerBallot votes
    pub owners : VotesHaveOwners n votes
    pub acceptors : (replica : ℕ) → AcceptorIsItems n votes replica (held replica)
    pub messages : (message : Message V) → Contains sent message → IsTrueMessage n votes (bars_of held) message
    pub safe : SafeAtBallot n votes (bars_of held)

  -- the whole invariant of one slot
  pub record IsSound (n : ℕ) (slot : SlotState V) : Type 0 where
    pub agreed : IsAgreed n slot.acceptors slot.votes slot.sent
    pub attempts : (replica : ℕ) → IsAttemptIfAny n slot.votes (bars_of slot.acceptors replica) slot.sent replica (slot.attempts replica)
