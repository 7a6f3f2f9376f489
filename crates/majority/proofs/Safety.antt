-- Why a value that is sent is safe: no other is chosen below its ballot, nor can be. Each of a majority has promised the ballot, and told its last vote
-- below it; the value is that of the greatest of these votes, or where there is none the wish. Below that vote's ballot the vote's own majority
-- supports it; from there on nobody of the promised majority voted for anything else, nor will, below the ballot.
use Rattle.std.proofs.Common.{◌≡◌, ℕ, suc, ◌<◌, ◌≤◌, List, Option, Some, None, Contains, ◌⊎◌, inl, inr, sym, subst, ◌∙◌, true, arith}
use Rattle.std.proofs.lemmas.Bool.{cases_lt, cases_eq}
use Rattle.majority.specs.Ballots.{IsMajority, is_majority}
use Rattle.majority.specs.Proposers.{Attempt, greater_report, value_of_report, value_to_send}
use Rattle.majority.specs.Slot.{Promise, SlotState}
use Rattle.majority.specs.Votes.{Vote, HasVote}
use Rattle.majority.specs.Agreement.{Reaches, HasNoVote, OneVotePerBallot, VotesHaveOwners, SafeAtBallot, IsSafeAt, Tells, PromisesTell, IsOfVote, Covers, AttemptsHavePromises, IsAttempt, IsSound, bars_of}
use Rattle.majority.proofs.Chosen.{OneValuePerBallot}
use Rattle.majority.proofs.Growth.{Reaches_lower}
use Rattle.majority.proofs.Heard.{Covers_first, Covers_second, Covers_refl, IsOfVote_greater, IsOfVote_own, IsOfVote_reported, Tells_own}
use Rattle.majority.proofs.Majorities.{most_from_test}

module _ {V : Type 0} where
  -- the replica has promised the ballot, and told a report of no greater ballot than the greatest
  pub record HasTold (votes : List (Vote V)) (bars : ℕ → Option ℕ) (ballot : ℕ) (greatest : Option (ℕ × V)) (replica : ℕ) : Type 0 where
    pub report : Option (ℕ × V)
    pub tells : Tells votes replica ballot report
    pub barred : Reaches (bars replica) ballot
    pub covered : Covers greatest report

  -- where nothing greater is reported than nothing, no vote stands below the ballot
  nothing_told : (votes : List (Vote V)) (replica ballot lower : ℕ) (report : Option (ℕ × V)) → Tells votes replica ballot report → Covers None report
      → lower < ballot → HasNoVote votes replica lower
  nothing_told votes replica ballot lower None tells covered below = tells lower below
  nothing_told votes replica ballot lower (Some report) tells covered below = absurd covered

  module _ (n : ℕ) (votes : List (Vote V)) (bars : ℕ → Option ℕ) (one : OneVotePerBallot votes) (owners : VotesHaveOwners n votes) where
    -- at or above the greatest report a replica voted its value, or did not vote
    told_above : (ballot lower replica voter : ℕ) (greatest : ℕ × V) (report : Option (ℕ × V)) →
        HasVote votes voter greatest.0 greatest.1 → Tells votes replica ballot report → Covers (Some greatest) report →
        greatest.0 ≤ lower → lower < ballot → HasVote votes replica lower greatest.1 ⊎ HasNoVote votes replica lower
    told_above ballot lower replica voter greatest None vote tells covered above below = inr (tells lower below)
    told_above ballot lower replica voter greatest (Some report) vote tells covered above below =
        elim (cases_eq report.0 lower) [
          | inl same ↦
              let no_less : report.0 ≤ greatest.0 = covered in
              let at_greatest : report.0 ≡ greatest.0 = omega arith in
              let given : HasVote votes replica greatest.0 report.1 = subst (λ b. HasVote votes replica b report.1) at_greatest tells.1 in
              let value : report.1 ≡ greatest.1 = OneValuePerBallot n votes one owners replica voter greatest.0 report.1 greatest.1 given vote in
              let here : HasVote votes replica lower report.1 = subst (λ b. HasVote votes replica b report.1) same tells.1 in
              inl (subst (λ v. HasVote votes replica lower v) value here)
          | inr other ↦
              let no_less : report.0 ≤ greatest.0 = covered in
              inr (tells.2 lower (omega arith) below)
        ]

    pub IsSafeAt_from_reports : SafeAtBallot n votes bars → (ballot : ℕ) (quorum : List ℕ) (greatest : Option (ℕ × V)) (wish : V) →
        IsMajority n quorum → IsOfVote votes greatest → ((replica : ℕ) → Contains quorum replica → HasTold votes bars ballot greatest replica) →
        IsSafeAt n votes bars ballot (value_of_report greatest wish)
    IsSafeAt_from_reports safe ballot quorum None wish majority vote told =
        λ lower below. (
          quorum,
          majority,
          λ replica member.
              let tale = told replica member in
              inr (nothing_told votes replica ballot lower tale.report tale.tells tale.covered below, Reaches_lower (bars replica) ballot (suc lower) tale.barred (omega arith)),
        )
    IsSafeAt_from_reports safe ballot quorum (Some greatest) wish majority vote told =
        λ lower below. elim (cases_lt lower greatest.0) [
          | inl earlier ↦ safe vote.0 greatest.0 greatest.1 vote.1 lower earlier
          | inr above ↦ (
            quorum,
            majority,
            λ replica member.
                let tale = told replica member in
                elim (told_above ballot lower replica vote.0 greatest tale.report vote.1 tale.tells tale.covered above below) [
                  | inl voted ↦ inl voted
                  | inr none ↦ inr (none, Reaches_lower (bars replica) ballot (suc lower) tale.barred (omega arith))
                ],
          )
        ]

  -- ---- an attempt that has heard a majority

  module _ (n i : ℕ) (slot : SlotState V) (sound : IsSound n slot) (a : Attempt V) (attempt : IsAttempt n slot.votes (bars_of slot.acceptors i) slot.sent i a)
      (have : AttemptsHavePromises slot.sent a) (unpassed : Reaches (bars_of slot.acceptors i) (suc a.ballot) → ⊥) where
    -- the greatest report, the own acceptor's included
    abbrev greatest : Option (ℕ × V)
    greatest = greater_report (slot.acceptors i).accepted a.reported

    -- the replica itself tells by its acceptor, which has promised no greater ballot; another told by its Promise
    has_told : (j : ℕ) → Contains a.promises j → HasTold slot.votes (bars_of slot.acceptors) a.ballot greatest j
    has_told j among =
        elim (have.heard j among) [
          | inl own ↦ subst (λ k. HasTold slot.votes (bars_of slot.acceptors) a.ballot greatest k) (sym (own ∙ attempt.here)) (record {
            report = (slot.acceptors i).accepted;
            tells = Tells_own n slot.votes i a.ballot (slot.acceptors i) (sound.agreed.acceptors i) unpassed;
            barred = attempt.barred;
            covered = Covers_first (slot.acceptors i).accepted a.reported (slot.acceptors i).accepted (Covers_refl (slot.acceptors i).accepted);
          })
          | inr other ↦
              let tale : PromisesTell n slot.votes (bars_of slot.acceptors) j a.ballot other.0 = sound.agreed.messages (Promise j a.ballot other.0) other.1 in
              record {
                report = other.0;
                tells = tale.tells;
                barred = tale.barred;
                covered = Covers_second (slot.acceptors i).accepted a.reported other.0 other.2;
              }
        ]

    -- the greatest report is a vote that was cast
    is_of_vote : IsOfVote slot.votes greatest
    is_of_vote =
        IsOfVote_greater slot.votes (slot.acceptors i).accepted a.reported (IsOfVote_own n slot.votes i (slot.acceptors i) (sound.agreed.acceptors i))
        (IsOfVote_reported n slot.votes (bars_of slot.acceptors) slot.sent a.ballot a.promises a.reported
        (λ k told there. sound.agreed.messages (Promise k a.ballot told) there) have.reported)

    -- so the value to send is safe
    pub sent_is_safe : is_majority a.n a.promises ≡ true → IsSafeAt n slot.votes (bars_of slot.acceptors) a.ballot (value_to_send (slot.acceptors i) a)
    sent_is_safe majority =
        let most = most_from_test n a.n a.promises attempt.count majority in
        IsSafeAt_from_reports n slot.votes (bars_of slot.acceptors) sound.agreed.one_vote sound.agreed.owners sound.agreed.safe a.ballot a.promises greatest
        a.wish (record { within = attempt.within; distinct = attempt.distinct; most = most }) is_of_vote has_told
