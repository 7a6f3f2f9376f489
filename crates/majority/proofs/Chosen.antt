-- What follows from votes of which each is safe: two chosen values are equal, and journals of a majority tell the chosen one.
use Rattle.std.proofs.Common.{◌≡◌, ℕ, ◌%◌, ◌≤◌, List, Option, inl, inr, sym, subst, arith}
use Rattle.std.proofs.lemmas.Bool.{cases_lt}
use Rattle.std.proofs.lemmas.List.Elements.{All-contains}
use Rattle.majority.specs.Votes.{Vote, HasVote, IsChosenAt, IsChosenByVotes}
use Rattle.majority.proofs.Majorities.{MajoritiesMeet}
use Rattle.majority.specs.Agreement.{OneVotePerBallot, VotesHaveOwners, SafeAtBallot}

module _ {V : Type 0} where
  -- all votes at one ballot are of one value
  pub OneValuePerBallot : (n : ℕ) (votes : List (Vote V)) → OneVotePerBallot votes → VotesHaveOwners n votes →
      (i j ballot : ℕ) (v w : V) → HasVote votes i ballot v → HasVote votes j ballot w → v ≡ w
  OneValuePerBallot n votes one owners i j ballot v w p q =
      one (ballot % n) ballot v w (owners i ballot v p) (owners j ballot w q)

  -- a chosen value was voted by some replica
  voter : (n : ℕ) (votes : List (Vote V)) (ballot : ℕ) (v : V) → IsChosenAt n votes ballot v → (i : ℕ) × HasVote votes i ballot v
  voter n votes ballot v chosen =
      let member = MajoritiesMeet n chosen.0 chosen.0 chosen.1 chosen.1 in
      (member.0, All-contains (λ replica. HasVote votes replica ballot v) chosen.0 member.0 chosen.2 member.1)

  -- a value once chosen is what each later ballot carries
  pub ChosenIsCarried : (n : ℕ) (votes : List (Vote V)) (bars : ℕ → Option ℕ) →
      OneVotePerBallot votes → VotesHaveOwners n votes → SafeAtBallot n votes bars →
      (ballot later i : ℕ) (v w : V) → IsChosenAt n votes ballot v → HasVote votes i later w → ballot ≤ later → w ≡ v
  ChosenIsCarried n votes bars one owners safe ballot later i v w chosen vote order =
      elim (cases_lt ballot later) [
        | inl below ↦
            let quorum = safe i later w vote ballot below in
            let common = MajoritiesMeet n quorum.0 chosen.0 quorum.1 chosen.1 in
            let voted : HasVote votes common.0 ballot v = All-contains (λ replica. HasVote votes replica ballot v) chosen.0 common.0 chosen.2 common.2 in
            elim (quorum.2 common.0 common.1) [
              | inl same ↦ one common.0 ballot w v same voted
              | inr other ↦ absurd (other.0 v voted)
            ]
        | inr above ↦
            let same : later ≡ ballot = omega arith in
            let one_voter = voter n votes ballot v chosen in
            let at_ballot : HasVote votes i ballot w = subst (λ b. HasVote votes i b w) same vote in
            OneValuePerBallot n votes one owners i one_voter.0 ballot w v at_ballot one_voter.1
      ]

  -- two chosen values are equal
  pub OneChosen : (n : ℕ) (votes : List (Vote V)) (bars : ℕ → Option ℕ) →
      OneVotePerBallot votes → VotesHaveOwners n votes → SafeAtBallot n votes bars →
      (v w : V) → IsChosenByVotes n votes v → IsChosenByVotes n votes w → v ≡ w
  OneChosen n votes bars one owners safe v w p q =
      elim (cases_lt p.0 q.0) [
        | inl below ↦
            let other = voter n votes q.0 w q.1 in
            sym (ChosenIsCarried n votes bars one owners safe p.0 q.0 other.0 v w p.1 other.1 (omega arith))
        | inr above ↦
            let other = voter n votes p.0 v p.1 in
            ChosenIsCarried n votes bars one owners safe q.0 p.0 other.0 w v q.1 other.1 above
      ]
