-- Journals of a majority tell the chosen value, and so does what is recovered from them.
use Rattle.std.proofs.Common.{◌≡◌, ℕ, ◌*◌, ◌<◌, ◌≤◌, List, [], ◌∷◌, length, map, Option, Some, None, slice_get, option_map, Contains, inl, inr, refl, sym, ap, ◌∙◌, subst, arith}
use Rattle.std.proofs.lemmas.List.Elements.{All-head, All-tail, All-contains, All-map}
use Rattle.std.proofs.lemmas.List.{length-map}
use Rattle.std.proofs.lemmas.Bool.{cases_lt}
use Rattle.majority.specs.Ballots.{IsMajority}
use Rattle.majority.specs.Acceptors.{AcceptorState}
use Rattle.majority.specs.Proposers.{greater_report}
use Rattle.majority.specs.Votes.{Vote, HasVote, IsChosenByVotes, IsChosenAt}
use Rattle.majority.specs.Journals.{vote_found, greatest_at, IsRecovered, AreOfReplicas, HoldAcceptances}
use Rattle.majority.specs.declared.journal.VoteJournal.{VoteJournal}
use Rattle.majority.specs.Slot.{Message}
use Rattle.majority.proofs.Lists.{Contains_here, Contains_later, Contains_cases, Contains_none}
use Rattle.majority.proofs.Majorities.{MajoritiesMeet}
use Rattle.majority.specs.Agreement.{IsLastVote, IsOfVote, IsAgreed, Covers, bars_of}
use Rattle.majority.proofs.Chosen.{ChosenIsCarried}
use Rattle.majority.proofs.Heard.{Covers_first, Covers_second, Covers_refl, IsOfVote_greater, IsOfVote_own}

-- a member of what a function made of a list is made of a member
Contains_map : {X Y : Type 0} (f : X → Y) (xs : List X) (y : Y) → Contains (map f xs) y → (x : X) × Contains xs x × (f x ≡ y)
Contains_map f [] y member = absurd (Contains_none y member)
Contains_map f (x ∷ xs) y member =
    elim (Contains_cases (f x) y (map f xs) member) [
      | inl same ↦ (x, Contains_here x xs, same)
      | inr later ↦ let rest = Contains_map f xs y later in (rest.0, Contains_later x rest.0 xs rest.1, rest.2)
    ]

module _ {V : Type 0} where
  -- the greatest acceptance that journals have is of no lower ballot than that of each
  Covers_each : (place : ℕ) (journals : List (VoteJournal V)) (journal : VoteJournal V) → Contains journals journal
      → Covers (greatest_at place journals) (vote_found (slice_get journal.votes place))
  Covers_each place [] journal member = absurd (Contains_none journal member)
  Covers_each place (first ∷ journals) journal member =
      let here = vote_found (slice_get first.votes place) in
      elim (Contains_cases first journal journals member) [
        | inl same ↦ subst (λ j. Covers (greater_report here (greatest_at place journals)) (vote_found (slice_get j.votes place))) same (Covers_first here (greatest_at place journals) here (Covers_refl here))
        | inr later ↦ Covers_second here (greatest_at place journals) (vote_found (slice_get journal.votes place)) (Covers_each place journals journal later)
      ]

  IsOfVote_journals : (n : ℕ) (held : ℕ → AcceptorState V) (votes : List (Vote V)) (sent : List (Message V)) (place : ℕ) (journals : List (VoteJournal V))
      → IsAgreed n held votes sent → HoldAcceptances held place journals → IsOfVote votes (greatest_at place journals)
  IsOfVote_journals n held votes sent place [] agreed hold = tt
  IsOfVote_journals n held votes sent place (first ∷ journals) agreed hold =
      let P : VoteJournal V → Type 0 = λ journal. vote_found (slice_get journal.votes place) ≡ (held journal.replica).accepted in
      let here = vote_found (slice_get first.votes place) in
      IsOfVote_greater votes here (greatest_at place journals)
      (subst (IsOfVote votes) (sym (All-head P first journals hold)) (IsOfVote_own n votes first.replica (held first.replica) (agreed.acceptors first.replica)))
      (IsOfVote_journals n held votes sent place journals agreed (All-tail P first journals hold))

  reached : (votes : List (Vote V)) (i b : ℕ) (v : V) (last greatest : Option (ℕ × V)) → HasVote votes i b v → IsLastVote votes i last → Covers greatest last
      → (g : ℕ × V) × (greatest ≡ Some g) × (b ≤ g.0)
  reached votes i b v None greatest vote holds covered = absurd (holds b v vote)
  reached votes i b v (Some last) None vote holds covered = absurd covered
  reached votes i b v (Some last) (Some g) vote holds covered =
      let bound : b ≤ last.0 = holds.1 b v vote in
      let no_less : last.0 ≤ g.0 = covered in
      (g, refl, omega arith)

  -- some journal is of a replica that voted the chosen value
  journal_of_voter : (n : ℕ) (votes : List (Vote V)) (journals : List (VoteJournal V)) (b : ℕ) (v : V) → IsChosenAt n votes b v → AreOfReplicas n journals
      → n < 2 * length journals →
      (journal : VoteJournal V) × Contains journals journal × HasVote votes journal.replica b v
  journal_of_voter n votes journals b v chosen replicas most =
      let number : VoteJournal V → ℕ = λ journal. journal.replica in
      let majority : IsMajority n (map number journals) = record {
        within = All-map (λ k. k < n) number journals replicas.within;
        distinct = replicas.distinct;
        most = omega (arith, most, length-map journals number);
      } in
      let common = MajoritiesMeet n chosen.0 (map number journals) chosen.1 majority in
      let voted : HasVote votes common.0 b v = All-contains (λ replica. HasVote votes replica b v) chosen.0 common.0 chosen.2 common.1 in
      let found = Contains_map number journals common.0 common.2 in
      (found.0, found.1, subst (λ k. HasVote votes k b v) (sym found.2) voted)

  -- the greatest acceptance of journals of which one is of a voter at the ballot
  top_at : (votes : List (Vote V)) (held : ℕ → AcceptorState V) (place : ℕ) (journals : List (VoteJournal V)) (journal : VoteJournal V) (b : ℕ) (v : V) →
      HoldAcceptances held place journals → Contains journals journal → HasVote votes journal.replica b v → IsLastVote votes journal.replica (held journal.replica).accepted →
      (g : ℕ × V) × (greatest_at place journals ≡ Some g) × (b ≤ g.0)
  top_at votes held place journals journal b v hold member vote last =
      let P : VoteJournal V → Type 0 = λ j. vote_found (slice_get j.votes place) ≡ (held j.replica).accepted in
      let same : vote_found (slice_get journal.votes place) ≡ (held journal.replica).accepted = All-contains P journals journal hold member in
      reached votes journal.replica b v (held journal.replica).accepted (greatest_at place journals) vote last (subst (Covers (greatest_at place journals)) same (Covers_each place journals journal member))

  -- journals of a majority tell the chosen value, at the greatest ballot
  pub greatest_at_chosen : (n : ℕ) (held : ℕ → AcceptorState V) (votes : List (Vote V)) (sent : List (Message V)) (place : ℕ) (journals : List (VoteJournal V)) (v : V) →
      IsAgreed n held votes sent → IsChosenByVotes n votes v → AreOfReplicas n journals → n < 2 * length journals → HoldAcceptances held place journals →
      (ballot : ℕ) × (greatest_at place journals ≡ Some (ballot, v))
  greatest_at_chosen n held votes sent place journals v agreed chosen replicas most hold =
      let voter = journal_of_voter n votes journals chosen.0 v chosen.1 replicas most in
      let top = top_at votes held place journals voter.0 chosen.0 v hold voter.1 voter.2 (agreed.acceptors voter.0.replica).last in
      let cast : IsOfVote votes (Some top.0) = subst (IsOfVote votes) top.1 (IsOfVote_journals n held votes sent place journals agreed hold) in
      let value : top.0.1 ≡ v = ChosenIsCarried n votes (bars_of held) agreed.one_vote agreed.owners agreed.safe chosen.0 top.0.0 cast.0 v top.0.1 chosen.1 cast.1 top.2 in
      (top.0.0, top.1 ∙ ap (λ w. Some (top.0.0, w)) value)

  -- and what is recovered from them has it in its place
  pub slice_get_recovered : (journals : List (VoteJournal V)) (values : List V) (place ballot : ℕ) (v : V) → IsRecovered journals values → place ≤ length values
      → greatest_at place journals ≡ Some (ballot, v) → slice_get values place ≡ Some v
  slice_get_recovered journals values place ballot v recovered within greatest =
      elim (cases_lt place (length values)) [
        | inl below ↦ sym (recovered.each place below) ∙ ap (option_map (λ (vote : ℕ × V). vote.1)) greatest
        | inr past ↦
            let same : place ≡ length values = omega arith in
            let ends : greatest_at place journals ≡ None = subst (λ k. greatest_at k journals ≡ None) (sym same) recovered.ends in
            absurd (cc)
      ]
