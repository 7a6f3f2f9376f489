-- What a slot of the machine tells of the past, in the words of items, messages and attempts.
use Rattle.std.proofs.Common.{◌≡◌, ◌∙◌, ℕ, suc, ◌<◌, ◌%◌, Contains, Option, Some, None, inl, inr, refl, ap, subst, mod-lt, arith}
use Rattle.std.proofs.lemmas.List.Elements.{All-weaker, All-contains, All-contains_itself}
use Rattle.majority.specs.Ballots.{IsMajority}
use Rattle.majority.specs.Acceptors.{AcceptorState}
use Rattle.majority.specs.Votes.{HasVote, IsChosenByVotes}
use Rattle.majority.specs.Slot.{SlotState}
use Rattle.majority.specs.Agreement.{Reaches, HasNoVote, IsAttempt, bars_of, Tells, ToldOf, Supports}
use Rattle.msg_wire.specs.Valid.{IsValidConfig}
use Rattle.net_model.specs.Pasts.{Past, sent}
use Rattle.node_rules.proofs.Limits.{seqs_within}
use Rattle.seq_node.specs.States.{SlotAttempt}
use Rattle.runs.specs.Names.{Config, Entry, Message, What}
use Rattle.runs.specs.Kinds.{sequencer_after}
use Rattle.runs.specs.Chosen.{HasAccepted, IsChosen}
use Rattle.safety_agreement.specs.Votes.{bar_at, Voted, HasNotAccepted}
use Rattle.safety_agreement.proofs.Mirrors.{attempt_at, at_slot, IsSaid}
use Rattle.safety_agreement.proofs.Machine.{stands_there}
use Rattle.safety_agreement.proofs.Slots.{IsSlotOf}

-- a ballot's owner is one of the sequencers
pub owner_below : (cfg : Config) → IsValidConfig cfg → (ballot : ℕ) → ballot % cfg.seqs < cfg.seqs
owner_below cfg valid ballot = mod-lt ballot (omega (arith, (seqs_within cfg.seqs valid.seqs).0))

module _ (cfg : Config) (past : Past) (slot : ℕ) (state : SlotState Entry) (is : IsSlotOf cfg past slot state) where
  -- votes are items
  pub voted : (number ballot : ℕ) (v : Entry) → number < cfg.seqs → HasAccepted cfg past slot ballot v number → HasVote state.votes number ballot v
  voted number ballot v low there = (is.mirrors number low).voted ballot v there

  pub stored : (number ballot : ℕ) (v : Entry) → number < cfg.seqs → HasVote state.votes number ballot v → HasAccepted cfg past slot ballot v number
  stored number ballot v low vote = (is.mirrors number low).votes ballot v vote

  pub none_stored : (number ballot : ℕ) → number < cfg.seqs → HasNoVote state.votes number ballot → HasNotAccepted cfg past slot ballot number
  none_stored number ballot low none v there = none v (voted number ballot v low there)

  pub bar_is : (number ballot : ℕ) → number < cfg.seqs → Reaches (bars_of state.acceptors number) ballot → Reaches (bar_at cfg past slot number) ballot
  bar_is number ballot low reached = subst (λ (a : AcceptorState Entry). Reaches a.promised ballot) (is.mirrors number low).acceptor reached

  -- a message of the slot is one of the machine
  pub said_is : (m : Message) (what : What) → Contains (sent past) m → m.what ≡ what → IsSaid slot state.sent m.from what
  said_is m what there same = subst (IsSaid slot state.sent m.from) same (is.said m there)

  pub tells_is : (number ballot : ℕ) (report : Option (ℕ × Entry)) → number < cfg.seqs → Tells state.votes number ballot report
      → ToldOf (Voted cfg past slot number) ballot report
  tells_is number ballot None low tells = λ other below. none_stored number other low (tells other below)
  tells_is number ballot (Some report) low tells = (
    tells.0,
    stored number report.0 report.1 low tells.1,
    λ other above below. none_stored number other low (tells.2 other above below),
  )

  pub supports : (number ballot : ℕ) (v : Entry) → number < cfg.seqs
      → Supports (HasVote state.votes) (bars_of state.acceptors) ballot v number → Supports (Voted cfg past slot) (bar_at cfg past slot) ballot v number
  supports number ballot v low held = elim held [
    | inl vote ↦ inl (stored number ballot v low vote)
    | inr none ↦ inr (none_stored number ballot low none.0, bar_is number (suc ballot) low none.1)
  ]

  -- what is chosen by votes is chosen by items, and back
  pub chosen_is : (v : Entry) → IsChosenByVotes cfg.seqs state.votes v → IsChosen cfg past slot v
  chosen_is v by =
      let voters = by.1.0 in
      let majority : IsMajority cfg.seqs voters = by.1.1 in (
        by.0,
        voters,
        majority,
        All-weaker (Contains voters) (λ number. HasAccepted cfg past slot by.0 v number)
            (λ number member. stored number by.0 v (All-contains (λ k. k < cfg.seqs) voters number majority.within member)
            (All-contains (λ number. HasVote state.votes number by.0 v) voters number by.1.2 member))
            voters (All-contains_itself voters),
      )

  pub chosen_by : (v : Entry) → IsChosen cfg past slot v → IsChosenByVotes cfg.seqs state.votes v
  chosen_by v chosen =
      let voters = chosen.1 in
      let majority : IsMajority cfg.seqs voters = chosen.2 in (
        chosen.0,
        (
          voters,
          majority,
          All-weaker (Contains voters) (λ number. HasVote state.votes number chosen.0 v)
              (λ number member. voted number chosen.0 v (All-contains (λ k. k < cfg.seqs) voters number majority.within member)
              (All-contains (λ number. HasAccepted cfg past slot chosen.0 v number) voters number chosen.3 member))
              voters (All-contains_itself voters),
        ),
      )

-- an attempt that stands is one of the machine
pub standing_is : (cfg : Config) (past : Past) (state : SlotState Entry) (number : ℕ) (a : SlotAttempt) (is : IsSlotOf cfg past a.slot state) → number < cfg.seqs
    → (sequencer_after cfg number past).own.attempt ≡ Some a
    → IsAttempt cfg.seqs state.votes (bars_of state.acceptors number) state.sent number a.attempt
standing_is cfg past state number a is low stands =
    stands_there cfg.seqs number state low is.sound a.attempt
    ((is.mirrors number low).attempt ∙ (ap (attempt_at a.slot) stands ∙ at_slot a.slot a refl))
