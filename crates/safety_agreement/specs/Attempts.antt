-- What holds of the attempts that stand.
use Rattle.std.specs.Prelude.{◌≡◌, ℕ, ◌<◌, nat_eq, length, All, Contains, Some, None}
use Rattle.std.specs.List.{IsDistinct}
use Rattle.majority.specs.Agreement.{Reaches}
use Rattle.net_model.specs.Pasts.{Past}
use Rattle.seq_node.specs.States.{SlotAttempt}
use Rattle.runs.specs.Names.{Config, Entry}
use Rattle.runs.specs.Names.nodes
use Rattle.runs.specs.Kinds.{sequencer_after}
use Rattle.runs.specs.Known.{known_at}
use Rattle.runs.specs.Chosen.{HasAccepted}
use Rattle.safety_agreement.specs.Votes.{bar_at, HasNotAccepted}

-- it holds of each attempt, with its sequencer's number
abbrev pub OfAttempts : Config → Past → (ℕ → SlotAttempt → Type 0) → Type 0
OfAttempts cfg past P = (number : ℕ) (a : SlotAttempt) → number < cfg.seqs → (sequencer_after cfg number past).own.attempt ≡ Some a → P number a

-- an attempt is for the first slot that its sequencer doesn't know
abbrev pub AttemptsAreOfTheNextSlot : Config → Past → Type 0
AttemptsAreOfTheNextSlot cfg past = OfAttempts cfg past (λ number a. a.slot ≡ length (known_at cfg (nodes.Seq number) past))

-- its own acceptor has promised its ballot
abbrev pub AttemptsArePromised : Config → Past → Type 0
AttemptsArePromised cfg past = OfAttempts cfg past (λ number a. Reaches (bar_at cfg past a.slot number) a.attempt.ballot)

-- while nothing is being sent, its ballot is above 0, and nobody has a vote there
abbrev pub AttemptsAreUnvoted : Config → Past → Type 0
AttemptsAreUnvoted cfg past =
    OfAttempts cfg past (λ number a. a.attempt.sending ≡ None
    → (0 < a.attempt.ballot) × ((other : ℕ) → other < cfg.seqs → HasNotAccepted cfg past a.slot a.attempt.ballot other))

-- an attempt's sequencer has voted an entry, and all whose acceptances are counted; each counts once
pub record HasVotes (cfg : Config) (past : Past) (number : ℕ) (a : SlotAttempt) (v : Entry) : Type 0 where
  pub within : All (λ other. other < cfg.seqs) a.attempt.acceptances
  pub distinct : IsDistinct nat_eq a.attempt.acceptances
  pub own : HasAccepted cfg past a.slot a.attempt.ballot v number
  pub voted : (other : ℕ) → Contains a.attempt.acceptances other → HasAccepted cfg past a.slot a.attempt.ballot v other

-- the entry that is being sent
abbrev pub AttemptsAreVoted : Config → Past → Type 0
AttemptsAreVoted cfg past = OfAttempts cfg past (λ number a. (v : Entry) → a.attempt.sending ≡ Some v → HasVotes cfg past number a v)
