-- The promises that an attempt has counted: each was sent to it, but for its own.
use Rattle.std.specs.Prelude.{◌≡◌, ℕ, ◌<◌, nat_eq, List, All, Contains, Option}
use Rattle.std.specs.List.{IsDistinct}
use Rattle.majority.specs.Proposers.{Attempt}
use Rattle.majority.specs.Agreement.{HasPromises}
use Rattle.msg_wire.specs.Nodes.{number_of}
use Rattle.net_model.specs.Pasts.{Past, sent}
use Rattle.runs.specs.Names.{NodeId, Config, Entry, Message}
use Rattle.runs.specs.Names.nodes
use Rattle.runs.specs.Names.whats
use Rattle.safety_agreement.specs.Attempts.{OfAttempts}

-- a Promise of the slot and the ballot was sent to the node, with this report
abbrev pub IsPromised : List Message → NodeId → ℕ → ℕ → ℕ → Option (ℕ × Entry) → Type 0
IsPromised messages me slot ballot other report =
    (m : Message) × Contains messages m × (m.to ≡ me) × (number_of m.from ≡ other) × (m.what ≡ whats.Promise slot ballot report)

-- what an attempt has heard, whether it sends an entry or not: each sequencer counts once, and who counts as having promised has sent a Promise of the
-- attempt's slot and ballot, but for its own sequencer; of what these report the greatest is kept
pub record HasHeard (seqs : ℕ) (messages : List Message) (number slot : ℕ) (a : Attempt Entry) : Type 0 where
  pub within : All (λ other. other < seqs) a.promises
  pub distinct : IsDistinct nat_eq a.promises
  pub promised : HasPromises number (IsPromised messages (nodes.Seq number) slot a.ballot) a

abbrev pub AttemptsHavePromises : Config → Past → Type 0
AttemptsHavePromises cfg past = OfAttempts cfg past (λ number a. HasHeard cfg.seqs (sent past) number a.slot a.attempt)
