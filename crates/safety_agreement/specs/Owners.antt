-- Each ballot has its owner among the sequencers: its remainder by their number.
use Rattle.std.specs.Prelude.{◌≡◌, ℕ, ◌%◌, Contains}
use Rattle.msg_wire.specs.Nodes.{number_of}
use Rattle.net_model.specs.Pasts.{Past, sent}
use Rattle.runs.specs.Names.{NodeId, Config, Message, What}
use Rattle.runs.specs.Names.whats
use Rattle.safety_agreement.specs.Attempts.{OfAttempts}

abbrev pub IsOwner : Config → NodeId → ℕ → Type 0
IsOwner cfg node ballot = ballot % cfg.seqs ≡ number_of node

-- what asks comes from the ballot's owner, and what answers goes to it
abbrev pub GoesByOwner : Config → NodeId → NodeId → What → Type 0
GoesByOwner cfg from to (whats.Prepare slot ballot) = IsOwner cfg from ballot
GoesByOwner cfg from to (whats.Accept slot ballot entry) = IsOwner cfg from ballot
GoesByOwner cfg from to (whats.Promise slot ballot report) = IsOwner cfg to ballot
GoesByOwner cfg from to (whats.Accepted slot ballot) = IsOwner cfg to ballot
GoesByOwner cfg from to _ = Unit {0}

pub record BallotsHaveOwners (cfg : Config) (past : Past) : Type 0 where
  pub attempts : OfAttempts cfg past (λ number a. a.attempt.ballot % cfg.seqs ≡ number)
  pub messages : (m : Message) → Contains (sent past) m → GoesByOwner cfg m.from m.to m.what
