-- What clients tell shards: a record, with the first number at that home, and for the fate of which number they wait.
use Rattle.std.specs.Prelude.{◌≡◌, ℕ, ◌≤◌, List, slice_get, Contains, Some}
use Rattle.net_model.specs.Pasts.{Past, sent}
use Rattle.runs.specs.Names.{NodeId, Config, Message, What}
use Rattle.runs.specs.Names.nodes
use Rattle.runs.specs.Names.whats
use Rattle.runs.specs.Homes.{Home, homes_at}
use Rattle.safety_clients.specs.Homes.{bodies_at, acked_at}

-- of a shard, or of a client; of other nodes nothing is asked
abbrev pub OfShard : (ℕ → Type 0) → NodeId → Type 0
OfShard P (nodes.Shard shard side) = P shard
OfShard P _ = Unit {0}

abbrev pub OfClient : (ℕ → Type 0) → NodeId → Type 0
OfClient P (nodes.Client client) = P client
OfClient P _ = Unit {0}

-- ---- Append

-- the shard is a home with this first number, and the number isn't below it and has this body
pub record IsAppended (homes : List Home) (bodies : List (List ℕ)) (shard first number : ℕ) (body : List ℕ) : Type 0 where
  pub home : Contains homes (record { shard = shard; first = first })
  pub from_first : first ≤ number
  pub submitted : slice_get bodies number ≡ Some body

abbrev pub AppendTells : List Home → List (List ℕ) → What → NodeId → Type 0
AppendTells homes bodies (whats.Append first number body) to = OfShard (λ shard. IsAppended homes bodies shard first number body) to
AppendTells homes bodies _ to = Unit {0}

-- of each message that a client sent
abbrev pub AppendsTell : Config → Past → Type 0
AppendsTell cfg past =
    (m : Message) → Contains (sent past) m → OfClient (λ client. AppendTells (homes_at cfg client past) (bodies_at cfg client past) m.what m.to) m.from

-- ---- AskFate

-- the shard is a home with this first number, and the number isn't below it and at most the acknowledged count
pub record IsAsked (homes : List Home) (acked shard first least : ℕ) : Type 0 where
  pub home : Contains homes (record { shard = shard; first = first })
  pub from_first : first ≤ least
  pub acknowledged : least ≤ acked

abbrev pub AskTells : List Home → ℕ → What → NodeId → Type 0
AskTells homes acked (whats.AskFate first least) to = OfShard (λ shard. IsAsked homes acked shard first least) to
AskTells homes acked _ to = Unit {0}

abbrev pub AsksTell : Config → Past → Type 0
AsksTell cfg past =
    (m : Message) → Contains (sent past) m → OfClient (λ client. AskTells (homes_at cfg client past) (acked_at cfg client past) m.what m.to) m.from
