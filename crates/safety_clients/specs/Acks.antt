-- What a client is told to be acknowledged stands there: its record of that number is confirmed at that position.
use Rattle.std.specs.Prelude.{ℕ, List, Contains}
use Rattle.net_model.specs.Pasts.{Past, sent}
use Rattle.runs.specs.Names.{NodeId, Config, Message, What}
use Rattle.runs.specs.Names.records
use Rattle.runs.specs.Names.whats
use Rattle.runs.specs.Marks.{IsConfirmed}
use Rattle.safety_clients.specs.Telling.{OfShard, OfClient}

abbrev pub AckTells : Past → What → NodeId → Type 0
AckTells past (whats.Ack number position) to = OfClient (λ client. (body : List ℕ) × IsConfirmed past position (records.Data client number body)) to
AckTells past _ to = Unit {0}

-- of each message that a replica sent
abbrev pub AcksTell : Config → Past → Type 0
AcksTell cfg past = (m : Message) → Contains (sent past) m → OfShard (λ shard. AckTells past m.what m.to) m.from
