-- A Fate tells a client the number after its covered records at a home that is gone.
use Rattle.std.specs.Prelude.{◌≡◌, ℕ, ◌-◌, ◌≤◌, take, Contains, Some}
use Rattle.std.specs.List.{range_with_len}
use Rattle.cut_core.specs.Map.{gone_end}
use Rattle.net_model.specs.Pasts.{Past, sent}
use Rattle.runs.specs.Names.{NodeId, Config, Message, What}
use Rattle.runs.specs.Names.whats
use Rattle.runs.specs.Known.{agreed_after, held_log}
use Rattle.runs.specs.Marks.{numbers_of_client}
use Rattle.runs.specs.Homes.{homes_at}
use Rattle.safety_frame.specs.AgreedList.{agreed_list}
use Rattle.safety_clients.specs.Telling.{OfShard, OfClient}

-- the shard is a home of the client and gone by the agreed list, and the client's records in its covered part have the
-- numbers from the first one there to the one that is told
pub record IsFate (cfg : Config) (past : Past) (client shard next : ℕ) : Type 0 where
  pub first : ℕ
  pub home : Contains (homes_at cfg client past) (record { shard = shard; first = first })
  pub end : ℕ
  pub gone : gone_end (agreed_after cfg (agreed_list cfg past)) shard ≡ Some end
  pub rises : first ≤ next
  pub numbers : numbers_of_client client (take end (held_log cfg shard past)) ≡ range_with_len first (next - first)

abbrev pub FateTells : Config → Past → ℕ → What → NodeId → Type 0
FateTells cfg past shard (whats.Fate next) to = OfClient (λ client. IsFate cfg past client shard next) to
FateTells cfg past shard _ to = Unit {0}

-- of each message that a replica sent
abbrev pub FatesTell : Config → Past → Type 0
FatesTell cfg past = (m : Message) → Contains (sent past) m → OfShard (λ shard. FateTells cfg past shard m.what m.to) m.from
