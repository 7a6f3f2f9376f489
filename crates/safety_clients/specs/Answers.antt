-- Nothing is left out: a replica whose shard is gone answers a client that asks for the fate of a number.
use Rattle.std.specs.Prelude.{◌≡◌, ◌⊎◌, ℕ, true, Contains}
use Rattle.cut_core.specs.Agreements.{is_gone}
use Rattle.net_model.specs.Pasts.{Past, Throughout}
use Rattle.runs.specs.Names.{Side, Config, HistoryEntry}
use Rattle.runs.specs.Names.nodes
use Rattle.runs.specs.Names.events
use Rattle.runs.specs.Names.whats
use Rattle.runs.specs.Known.{agreed_at}

-- the entry tells the client a next number, or the position of the number that it asked for
abbrev pub Answers : HistoryEntry → ℕ → Side → ℕ → ℕ → Type 0
Answers e shard side client least =
    ((next : ℕ) × Contains e.sends (record { from = nodes.Shard shard side; to = nodes.Client client; what = whats.Fate next }))
    ⊎ ((position : ℕ) × Contains e.sends (record { from = nodes.Shard shard side; to = nodes.Client client; what = whats.Ack least position }))

abbrev pub IsAnswered : Config → Past → HistoryEntry → Type 0
IsAnswered cfg past e =
    (shard : ℕ) (side : Side) (client first least : ℕ) → e.node ≡ nodes.Shard shard side
    → e.event ≡ events.Deliver (record { from = nodes.Client client; to = nodes.Shard shard side; what = whats.AskFate first least })
    → is_gone (agreed_at cfg (nodes.Shard shard side) past) shard ≡ true → Answers e shard side client least

abbrev pub AsksAreAnswered : Config → Past → Type 0
AsksAreAnswered cfg = Throughout (IsAnswered cfg)
