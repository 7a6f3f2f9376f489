-- The law of clients: at each home a client has one first number, and each home goes on where the one before it ended.
use Rattle.std.specs.Prelude.{◌≡◌, ℕ, ◌-◌, ◌≤◌, true, false, List, [], ◌∷◌, ◌++◌, filter_map, take, slice_get, slice_index, Contains, Option, Some, None}
use Rattle.std.specs.List.{range_with_len}
use Rattle.cut_core.specs.Agreements.{is_gone}
use Rattle.cut_core.specs.Map.{covered_locals, gone_end}
use Rattle.net_model.specs.Pasts.{Past, sent}
use Rattle.runs.specs.Names.{Side, Config, Entry, Item}
use Rattle.runs.specs.Names.nodes
use Rattle.runs.specs.Names.records
use Rattle.runs.specs.Names.items
use Rattle.runs.specs.Names.whats
use Rattle.runs.specs.Kinds.{items_at}
use Rattle.runs.specs.Known.{agreed_after, known_at, agreed_at, held_log}
use Rattle.runs.specs.Marks.{IsPrefix, numbers_of_client}

-- ---- homes

-- a shard, and the number that the client sends there first
pub record Home : Type 0 where
  pub shard : ℕ
  pub first : ℕ

abbrev pub home_in : Item → Option Home
home_in (items.Moved shard first) = Some (record { shard = shard; first = first })
home_in _ = None

-- a client's homes: the one that the cluster gives it, and those to which it moved, in order
abbrev pub homes_at : Config → ℕ → Past → List Home
homes_at cfg client past = record { shard = slice_index cfg.homes client; first = 0 } ∷ filter_map home_in (items_at cfg (nodes.Client client) past)

-- the one home comes right after the other
abbrev pub AreInTurn : Config → ℕ → Past → Home → Home → Type 0
AreInTurn cfg client past earlier later = (before : List Home) × IsPrefix (before ++ earlier ∷ later ∷ []) (homes_at cfg client past)

-- ---- one first number

-- the client has asked a shard to take a record, and named this number as its first there
abbrev pub BeginsWith : Past → ℕ → ℕ → ℕ → Type 0
BeginsWith past client shard first =
    (side : Side) × (number : ℕ) × (body : List ℕ)
    × Contains (sent past) (record { from = nodes.Client client; to = nodes.Shard shard side; what = whats.Append first number body })

abbrev pub OneFirstPerShard : Past → Type 0
OneFirstPerShard past = (client shard first other : ℕ) → BeginsWith past client shard first → BeginsWith past client shard other → first ≡ other

-- ---- from home to home

-- the earlier home is gone, and of the client's records its covered part has the numbers from its first to the later one's
pub record EndsWhereNextBegins (cfg : Config) (client : ℕ) (past : Past) (earlier later : Home) : Type 0 where
  pub end : ℕ
  pub gone : gone_end (agreed_at cfg (nodes.Client client) past) earlier.shard ≡ Some end
  pub rises : earlier.first ≤ later.first
  pub numbers : numbers_of_client client (take end (held_log cfg earlier.shard past)) ≡ range_with_len earlier.first (later.first - earlier.first)

abbrev pub HomesEndWhereTheNextBegins : Config → Past → Type 0
HomesEndWhereTheNextBegins cfg past =
    (client : ℕ) (earlier later : Home) → AreInTurn cfg client past earlier later → EndsWhereNextBegins cfg client past earlier later

-- with the last of these entries, the first that a client knows, a shard goes
pub record GoesWith (cfg : Config) (client : ℕ) (past : Past) (shard : ℕ) (before : List Entry) (entry : Entry) : Type 0 where
  pub known : IsPrefix (before ++ entry ∷ []) (known_at cfg (nodes.Client client) past)
  pub there : is_gone (agreed_after cfg before) shard ≡ false
  pub gone : is_gone (agreed_after cfg (before ++ entry ∷ [])) shard ≡ true

-- the log of a shard that counts has a record of the client at the local
abbrev pub HasRecordOf : Config → ℕ → Past → ℕ → ℕ → Type 0
HasRecordOf cfg client past shard local =
    (number : ℕ) × (body : List ℕ) × (slice_get (held_log cfg shard past) local ≡ Some (records.Data client number body))

-- the client's records at the later home stand at locals that weren't covered as the earlier one went
abbrev pub LaterHomesBeginLater : Config → Past → Type 0
LaterHomesBeginLater cfg past =
    (client : ℕ) (earlier later : Home) (before : List Entry) (entry : Entry) (local : ℕ) →
    AreInTurn cfg client past earlier later → GoesWith cfg client past earlier.shard before entry → HasRecordOf cfg client past later.shard local →
    covered_locals (agreed_after cfg (before ++ entry ∷ [])) later.shard ≤ local

pub record ClientsHold (cfg : Config) (past : Past) : Type 0 where
  pub one_first : OneFirstPerShard past
  pub homes_end : HomesEndWhereTheNextBegins cfg past
  pub homes_begin : LaterHomesBeginLater cfg past
