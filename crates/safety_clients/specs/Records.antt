-- A log's records of a client are of a home of the client, and their numbers run on from its first number there.
use Rattle.std.specs.Prelude.{◌≡◌, ◌⊎◌, ℕ, List, [], length, slice_get, Contains, Some}
use Rattle.std.specs.List.{range_with_len}
use Rattle.net_model.specs.Pasts.{Past}
use Rattle.runs.specs.Names.{Side, Config, Record}
use Rattle.runs.specs.Names.records
use Rattle.runs.specs.Known.{log_at}
use Rattle.runs.specs.Marks.{numbers_of_client}
use Rattle.runs.specs.Homes.{Home, homes_at}
use Rattle.safety_clients.specs.Homes.{bodies_at}

-- numbers run on by one from the first
abbrev pub RunFrom : ℕ → List ℕ → Type 0
RunFrom first numbers = numbers ≡ range_with_len first (length numbers)

-- the shard is one of the homes, and numbers run on from the first one there
abbrev pub RunFromHome : List Home → ℕ → List ℕ → Type 0
RunFromHome homes shard numbers = (first : ℕ) × Contains homes (record { shard = shard; first = first }) × RunFrom first numbers

pub record AreOfAHome (homes : List Home) (bodies : List (List ℕ)) (client shard : ℕ) (log : List Record) : Type 0 where
  pub of_home : (numbers_of_client client log ≡ []) ⊎ RunFromHome homes shard (numbers_of_client client log)
  -- each has the body that was submitted
  pub submitted : (local number : ℕ) (body : List ℕ) → slice_get log local ≡ Some (records.Data client number body) → slice_get bodies number ≡ Some body

-- of each replica's log
abbrev pub RecordsAreOfAHome : Config → Past → Type 0
RecordsAreOfAHome cfg past =
    (client shard : ℕ) (side : Side) → AreOfAHome (homes_at cfg client past) (bodies_at cfg client past) client shard (log_at cfg shard side past)
