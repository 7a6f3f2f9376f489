-- That the indexes of all clients fit a log.
use Rattle.std.specs.Prelude.{◌≡◌, ℕ, ◌<◌, List, [], slice_index_or}
use Rattle.std.specs.List.{All}
use Rattle.record_codec.specs.declared.record.Record.{Record}
use Rattle.shard_log.specs.declared.index.Place.{Place}
use Rattle.record_codec.specs.Records.{IsValidRecord}
use Rattle.shard_log.specs.inside.Places.{places_of}

-- every record is valid, and each client's list has the places of its records
pub record IsIndexed (log : List Record) (clients : List (List Place)) : Type 0 where
  pub valid : All IsValidRecord log
  pub places : (client : ℕ) → client < 6 → slice_index_or clients client [] ≡ places_of client log
