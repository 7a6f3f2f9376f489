-- Where a client's records stand in a log.
use Rattle.std.specs.Prelude.{ℕ, ◌+◌, ◌==◌, nat_lt, if◌then◌else◌, List, [], ◌∷◌, Option, Some, None}
use Rattle.std.specs.List.{cons_option}
use Rattle.std.specs.Option.{option_map, option_or}
use Rattle.record_codec.specs.declared.record.Record.{Record}
use Rattle.shard_log.specs.declared.index.Place.{Place}
use Rattle.shard_log.specs.Records.{number_by}

-- the place of a record of the client that stands at this local
abbrev pub place_by : ℕ → ℕ → Record → Option Place
place_by client local rec = option_map (λ number. record { local = local; number = number }) (number_by client rec)

-- the places of the client's records, of which the first stands at this local
abbrev pub places_from : ℕ → ℕ → List Record → List Place
places_from client local [] = []
places_from client local (r ∷ rest) = cons_option (place_by client local r) (places_from client (local + 1) rest)

-- the places of the client's records in a log
abbrev pub places_of : ℕ → List Record → List Place
places_of client log = places_from client 0 log

-- the place's number, where it is below `end`
abbrev pub number_below : ℕ → Place → Option ℕ
number_below end p = if nat_lt p.local end then Some p.number else None

-- the place's local, where it has this number
abbrev pub local_with : ℕ → Place → Option ℕ
local_with number p = if p.number == number then Some p.local else None

-- the number of the last place below `end`
abbrev pub last_below : ℕ → List Place → Option ℕ
last_below end [] = None
last_below end (p ∷ rest) = option_or (last_below end rest) (number_below end p)

-- the local of the first place with this number
abbrev pub first_with : ℕ → List Place → Option ℕ
first_with number [] = None
first_with number (p ∷ rest) = option_or (local_with number p) (first_with number rest)
