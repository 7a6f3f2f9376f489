-- What a log answers to its calls, and the log after them.
use Rattle.std.specs.Prelude.{ℕ, ◌+◌, ◌==◌, if◌then◌else◌, List, [], ◌∷◌, ◌++◌, length, Option, Some, None, unwrap_or}
use Rattle.std.specs.List.{filter_map}
use Rattle.std.specs.Option.{option_map, option_map_or, option_or}
use Rattle.record_codec.specs.declared.record.Record.{Record}
use Rattle.record_codec.specs.declared.record.Record.TheVariants.{Data, Noop}
use Rattle.shard_log.specs.declared.answers.Appended.{Appended}
use Rattle.shard_log.specs.declared.answers.Appended.TheVariants.{Taken, Duplicate, Gap}
use Rattle.shard_log.specs.declared.answers.Grown.{Grown}
use Rattle.shard_log.specs.declared.answers.Grown.TheVariants.{Grown as grown_to, Stays}
use Rattle.shard_log.specs.Records.{number_by, has_number}

-- the client's numbers, in order of local
abbrev pub numbers_of : ℕ → List Record → List ℕ
numbers_of client log = filter_map (number_by client) log

-- the client's last number
abbrev pub last_of : ℕ → List Record → Option ℕ
last_of client [] = None
last_of client (r ∷ rest) = option_or (last_of client rest) (number_by client r)

-- the client's next number: one more than its last, none where it has no record
abbrev pub next_of : ℕ → List Record → Option ℕ
next_of client log = option_map (λ n. n + 1) (last_of client log)

-- the least local at which the client's number stands
abbrev pub local_of : ℕ → ℕ → List Record → Option ℕ
local_of client number [] = None
local_of client number (r ∷ rest) =
    if has_number client number r then Some 0 else option_map (λ local. local + 1) (local_of client number rest)

-- the number that the log expects of the client, which begins with `first`
abbrev pub expected_of : ℕ → ℕ → List Record → ℕ
expected_of client first log = unwrap_or (next_of client log) first

-- what a client's record is answered
abbrev pub append_from_answer : ℕ → ℕ → ℕ → List Record → Appended
append_from_answer client first number log =
    if number == expected_of client first log then Taken (length log)
    else option_map_or (λ local. Duplicate local) (local_of client number log) (Gap (expected_of client first log))

-- the log after a client's record: it has the record at its end where the number was expected
abbrev pub append_from_log : ℕ → ℕ → ℕ → List ℕ → List Record → List Record
append_from_log client first number body log =
    if number == expected_of client first log then log ++ Data client number body ∷ [] else log

-- the log after a record that fills a place
abbrev pub append_noop_log : List Record → List Record
append_noop_log log = log ++ Noop ∷ []

-- what a record for this local is answered
abbrev pub append_at_answer : ℕ → List Record → Grown
append_at_answer local log = if local == length log then grown_to (length log + 1) else Stays (length log)

-- the log after a record for this local: it has the record at its end where that is the local
abbrev pub append_at_log : ℕ → Record → List Record → List Record
append_at_log local rec log = if local == length log then log ++ rec ∷ [] else log
