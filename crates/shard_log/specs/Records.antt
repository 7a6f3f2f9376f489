-- Whose record it is, and its number.
use Rattle.std.specs.Prelude.{ℕ, ◌&&◌, ◌==◌, if◌then◌else◌, Bool, false, Option, Some, None}
use Rattle.record_codec.specs.declared.record.Record.{Record}
use Rattle.record_codec.specs.declared.record.Record.TheVariants.{Data, Noop}

-- the record's number, where it is the client's
abbrev pub number_by : ℕ → Record → Option ℕ
number_by client (Data owner number body) = if owner == client then Some number else None
number_by client Noop = None

-- the record is the client's and has this number
abbrev pub has_number : ℕ → ℕ → Record → Bool
has_number client number (Data owner own body) = (owner == client) && (own == number)
has_number client number Noop = false
