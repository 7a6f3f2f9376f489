-- Which records are valid, and the spelling of each.
use Rattle.std.specs.Prelude.{ℕ, ◌≤◌, ◌^◌, List, [], ◌∷◌, ◌++◌, length}
use Rattle.record_codec.specs.declared.record.Record.{Record}
use Rattle.record_codec.specs.declared.record.Record.TheVariants.{Data, Noop}
use Rattle.record_codec.specs.Fields.{four, eight, sized}

-- a client 0 to 5, a number of at most 2^48, a body of at most 1,024 bytes
abbrev pub IsValidRecord : Record → Type 0
IsValidRecord (Data client number body) = (client ≤ 5) × (number ≤ 2 ^ 48) × (length body ≤ 1024)
IsValidRecord Noop = Unit {0}

-- the one spelling of a record
abbrev pub record_spelling : Record → List ℕ
record_spelling (Data client number body) = 1 ∷ four client ++ eight number ++ sized body
record_spelling Noop = 0 ∷ []
