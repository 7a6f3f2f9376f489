-- Reading a record: which record stands at a place, and where it ends, or the first fault from the left.
use Rattle.std.specs.Prelude.{◌≡◌, ℕ, ◌^◌, ◌==◌, if◌then◌else◌, List, Result, Ok, Err}
use Rattle.record_codec.specs.declared.record.Record.{Record}
use Rattle.record_codec.specs.declared.record.Record.TheVariants.{Data, Noop}
use Rattle.record_codec.specs.declared.errors.DecodeError.{DecodeError}
use Rattle.record_codec.specs.declared.errors.DecodeError.TheVariants.{Short, BadTag, BadField, BodyTooLong, OutOfMemory}
use Rattle.record_codec.specs.Reading.{Reader, ◌>>=◌, byte_at, two_at, four_at, eight_at, field, announced, three_of}

unfoldable pub client_at : Reader ℕ DecodeError
client_at bytes at = field Short (λ _. BadField at) 0 5 (four_at bytes at)

unfoldable pub count_at : Reader ℕ DecodeError
count_at bytes at = field Short (λ _. BadField at) 0 (2 ^ 48) (eight_at bytes at)

unfoldable pub len_at : Reader ℕ DecodeError
len_at bytes at = field Short BodyTooLong 0 1024 (two_at bytes at)

unfoldable pub body_at : Reader (List ℕ) DecodeError
body_at = announced Short len_at

unfoldable pub record_at : Reader Record DecodeError
record_at bytes at = do
  tag ← field Short BadTag 0 1 (byte_at bytes at)
  if tag.0 == 0 then Ok (Noop, tag.1) else three_of client_at count_at body_at Data bytes tag.1

-- What a function answered is what reading gives, unless memory ran out.
abbrev pub Fails : {A : Type 0} → DecodeError → Result A DecodeError → Type 0
Fails OutOfMemory reading = Unit {0}
Fails e reading = reading ≡ Err e

abbrev pub Gives : {A : Type 0} → Result A DecodeError → Result A DecodeError → Type 0
Gives (Ok x) reading = reading ≡ Ok x
Gives (Err e) reading = Fails e reading
