-- The tally: the sum of the numbers added so far, and how many they are.
use Rattle.std.specs.Prelude.{ℕ, ◌+◌, ◌-◌, ◌^◌, min, Bool, ◌&&◌, nat_le, List, [], ◌++◌, if◌then◌else◌, codes, decimal}
use Rattle.std.specs.Str.Parse.{digits_value}
use Rattle.record_codec.specs.declared.record.Record.{Record}
use Rattle.record_codec.specs.declared.record.Record.TheVariants.{Data, Noop}
use Rattle.record_codec.specs.Decimals.{is_decimal}

-- the sum of the numbers added so far, and how many they are
pub record TallyState : Type 0 where
  pub total : ℕ
  pub added : ℕ

-- the body is a number of 1 to 9 digits that leaves the sum within its bound
abbrev pub is_added : TallyState → List ℕ → Bool
is_added t body = is_decimal 9 body && nat_le (t.total + digits_value 10 body) (10 ^ 18)

-- the tally after a body: one number more, or as before
abbrev pub added_to : TallyState → List ℕ → TallyState
added_to t body =
    if is_added t body
    then record { total = t.total + digits_value 10 body; added = min (t.added + 1) (2 ^ 64 - 1) }
    else t

abbrev pub tally_next : TallyState → Record → TallyState
tally_next t (Data client number body) = added_to t body
tally_next t Noop = t

abbrev pub tally_output : TallyState → Record → List ℕ
tally_output t (Data client number body) =
    (if is_added t body then decimal (t.total + digits_value 10 body) else codes "?") ++ codes "\n"
tally_output t Noop = []

abbrev pub tally_shown : TallyState → List ℕ
tally_shown t = codes "sum " ++ decimal t.total ++ codes " count " ++ decimal t.added
