-- Decimals in a body or a script: their form, and the number that they spell.
use Rattle.std.specs.Prelude.{ℕ, Bool, ◌&&◌, nat_le, List, length, Option, Some, None, if◌then◌else◌}
use Rattle.std.specs.Str.{all_ascii_digits}
use Rattle.std.specs.Str.Parse.{digits_value}

-- a decimal of at least one and at most so many digits
abbrev pub is_decimal : ℕ → List ℕ → Bool
is_decimal most text = nat_le 1 (length text) && (nat_le (length text) most && all_ascii_digits text)

-- the number that such a decimal spells; none for any other text
abbrev pub number_in : ℕ → List ℕ → Option ℕ
number_in most text = if is_decimal most text then Some (digits_value 10 text) else None
