-- Which calls of an object in memory fail.
use Rattle.std.specs.Prelude.{ℕ, Bool, ◌==◌, List, [], ◌∷◌, true, false, if◌then◌else◌}
use Rattle.std.specs.List.{list_any}
use Rattle.spec_base.specs.Faults.{next_count}

-- the numbers of the calls that fail, from 0; the number of the next call; how many have failed
pub record Plan : Type 0 where
  pub fails : List ℕ
  pub calls : ℕ
  pub faults : ℕ

-- before the first call
abbrev pub fresh_plan : List ℕ → Plan
fresh_plan fails = record { fails = fails; calls = 0; faults = 0 }

-- the next call is one that fails
abbrev pub fails_next : Plan → Bool
fails_next p = list_any (λ call. call == p.calls) p.fails

-- no call ever fails
abbrev pub is_sound : Plan → Bool
is_sound p = is_empty p.fails
  where
    is_empty : List ℕ → Bool
    is_empty [] = true
    is_empty (call ∷ calls) = false

-- after one more call
abbrev pub after_call : Plan → Plan
after_call p = record {
  fails = p.fails;
  calls = next_count p.calls;
  faults = if fails_next p then next_count p.faults else p.faults;
}
