-- The words of the command line: of which form they are, and the first that doesn't fit.
use Rattle.std.specs.Prelude.{ℕ, Bool, false, not, ◌&&◌, nat_eq, nat_le, if◌then◌else◌, List, [], ◌∷◌, Option, Some, None, Result, Ok, Err, codes}
use Rattle.std.specs.Cmp.Lexicographic.{pointwise}
use Rattle.record_codec.specs.Decimals.{number_in}

abbrev pub is_word : List ℕ → List ℕ → Bool
is_word text word = pointwise nat_eq word text

-- the first of the words is this one
abbrev pub begins_with : List ℕ → List (List ℕ) → Bool
begins_with name [] = false
begins_with name (command ∷ words) = is_word name command

-- ---- `play` and `run`, with no further word

-- the place of the first word that is not of the form of the command of this name; 0 where there is none, and none where the words are so
abbrev pub command_place : List ℕ → List (List ℕ) → Option ℕ
command_place name [] = Some 0
command_place name (command ∷ []) = if is_word name command then None else Some 0
command_place name (command ∷ word ∷ words) = if is_word name command then Some 1 else Some 0

abbrev pub play_place : List (List ℕ) → Option ℕ
play_place = command_place (codes "play")

abbrev pub is_run : List (List ℕ) → Bool
is_run = begins_with (codes "run")

abbrev pub run_place : List (List ℕ) → Option ℕ
run_place = command_place (codes "run")

-- ---- `gen SEED SIZE`

abbrev pub within : ℕ → ℕ → Option ℕ → Option ℕ
within least most None = None
within least most (Some number) = if nat_le least number && nat_le number most then Some number else None

-- the number that a decimal of 1 to 18 digits spells, where it is within these bounds
abbrev pub number_from : ℕ → ℕ → List ℕ → Option ℕ
number_from least most word = within least most (number_in 18 word)

abbrev pub after_size : ℕ → Option ℕ → List (List ℕ) → Result (ℕ × ℕ) ℕ
after_size seed None words = Err 2
after_size seed (Some size) [] = Ok (seed, size)
after_size seed (Some size) (word ∷ words) = Err 3

abbrev pub after_seed : Option ℕ → List (List ℕ) → Result (ℕ × ℕ) ℕ
after_seed None words = Err 1
after_seed (Some seed) [] = Err 2
after_seed (Some seed) (size ∷ words) = after_size seed (number_from 1 2000 size) words

abbrev pub after_gen : List (List ℕ) → Result (ℕ × ℕ) ℕ
after_gen [] = Err 1
after_gen (seed ∷ words) = after_seed (number_from 0 4294967295 seed) words

abbrev pub is_gen : List (List ℕ) → Bool
is_gen = begins_with (codes "gen")

-- the seed, at most 4,294,967,295, and the size, 1 to 2,000, of words of this form; else the place of the first word that doesn't fit, or
-- how many words there are where one is missing
abbrev pub gen_of : List (List ℕ) → Result (ℕ × ℕ) ℕ
gen_of [] = Err 0
gen_of (command ∷ words) = if is_word (codes "gen") command then after_gen words else Err 0

abbrev pub place_in : {T : Type 0} → Result T ℕ → Option ℕ
place_in (Ok _) = None
place_in (Err place) = Some place

-- ---- any command

-- words that begin with no other command's name are judged as those of `play`
abbrev pub is_play : List (List ℕ) → Bool
is_play words = not (is_gen words) && not (is_run words)

-- the place of the first word that is of no command's form; none where the words are of one
abbrev pub usage_place : List (List ℕ) → Option ℕ
usage_place words = if is_gen words then place_in (gen_of words) else if is_run words then run_place words else play_place words
