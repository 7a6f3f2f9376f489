-- Lists of looks: what was published, in order.
use Rattle.std.specs.Prelude.{◌≡◌, ℕ, ◌<◌, List, [], ◌∷◌, Option, None, Some, nat_lt, if◌then◌else◌}
use Rattle.view_cell.specs.declared.look.Look.{Look}

-- the numbers rise, and are above n
abbrev pub IsRising : ℕ → List Look → Type 0
IsRising n [] = Unit {0}
IsRising n (x ∷ xs) = (n < x.ops) × IsRising x.ops xs

-- it begins with an opening look, whose number is 0, and goes on with those that were published
abbrev pub IsHistory : List Look → Type 0
IsHistory [] = ⊥
IsHistory (x ∷ xs) = (x.ops ≡ 0) × IsRising x.ops xs

abbrev pub last_of : Look → List Look → Look
last_of first [] = first
last_of first (x ∷ xs) = last_of x xs

-- the look that was published last
abbrev pub newest_of : List Look → Option Look
newest_of [] = None
newest_of (x ∷ xs) = Some (last_of x xs)

-- the number of the last look; n where there is none
abbrev pub last_number : ℕ → List Look → ℕ
last_number n [] = n
last_number n (x ∷ xs) = last_number x.ops xs

-- the one with the greater number; the first where both have the same
abbrev pub later_of : Look → Look → Look
later_of x y = if nat_lt x.ops y.ops then y else x
