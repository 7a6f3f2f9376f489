-- Who has which position: the covered owners, the rest of the current window, and the granted one.
use Rattle.std.specs.Prelude.{ℕ, ◌-◌, ◌==◌, if◌then◌else◌, List, [], ◌∷◌, ◌++◌, length, Option, Some, None, replicate}
use Rattle.std.specs.List.{slice_get}
use Rattle.fix_ante.specs.declared.spots.Owner.{Owner}
use Rattle.fix_ante.specs.Windows.{Window}
use Rattle.fix_ante.specs.Layout.{rounds_from, layout_of, index_of}
use Rattle.cut_core.specs.Agreements.{Agreement, Gone, count_of}

-- the owners of the current window that aren't covered yet
abbrev pub rest_of : Agreement → List Owner
rest_of a = rounds_from a.current.spots a.rounds (a.current.rounds - a.rounds)

-- the owners of a window that may be granted
abbrev pub granted_layout : Option Window → List Owner
granted_layout None = []
granted_layout (Some window) = layout_of window

-- who has which position: the covered owners, the rest of the current window, the granted window
abbrev pub map_of : Agreement → List Owner
map_of a = a.covered ++ (rest_of a ++ granted_layout a.granted)

-- the owner of a covered position, and the covered position of a local
abbrev pub located : Agreement → ℕ → Option Owner
located a position = slice_get a.covered position

abbrev pub placed : Agreement → ℕ → ℕ → Option ℕ
placed a shard local = index_of a.covered shard local

-- the owner of a position, and the position of a local, in the map
abbrev pub mapped : Agreement → ℕ → Option Owner
mapped a position = slice_get (map_of a) position

abbrev pub leased : Agreement → ℕ → ℕ → Option ℕ
leased a shard local = index_of (map_of a) shard local

-- a shard's covered locals
abbrev pub covered_locals : Agreement → ℕ → ℕ
covered_locals a shard = count_of shard a.covered

-- the final end of a shard's locals; none where it isn't gone
abbrev pub end_among : List Gone → ℕ → Option ℕ
end_among [] shard = None
end_among (g ∷ gs) shard = if g.shard == shard then Some g.end else end_among gs shard

abbrev pub gone_end : Agreement → ℕ → Option ℕ
gone_end a shard = end_among a.gone shard

-- the numbers of the windows in which the positions of the map stand
abbrev pub granted_numbers : Option Window → List ℕ
granted_numbers None = []
granted_numbers (Some window) = replicate (length (layout_of window)) window.number

abbrev pub numbers_of : Agreement → List ℕ
numbers_of a = a.numbers ++ (replicate (length (rest_of a)) a.current.number ++ granted_numbers a.granted)
