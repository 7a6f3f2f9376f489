-- A local's position in the map, with the number of the window in which it stands.
use Rattle.std.specs.Prelude.{ℕ, List, Option}
use Rattle.std.specs.List.{slice_get}
use Rattle.std.specs.Option.{option_map, option_and_then}
use Rattle.fix_ante.specs.Windows.{Window}
use Rattle.fix_ante.specs.Layout.{place_of}
use Rattle.cut_core.specs.Agreements.{Agreement}
use Rattle.cut_core.specs.Map.{leased, numbers_of}
use Rattle.lease_window.specs.declared.lease.Lease.{Lease}

-- a position with the number of the window in which it stands
abbrev pub numbered : List ℕ → ℕ → Option Lease
numbered numbers position = option_map (λ (number : ℕ). record { window = number; position = position }) (slice_get numbers position)

-- the position of a shard's local in the map, with the number of its window
abbrev pub lease_of : Agreement → ℕ → ℕ → Option Lease
lease_of a shard local = option_and_then (numbered (numbers_of a)) (leased a shard local)

-- the same in one window
abbrev pub lease_in : Window → ℕ → ℕ → Option Lease
lease_in w shard local = option_map (λ (position : ℕ). record { window = w.number; position = position }) (place_of w shard local)
