-- What the code keeps of the known entries, and that it fits them.
use Rattle.std.specs.Prelude.{◌≡◌, ◌≤◌}
use Rattle.std.specs.List.{AllByRecursion}
use Rattle.cut_core.specs.declared.gone.Gone.{Gone}
use Rattle.cut_core.specs.Agreements.{count_of}
use Rattle.cut_core.specs.Fold.{fold_of}
use Rattle.cut_core.specs.Soundness.{IsSound}
use Rattle.lease_window.specs.declared.known.Known.TheInside.{Inside}
use Rattle.lease_window.specs.Known.{KnownEntries}

-- the first window and the entries that are kept
abbrev pub known_of : Inside → KnownEntries
known_of i = record { first = i.first; entries = i.entries.items }

-- the agreed state is that of the entries, at most 1,000,000, and what every list of entries leaves
pub record IsKnown (i : Inside) : Type 0 where
  pub agreed : i.agreed ≡ fold_of i.first i.entries.items
  pub few : i.agreed.slots ≤ 1000000
  pub sound : IsSound i.agreed
  pub ended : AllByRecursion (λ (g : Gone). g.end ≡ count_of g.shard i.agreed.covered) i.agreed.gone
