use Rattle.std.proofs.Common.{◌≡◌, ◌≤◌, ℕ, List, take, drop, length, vec_len}
use Rattle.shelf_vaults.specs.Sights.{sight, IsBackAs, EachWith, IsNameOfNone}
use Rattle.shelf_vaults.proofs.shelf.give_back.Given as goal

abbrev pub decreases-loop-disk : goal.decreases-loop-disk
decreases-loop-disk g l = vec_len l.disks

abbrev pub invariant-loop-disk : goal.invariant-loop-disk
invariant-loop-disk g l = record {
  left : l.disks.items ≡ take (vec_len l.disks) l.fn.disks.items;
  within : vec_len l.disks ≤ length l.fn.disks.items;
  tells : g.H.Shelf.tells l.shelf ≡ g.H.Shelf.tells l.fn.shelf;
  others : (name : List ℕ) → IsNameOfNone (drop (vec_len l.disks) l.fn.nodes) name
      → sight g.H.Shelf.faults g.H.Shelf.in_a_row g.H.Shelf.is_out g.H.Shelf.given g.H.Shelf.kept l.shelf name
      ≡ sight g.H.Shelf.faults g.H.Shelf.in_a_row g.H.Shelf.is_out g.H.Shelf.given g.H.Shelf.kept l.fn.shelf name;
  back : EachWith (IsBackAs g.H.D.Disk.faults g.H.D.Disk.in_a_row)
      (sight g.H.Shelf.faults g.H.Shelf.in_a_row g.H.Shelf.is_out g.H.Shelf.given g.H.Shelf.kept l.fn.shelf)
      (sight g.H.Shelf.faults g.H.Shelf.in_a_row g.H.Shelf.is_out g.H.Shelf.given g.H.Shelf.kept l.shelf)
      (drop (vec_len l.disks) l.fn.nodes) (drop (vec_len l.disks) l.fn.disks.items);
}
