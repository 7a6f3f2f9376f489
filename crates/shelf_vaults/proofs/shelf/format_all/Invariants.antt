use Rattle.std.proofs.Common.{◌≡◌, [], ℕ, List, take, length, vec_len, vec_capacity}
use Rattle.std.specs.List.{AllByRecursion}
use Rattle.gate_vault.specs.Vault.{KeepsWithGate}
use Rattle.shelf_vaults.specs.Sights.{sight, IsOutAs, EachWith, IsNameOfNone}
use Rattle.shelf_vaults.proofs.shelf.format_all.Given as goal

abbrev pub invariant-loop-node : goal.invariant-loop-node
invariant-loop-node g l = record {
  size : vec_len l.vaults ≡ l.node-index;
  room : vec_capacity l.vaults ≡ length l.fn.nodes;
  tells : g.H.Shelf.tells l.shelf ≡ g.H.Shelf.tells l.fn.shelf;
  others : (name : List ℕ) → IsNameOfNone (take l.node-index l.fn.nodes) name
      → sight g.H.Shelf.faults g.H.Shelf.in_a_row g.H.Shelf.is_out g.H.Shelf.given g.H.Shelf.kept l.shelf name
      ≡ sight g.H.Shelf.faults g.H.Shelf.in_a_row g.H.Shelf.is_out g.H.Shelf.given g.H.Shelf.kept l.fn.shelf name;
  out : EachWith (IsOutAs g.H.D.Disk.faults)
      (sight g.H.Shelf.faults g.H.Shelf.in_a_row g.H.Shelf.is_out g.H.Shelf.given g.H.Shelf.kept l.fn.shelf)
      (sight g.H.Shelf.faults g.H.Shelf.in_a_row g.H.Shelf.is_out g.H.Shelf.given g.H.Shelf.kept l.shelf)
      (take l.node-index l.fn.nodes) l.vaults.items;
  empty : AllByRecursion (λ vault. KeepsWithGate g.H.D.Disk.seen g.H.D.Disk.may_leave vault []) l.vaults.items;
}
