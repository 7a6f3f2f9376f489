-- How many nodes a cluster has at most, and how often the disks of vaults failed.
use Rattle.std.proofs.Common.{◌≡◌, ◌⊎◌, inl, inr, ℕ, ◌+◌, ◌*◌, ◌≤◌, ◌<◌, List, [], ◌∷◌, length, get_or, map, Some, arith}
use Rattle.std.specs.Prelude.{slice_get}
use Rattle.std.proofs.lemmas.Option.{slice_get-get_or}
use Rattle.gate_vault.specs.declared.vault.Vault.{Vault}
use Rattle.gate_vault.specs.Vault.{disk_of}
use Rattle.spec_base.specs.declared.disk.Disk.{Ghosts as DiskRules}
use Rattle.msg_wire.specs.declared.config.Config.{Config}
use Rattle.msg_wire.specs.Names.{NodeId}
use Rattle.msg_wire.specs.Names.nodes
use Rattle.msg_wire.specs.Names.sides
use Rattle.msg_wire.specs.Nodes.{nodes_of}
use Rattle.msg_wire.specs.Valid.{IsNodeOf, IsValidConfig}
use Rattle.node_order.specs.Places.{rank_of}
use Rattle.node_order.proofs.NodePlaces.{place_only}
use Rattle.cluster_seats.specs.Seatings.{AreCounted}

at_most_five : (n : ℕ) → (n ≡ 1) ⊎ (n ≡ 3) ⊎ (n ≡ 5) → n ≤ 5
at_most_five n (inl one) = omega (arith, one)
at_most_five n (inr (inl three)) = omega (arith, three)
at_most_five n (inr (inr five)) = omega (arith, five)

rank_below : (c : Config) (node : NodeId) → IsValidConfig c → IsNodeOf c node → rank_of c node < 27
rank_below c (nodes.Seq n) valid here = omega (arith, here, at_most_five c.seqs valid.seqs)
rank_below c (nodes.Shard n sides.Primary) valid here = omega (arith, here, at_most_five c.seqs valid.seqs, valid.most_shards)
rank_below c (nodes.Shard n sides.Backup) valid here = omega (arith, here, at_most_five c.seqs valid.seqs, valid.most_shards)
rank_below c (nodes.Client n) valid here = omega (arith, here, at_most_five c.seqs valid.seqs, valid.most_shards, valid.most_clients)
rank_below c (nodes.Consumer n) valid here =
    omega (arith, here, at_most_five c.seqs valid.seqs, valid.most_shards, valid.most_clients, valid.most_consumers)

few_or_many : (n : ℕ) → (n ≤ 32) ⊎ (32 < n)
few_or_many n = grind arith

few_if : (c : Config) → IsValidConfig c → (length (nodes_of c) ≤ 32) ⊎ (32 < length (nodes_of c)) → length (nodes_of c) ≤ 32
few_if c valid (inl few) = few
few_if c valid (inr many) =
    let node = get_or (nodes_of c) 32 (nodes.Seq 0) in
    let there : slice_get (nodes_of c) 32 ≡ Some node = slice_get-get_or (nodes_of c) 32 (nodes.Seq 0) many in
    let place = place_only c 32 node there in
    let below = rank_below c node valid place.1 in
    absurd (omega (arith, place.0, below))

pub few_nodes : (c : Config) → IsValidConfig c → length (nodes_of c) ≤ 32
few_nodes c valid = few_if c valid (few_or_many (length (nodes_of c)))

-- how often the disks failed so far
abbrev pub own_counts : {D : Type 0} → DiskRules D → List (Vault D) → List ℕ
own_counts disk = map (λ vault. disk.faults (disk_of vault))

pub own_counted : {D : Type 0} (disk : DiskRules D) (vaults : List (Vault D)) → AreCounted disk (own_counts disk vaults) vaults
own_counted disk [] = tt
own_counted disk (v ∷ vaults) = (omega arith, own_counted disk vaults)
