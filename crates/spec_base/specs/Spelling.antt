-- Names of nodes as text.
use Rattle.std.specs.Prelude.{ℕ, ◌+◌, ◌≤◌, List, [], ◌∷◌, ◌++◌, codes}
use Rattle.spec_base.specs.declared.node.NodeId.{NodeId}
use Rattle.spec_base.specs.declared.node.NodeId.TheVariants.{Seq, Shard, Client, Consumer}
use Rattle.spec_base.specs.declared.node.Side.TheVariants.{Primary, Backup}

-- a node within the limits of a cluster
abbrev pub IsValidNode : NodeId → Type 0
IsValidNode (Seq number) = number ≤ 4
IsValidNode (Shard number side) = number ≤ 5
IsValidNode (Client number) = number ≤ 5
IsValidNode (Consumer number) = number ≤ 3

-- a number below ten, as text
abbrev pub digit : ℕ → List ℕ
digit n = (48 + n) ∷ []

-- the name of a node: q0, s1p, s1b, c2, k0
abbrev pub node_name : NodeId → List ℕ
node_name (Seq number) = codes "q" ++ digit number
node_name (Shard number Primary) = codes "s" ++ digit number ++ codes "p"
node_name (Shard number Backup) = codes "s" ++ digit number ++ codes "b"
node_name (Client number) = codes "c" ++ digit number
node_name (Consumer number) = codes "k" ++ digit number
