-- The other sequencers and the other nodes are nodes of the cluster.
use Rattle.std.proofs.Common.{◌≡◌, ℕ, zero, suc, ◌+◌, ◌≤◌, ◌++◌, length, refl, sym, subst, arith}
use Rattle.std.specs.List.{AllByRecursion, range_with_len, flat_map}
use Rattle.spec_base.specs.Spelling.{IsValidNode}
use Rattle.msg_wire.specs.Nodes.{sequencers_of, replicas_of, all_replicas_of, clients_of, consumers_of, nodes_of, without_node}
use Rattle.msg_wire.specs.Valid.{IsValidConfig, IsNodeOf}
use Rattle.node_rules.specs.Names.{NodeId, Config}
use Rattle.node_rules.specs.Names.nodes
use Rattle.node_rules.proofs.Lists.{all_append, all_weaken, all_filter}
use Rattle.node_rules.proofs.Limits.{node_valid}
use Rattle.node_rules.proofs.Within.{range_within, sequencers_within, consumers_within}

pairs_within : (c : Config) (from count : ℕ) → from + count ≤ c.shards → AllByRecursion (IsNodeOf c) (flat_map replicas_of (range_with_len from count))
pairs_within c from zero few = tt
pairs_within c from (suc count) few = (omega arith, (omega arith, pairs_within c (from + 1) count (omega arith)))

nodes_within : (c : Config) → AllByRecursion (IsNodeOf c) (nodes_of c)
nodes_within c =
    all_append (IsNodeOf c) (sequencers_of c) (all_replicas_of c ++ (clients_of c ++ consumers_of c)) (sequencers_within c c refl)
    (all_append (IsNodeOf c) (all_replicas_of c) (clients_of c ++ consumers_of c) (pairs_within c 0 c.shards (omega arith))
    (all_append (IsNodeOf c) (clients_of c) (consumers_of c) (range_within c nodes.Client 0 (length c.homes) (λ i below. omega (arith, below))) (consumers_within c c refl)))

pub other_sequencers_within : (c d : Config) (me : NodeId) → d ≡ c → AllByRecursion (IsNodeOf c) (without_node me (sequencers_of d))
other_sequencers_within c d me same = all_filter (IsNodeOf c) _ (sequencers_of d) (sequencers_within c d same)

pub other_nodes_within : (c d : Config) (me : NodeId) → d ≡ c → AllByRecursion (IsNodeOf c) (without_node me (nodes_of d))
other_nodes_within c d me same =
    all_filter (IsNodeOf c) _ (nodes_of d) (subst (λ (e : Config). AllByRecursion (IsNodeOf c) (nodes_of e)) (sym same) (nodes_within c))

pub valid_other_sequencers : (c : Config) (me : NodeId) → IsValidConfig c → AllByRecursion IsValidNode (without_node me (sequencers_of c))
valid_other_sequencers c me valid = all_weaken (IsNodeOf c) IsValidNode _ (λ node. node_valid c node valid) (other_sequencers_within c c me refl)

pub valid_other_nodes : (c : Config) (me : NodeId) → IsValidConfig c → AllByRecursion IsValidNode (without_node me (nodes_of c))
valid_other_nodes c me valid = all_weaken (IsNodeOf c) IsValidNode _ (λ node. node_valid c node valid) (other_nodes_within c c me refl)
