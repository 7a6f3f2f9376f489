use Rattle.std.proofs.Common.{◌≡◌, ◌≤◌, ◌∙◌, arith, length, refl, subst, sym}
use Rattle.std.specs.List.{AllByRecursion}
use Rattle.msg_wire.specs.Nodes.{nodes_of}
use Rattle.msg_wire.specs.Valid.{IsNodeOf}
use Rattle.node_order.proofs.NodePlaces.{nodes_within}
use Rattle.spec_base.specs.contracts.mem_disk.MemDiskDisk.TheImpl.{ghosts as in_memory}
use Rattle.cluster_seats.proofs.Begun.{linked_as}
use Rattle.cluster_seats.proofs.Counts.{few_nodes, own_counted, own_counts}
use Rattle.cluster_seats.proofs.toys.toys.Goals as goal

pub blanks-requires-clause-nodes : goal.blanks-requires-clause-nodes
blanks-requires-clause-nodes c =
    let cfg = c.in_ok-cfg.cfg in
    subst (AllByRecursion (IsNodeOf cfg)) (sym (c.as_slice.ensures.value ∙ c.in_ok-nodes.ensures)) (nodes_within cfg)

pub blanks-requires-clause-few : goal.blanks-requires-clause-few
blanks-requires-clause-few c =
    let cfg = c.in_ok-cfg.cfg in
    subst (λ l. length l ≤ 32) (sym (c.as_slice.ensures.value ∙ c.in_ok-nodes.ensures)) (few_nodes cfg c.in_ok-cfg.ensures.valid)

pub returns : goal.returns
returns c =
    let nodes = c.as_slice.result.now in
    let vaults = c.in_ok-vaults.vaults.items in
    let count : c.len-count.result ≡ length nodes = omega (arith, c.len-count.ensures, c.as_slice.ensures.len) in (
      c.in_ok-cfg.cfg,
      nodes,
      own_counts in_memory vaults,
      c.seat_all.ensures.sit c.in_ok-cfg.cfg 1 nodes (own_counts in_memory vaults) (record {
        are_blanks = c.in_ok-blanks.ensures;
        empty = c.in_ok-vaults.ensures.empty;
        linked = linked_as count refl refl c.in_ok-outs.ensures.linked;
        unsent = c.in_ok-outs.ensures.unsent;
      }) (own_counted in_memory vaults),
    )
