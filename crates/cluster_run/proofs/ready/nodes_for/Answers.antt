use Rattle.std.proofs.Common.{◌≤◌, length, subst, sym}
use Rattle.std.specs.List.{AllByRecursion}
use Rattle.msg_wire.specs.Valid.{IsNodeOf}
use Rattle.node_order.proofs.NodePlaces.{nodes_within}
use Rattle.cluster_seats.proofs.Counts.{few_nodes}
use Rattle.cluster_run.proofs.ready.nodes_for.Goals as goal

pub blanks-requires-clause-nodes : goal.blanks-requires-clause-nodes
blanks-requires-clause-nodes c = subst (AllByRecursion (IsNodeOf c.args.plan.now.cfg)) (sym c.requires.names) (nodes_within c.args.plan.now.cfg)

pub blanks-requires-clause-few : goal.blanks-requires-clause-few
blanks-requires-clause-few c = subst (λ l. length l ≤ 32) (sym c.requires.names) (few_nodes c.args.plan.now.cfg c.requires.valid.cfg)
