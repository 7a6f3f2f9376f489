use Rattle.msg_wire.specs.Nodes.{nodes_of}
use Rattle.cluster_seats.proofs.Counts.{own_counted}
use Rattle.cluster_run.specs.Beginning.{counts_of}
use Rattle.cluster_run.proofs.seating.seat.Goals as goal

pub returns : goal.returns
returns g c =
    let cfg = c.args.plan.now.cfg in
    c.seat_all.ensures.sit cfg c.args.plan.now.seed (nodes_of cfg) (counts_of g.D.Disk c.args.vaults.items) (record {
      are_blanks = c.requires.nodes.are_blanks;
      empty = c.requires.empty;
      linked = c.requires.nodes.linked;
      unsent = c.requires.nodes.unsent;
    }) (own_counted g.D.Disk c.args.vaults.items)
