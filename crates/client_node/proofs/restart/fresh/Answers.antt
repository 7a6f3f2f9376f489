use Rattle.client_node.proofs.Homes.{home_small}
use Rattle.client_node.proofs.restart.fresh.Goals as goal

pub new-requires-2 : goal.new-requires-2
new-requires-2 c = rw c.as_slice.ensures (home_small c.args.cfg.now c.from.result c.requires.valid)
