-- What holds of every node's base.
use Rattle.std.specs.Prelude.{◌≤◌, ◌^◌, length}
use Rattle.std.specs.List.{AllByRecursion}
use Rattle.quota_table.specs.Entries.{IsValidEntry}
use Rattle.msg_wire.specs.Valid.{IsValidConfig, IsNodeOf}
use Rattle.node_rules.specs.Bases.{Base}

-- the node is one of a cluster, it knows at most 1,000,000 entries, each of them valid, and its counts are within their limits
pub record IsBase (b : Base) : Type 0 where
  pub cfg : IsValidConfig b.cfg
  pub me : IsNodeOf b.cfg b.me
  pub entries : AllByRecursion IsValidEntry b.known
  pub few : length b.known ≤ 1000000
  pub seen : b.seen ≤ 1000000
  pub ticks : b.ticks ≤ 2 ^ 48
