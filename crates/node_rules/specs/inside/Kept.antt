-- A base as it is kept.
use Rattle.std.specs.Prelude.{◌≡◌}
use Rattle.node_rules.specs.declared.base.NodeBase.TheInside.{Inside}
use Rattle.node_rules.specs.Bases.{Base, first_window}
use Rattle.node_rules.specs.Sound.{IsBase}

-- the known entries are seen as their list
abbrev pub base_of : Inside → Base
base_of i = record { cfg = i.cfg; me = i.me; known = i.known.entries; seen = i.seen; ticks = i.ticks }

-- what they agree on is told from the cluster's first window
pub record IsBaseInside (i : Inside) : Type 0 where
  pub first : i.known.first ≡ first_window i.cfg
  pub base : IsBase (base_of i)
