-- The cluster of a plan that tests begin.
use Rattle.std.specs.Prelude.{◌≡◌, [], ◌∷◌}
use Rattle.msg_wire.specs.declared.config.Config.{Config}
use Rattle.msg_wire.specs.Valid.{IsValidConfig, node_count}

-- a valid cluster of six nodes, two of them clients
pub record IsSmall (c : Config) : Type 0 where
  pub valid : IsValidConfig c
  pub homes : c.homes ≡ 0 ∷ 0 ∷ []
  pub nodes : node_count c ≡ 6
