-- Confirmed records are one log.
use Rattle.std.specs.Prelude.{◌≡◌, ℕ}
use Rattle.net_model.specs.Pasts.{Past}
use Rattle.runs.specs.Names.{Record}
use Rattle.runs.specs.Marks.{IsCounted, IsConfirmed, confirmed_positions}

-- no position has two records, over all nodes and restarts; each consumer confirms the positions 0, 1, 2 and so on
pub record IsOneLog (past : Past) : Type 0 where
  pub one_record : (position : ℕ) (rec other : Record) → IsConfirmed past position rec → IsConfirmed past position other → rec ≡ other
  pub no_gap : (consumer : ℕ) → IsCounted (confirmed_positions consumer past)
