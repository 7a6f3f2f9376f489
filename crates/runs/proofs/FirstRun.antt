-- The first steps of specs/FirstSteps.antt follow the step tables, one after the other.
use Rattle.std.proofs.Common.{refl, arith}
use Rattle.node_rules.specs.Examples.{single}
use Rattle.client_node.specs.States.{reach}
use Rattle.runs.specs.Runs.{IsRun}
use Rattle.runs.specs.FirstSteps.{steps}

pub steps_are_a_run : IsRun single steps
unfolding reach
steps_are_a_run = (
  record { within = omega arith; valid = (omega arith, omega arith); taken_there = refl; comes = tt; sends = refl; shows = refl },
  (
    record { within = omega arith; valid = record { from = omega arith; to = omega arith; what = omega arith }; taken_there = tt; comes = (refl, (3, omega arith, refl)); sends = refl; shows = refl },
    (
      record { within = omega arith; valid = record { from = omega arith; to = omega arith; what = (omega arith, (omega arith, omega arith, omega arith)) }; taken_there = tt; comes = (refl, (1, omega arith, refl)); sends = refl; shows = refl },
      (
        record { within = omega arith; valid = record { from = omega arith; to = omega arith; what = (omega arith, omega arith, omega arith) }; taken_there = tt; comes = (refl, (0, omega arith, refl)); sends = refl; shows = refl },
        (
          record { within = omega arith; valid = (omega arith, omega arith); taken_there = refl; comes = tt; sends = refl; shows = refl },
          tt,
        ),
      ),
    ),
  ),
)
