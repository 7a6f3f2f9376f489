use Rattle.std.proofs.Common.{◌<◌, length, subst, arith}
use Rattle.cut_core.specs.Soundness.{IsSound}
use Rattle.cut_core.proofs.Standing.{rising_ends, current_found, window_found, past_position}
use Rattle.cut_core.proofs.agreed.Agreed.window_at.Goals as goal

pub returns-then-position-covered-clause-window : goal.returns-then-position-covered-clause-window
returns-then-position-covered-clause-window c = past_position c.self.inside c.args.self.now c.args.position c.self.view_is (omega (arith, c.covered.ensures.covered))

pub returns-then-position-covered-clause-sound : goal.returns-then-position-covered-clause-sound
returns-then-position-covered-clause-sound c = subst IsSound c.self.view_is c.self.invariant.sound

pub count_to_position-over-requires : goal.count_to_position-over-requires
count_to_position-over-requires c = rising_ends c.self.inside c.deref.result.now c.self.invariant c.deref.ensures.value

pub returns-clause-window : goal.returns-clause-window
returns-clause-window c =
    let within : c.args.position < length c.args.self.now.covered = omega (arith, c.covered.ensures.covered) in
    (within, window_found c.self.inside c.args.self.now c.args.position c.count_to_position-over.result c.deref.result.now c.deref-2.result.now c.window_from.result.now c.self.view_is c.self.invariant within c.deref.ensures.value c.deref-2.ensures.value c.count_to_position-over.ensures.bound c.count_to_position-over.ensures.point c.window_from.ensures)

pub returns-then-position-base-clause-window : goal.returns-then-position-base-clause-window
returns-then-position-base-clause-window c =
    let within : c.args.position < length c.args.self.now.covered = omega (arith, c.covered.ensures.covered) in
    (within, current_found c.self.inside c.args.self.now c.args.position c.self.view_is c.self.invariant within (omega (arith, c.base.ensures.base)))
