use Rattle.std.proofs.Common.{rules}
use Rattle.left_right.specs.Sides.{view}
use Rattle.view_cell.proofs.Rising.{all_stand, history_up_to}
use Rattle.view_cell.proofs.pass.ReaderPass.learn.Goals as goal

pub invariant_of-self : goal.invariant_of-self
invariant_of-self c =
    (search rules, c.take_later.ensures.newest, c.take_later.ensures.history, all_stand c.self.inside.seen.log c.take_later.new.seen.log (view c.self.inside.reader.place).handed c.take_later.ensures.goes_on c.self.invariant.3)

pub returns-clause-up_to_the_told : goal.returns-clause-up_to_the_told
returns-clause-up_to_the_told c =
    rw (← c.told.view_is) (λ x. history_up_to c.take_later.new.seen.log c.told.inside.shown.seen.log c.told.inside.shown.look x c.take_later.ensures.history c.take_later.ensures.found c.told.inside.shown.newest)

pub returns-clause-handed : goal.returns-clause-handed
returns-clause-handed c = all_stand c.self.inside.seen.log c.take_later.new.seen.log (view c.self.inside.reader.place).handed c.take_later.ensures.goes_on c.self.invariant.3
