use Rattle.std.proofs.Common.{◌≤◌, List, ap, subst, arith}
use mathlib.Core.List.{IsPrefix}
use Rattle.view_cell.specs.declared.look.Look.{Look}
use Rattle.view_cell.specs.Looks.{IsHistory}
use Rattle.view_cell.proofs.Rising.{older_begins, history_prefix}
use Rattle.view_cell.proofs.cell.take_later.Goals as goal

pub returns-then-last-found-clause-goes_on : goal.returns-then-last-found-clause-goes_on
returns-then-last-found-clause-goes_on c =
    let both = c.learn.new.self.log in
    let this : IsPrefix c.args.seen.now.log both = subst (λ (l : List Look). IsPrefix l both) (ap (λ s. s.log) c.again-both.ensures) c.learn.ensures.2 in
    let history : IsHistory both = c.learn.ensures.4.1.history in
    let le : c.args.last.now.ops ≤ c.args.found.now.look.ops = omega arith in
    rw (c.again.ensures) (older_begins c.args.seen.now.log c.args.found.now.seen.log both c.args.last.now c.args.found.now.look history this c.learn.ensures.3 c.requires.newest c.args.found.now.newest le)

pub returns-then-last-found-clause-history : goal.returns-then-last-found-clause-history
returns-then-last-found-clause-history c =
    let both = c.learn.new.self.log in
    let history : IsHistory both = c.learn.ensures.4.1.history in
    rw (c.again.ensures) (history_prefix c.args.found.now.seen.log both c.args.found.now.look c.learn.ensures.3 c.args.found.now.newest history)

pub returns-clause-found : goal.returns-clause-found
returns-clause-found c =
    let both = c.learn.new.self.log in
    let this : IsPrefix c.args.seen.now.log both = subst (λ (l : List Look). IsPrefix l both) (ap (λ s. s.log) c.again-both.ensures) c.learn.ensures.2 in
    let history : IsHistory both = c.learn.ensures.4.1.history in
    let le : c.args.found.now.look.ops ≤ c.args.last.now.ops = omega arith in
    older_begins c.args.found.now.seen.log c.args.seen.now.log both c.args.found.now.look c.args.last.now history c.learn.ensures.3 this c.args.found.now.newest c.requires.newest le
