use Rattle.std.proofs.Common.{Option, Some, None, Bor, sym, ap, ◌∙◌}
use Rattle.std.specs.Option.{option_copied}
use Rattle.fix_ante.specs.Windows.{Window}
use Rattle.lease_window.proofs.LeaseLemmas.{lease_covered, lease_current, lease_granted}
use Rattle.lease_window.proofs.known.find_lease.Goals as goal

abbrev copied : Option (Bor Window) → Option Window
copied o = option_copied o

pub returns-in-Some : goal.returns-in-Some
returns-in-Some c =
    sym (lease_covered c.args.agreed.now c.args.shard c.args.local c.in-Some.position c.in_ok-window.window c.requires.sound c.requires.numbers
    (sym c.place.ensures.place ∙ c.in-Some.is) (sym c.number_at.ensures ∙ c.in_ok-window.was))

pub returns-in-Some-lease_in : goal.returns-in-Some-lease_in
returns-in-Some-lease_in c =
    sym (lease_current c.args.agreed.now c.current.result.now c.args.shard c.args.local c.in-Some-lease_in.lease c.requires.sound c.requires.numbers
    (sym c.place.ensures.place ∙ c.in_default.is) c.current.ensures.window (sym c.lease_in.ensures ∙ c.in-Some-lease_in.is))

pub returns-in_err-granted : goal.returns-in_err-granted
returns-in_err-granted c =
    let granted = lease_granted c.args.agreed.now c.current.result.now None c.args.shard c.args.local c.requires.sound c.requires.numbers
    (sym c.place.ensures.place ∙ c.in_default.is) c.current.ensures.window (sym c.lease_in.ensures ∙ c.in_default-lease_in.is)
    (sym c.granted.ensures.window ∙ ap copied c.in_err-granted.was) in
    c.from_residual-in_err-granted.ensures ∙ sym granted

pub returns : goal.returns
returns c =
    let granted = lease_granted c.args.agreed.now c.current.result.now (Some c.in_ok-granted.field-0.now) c.args.shard c.args.local c.requires.sound c.requires.numbers
    (sym c.place.ensures.place ∙ c.in_default.is) c.current.ensures.window (sym c.lease_in.ensures ∙ c.in_default-lease_in.is)
    (sym c.granted.ensures.window ∙ ap copied c.in_ok-granted.was) in
    c.lease_in-2.ensures ∙ sym granted
