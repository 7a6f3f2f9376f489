use Rattle.std.proofs.Common.{Option, Some, None, Bor, sym, ap, ◌∙◌}
use Rattle.std.specs.Option.{option_copied}
use Rattle.fix_ante.specs.Windows.{Window}
use Rattle.lease_window.proofs.KnownLemmas.{owner_current, owner_granted}
use Rattle.lease_window.proofs.known.find_owner.Goals as goal

abbrev copied : Option (Bor Window) → Option Window
copied o = option_copied o

pub returns-in-Some-owner-clause-owner : goal.returns-in-Some-owner-clause-owner
returns-in-Some-owner-clause-owner c =
    sym (owner_current c.args.agreed.now c.current.result.now c.args.position c.in-Some-owner.current c.current.ensures.sound
    (sym c.locate.ensures.owner ∙ c.in_default.is) c.current.ensures.window (sym c.owner.ensures.owner ∙ c.in-Some-owner.is))

pub returns-in_err-granted-clause-owner : goal.returns-in_err-granted-clause-owner
returns-in_err-granted-clause-owner c =
    let granted = owner_granted c.args.agreed.now c.current.result.now None c.args.position c.current.ensures.sound
    (sym c.locate.ensures.owner ∙ c.in_default.is) c.current.ensures.window (sym c.owner.ensures.owner ∙ c.in_default-owner.is)
    (sym c.granted.ensures.window ∙ ap copied c.in_err-granted.was) in
    c.from_residual.ensures ∙ sym granted

pub returns-clause-owner : goal.returns-clause-owner
returns-clause-owner c =
    let granted = owner_granted c.args.agreed.now c.current.result.now (Some c.in_ok-granted.field-0.now) c.args.position c.current.ensures.sound
    (sym c.locate.ensures.owner ∙ c.in_default.is) c.current.ensures.window (sym c.owner.ensures.owner ∙ c.in_default-owner.is)
    (sym c.granted.ensures.window ∙ ap copied c.in_ok-granted.was) in
    c.owner-2.ensures.owner ∙ sym granted
