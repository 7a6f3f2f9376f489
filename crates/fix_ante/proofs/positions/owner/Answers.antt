use Rattle.std.proofs.Common.{◌≡◌, ◌+◌, ◌-◌, ◌/◌, ◌≤◌, ◌<◌, Some, ◌∙◌, sym, inr, subst, arith}
use Rattle.std.specs.Option.{IsSome, IfSome}
use Rattle.fix_ante.specs.declared.spots.Owner.{Owner}
use Rattle.fix_ante.specs.Windows.{width_of, end_of}
use Rattle.fix_ante.specs.Layout.{place_of, owner_of}
use Rattle.fix_ante.proofs.PositionLemmas.{owner_of_past, end_of_round, owner_of_outside, owner_of_within, owner_of_some, place_of_owner_of}
use Rattle.fix_ante.proofs.OwnerLemmas.{owner_of_limits}
use Rattle.fix_ante.proofs.positions.owner.Goals as goal

pub returns-then-round-from-clause-owner : goal.returns-then-round-from-clause-owner
returns-then-round-from-clause-owner c =
    let w = c.args.window.now in
    let ahead = c.in_ok-ahead.ahead in
    let e = c.in_ok-ahead.ensures in
    let width : c.from-width.result ≡ width_of w = c.from-width.ensures ∙ c.width.ensures.width in
    let at : c.args.position ≡ w.base + ahead = omega (arith, e.0, e.1) in
    let past : w.rounds ≤ ahead / c.from-width.result = omega arith in
    sym (owner_of_outside w c.args.position (inr (owner_of_past w ahead c.args.position at (rw width at past))))

found : (c : goal.After-owner_in)
    → (c.args.window.now.base ≤ c.args.position) × (c.args.position < end_of c.args.window.now) × (owner_of c.args.window.now c.args.position ≡ c.owner_in.result)
found c =
    let w = c.args.window.now in
    let ahead = c.in_ok-ahead.ahead in
    let e = c.in_ok-ahead.ensures in
    let width : c.from-width.result ≡ width_of w = c.from-width.ensures ∙ c.width.ensures.width in
    let at : c.args.position ≡ w.base + ahead = omega (arith, e.0, e.1) in
    let is : ahead ≡ c.args.position - w.base = omega arith in
    let from : w.base ≤ c.args.position = omega arith in
    let some : 0 < width_of w = omega (arith, c.width.ensures.some) in
    let below : ahead / c.from-width.result < w.rounds = omega arith in
    let within = end_of_round w ahead c.args.position at some (rw width at below) in
    (from, within, owner_of_within w c.args.position from within ∙ sym (rw (width, is) at c.owner_in.ensures))

pub returns-clause-owner : goal.returns-clause-owner
returns-clause-owner c = sym (found c).2

pub returns-clause-within : goal.returns-clause-within
returns-clause-within c =
    let w = c.args.window.now in
    let at = found c in
    (λ _. (at.0, at.1), λ _. subst IsSome at.2 (owner_of_some w c.args.position at.0 at.1))

pub returns-clause-place : goal.returns-clause-place
returns-clause-place c =
    let w = c.args.window.now in
    subst (λ o. IfSome o (λ (o : Owner). place_of w o.shard o.local ≡ Some c.args.position)) (found c).2 (place_of_owner_of w c.args.position c.base.ensures.valid)

pub returns-clause-limits : goal.returns-clause-limits
returns-clause-limits c =
    let w = c.args.window.now in
    subst (λ o. IfSome o (λ (o : Owner). (o.shard < 6) × (o.local ≤ c.args.position))) (found c).2 (owner_of_limits w c.args.position c.base.ensures.valid)
