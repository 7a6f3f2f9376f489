use Rattle.std.proofs.Common.{◌≡◌, ◌+◌, Some, rules}
use Rattle.fix_ante.specs.Layout.{place_of}
use Rattle.fix_ante.proofs.PositionLemmas.{place_of_is, owner_of_place}
use Rattle.fix_ante.proofs.positions.place.Goals as goal

pub returns-in_err-index-clause-place : goal.returns-in_err-index-clause-place
returns-in_err-index-clause-place c =
    let w = c.args.window.now in
    rw (place_of_is w c.args.shard c.args.local c.base-base.ensures.valid) (search rules)

placed : (c : goal.In_ok-index) → place_of c.args.window.now c.args.shard c.args.local ≡ Some (c.base-base.result + c.in_ok-index.index)
placed c =
    let w = c.args.window.now in
    rw (place_of_is w c.args.shard c.args.local c.base-base.ensures.valid) (search rules)

pub returns-clause-place : goal.returns-clause-place
returns-clause-place c = let at = placed c in cc

pub returns-clause-within : goal.returns-clause-within
returns-clause-within c =
    let found = owner_of_place c.args.window.now c.args.shard c.args.local _ c.base-base.ensures.valid (placed c) in
    (found.0, found.1)

pub returns-clause-owner : goal.returns-clause-owner
returns-clause-owner c = (owner_of_place c.args.window.now c.args.shard c.args.local _ c.base-base.ensures.valid (placed c)).2
