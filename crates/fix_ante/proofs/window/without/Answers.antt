use Rattle.std.proofs.Common.{◌≡◌, arith}
use Rattle.std.proofs.lemmas.Grind.{common_steps}
use Rattle.fix_ante.specs.Windows.{spots_without}
use Rattle.fix_ante.proofs.Successors.{IsWindow_without_of}
use Rattle.fix_ante.proofs.window.without.Goals as goal

pub laid_out-requires : goal.laid_out-requires
laid_out-requires c =
    let w = c.args.window.now in
    let spots : c.loop-spot.spots.items ≡ spots_without w.spots c.args.covered c.args.shard = grind (arith, common_steps) in
    rw (c.end_after.ensures.end, c.rounds.ensures.rounds, spots)
    (IsWindow_without_of w c.args.number c.args.covered c.args.shard c.end_after.ensures.valid c.requires.end c.requires.another c.requires.covered)
