use Rattle.std.proofs.Common.{◌≡◌, take, ap, ◌∙◌, arith}
use Rattle.std.proofs.lemmas.List.{take_all}
use Rattle.fix_ante.specs.Windows.{spots_from, start_after}
use Rattle.fix_ante.proofs.Successors.{IsWindow_next_of}
use Rattle.fix_ante.proofs.window.next.Goals as goal

pub laid_out-requires : goal.laid_out-requires
laid_out-requires c =
    let w = c.args.window.now in
    let rows = c.args.table.now in
    let items = c.rows-row-items.result.now in
    let all : take c.loop-row.row-index items ≡ items = take_all c.loop-row.row-index items (omega arith) in
    let spots : c.loop-row.spots.items ≡ spots_from (start_after w.spots w.rounds) rows = c.loop-row.invariant ∙ ap (spots_from (start_after w.spots w.rounds)) (all ∙ c.rows-row-items.ensures.rows) in
    rw (c.end.ensures, spots)
    (IsWindow_next_of w c.args.number c.args.rounds rows c.rounds-covered.ensures.valid c.requires.end c.requires.some c.requires.most c.rows-row-items.ensures.valid)
