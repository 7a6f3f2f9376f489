use Rattle.std.proofs.Common.{◌≡◌, take, ap, ◌∙◌, arith}
use Rattle.std.proofs.lemmas.List.{take_all}
use Rattle.fix_ante.specs.Windows.{spots_from}
use Rattle.fix_ante.proofs.WindowLemmas.{IsWindow_first_of}
use Rattle.fix_ante.proofs.window.first.Goals as goal

pub laid_out-requires : goal.laid_out-requires
laid_out-requires c =
    let rows = c.args.table.now in
    let all : take c.loop-row.row-index c.rows-row-items.result.now ≡ c.rows-row-items.result.now = take_all c.loop-row.row-index c.rows-row-items.result.now (omega arith) in
    let is : c.loop-row.spots.items ≡ spots_from (λ _. 0) rows = c.loop-row.invariant ∙ ap (spots_from (λ _. 0)) (all ∙ c.rows-row-items.ensures.rows) in
    rw is (IsWindow_first_of c.args.rounds rows c.requires.some c.requires.most c.rows-row-items.ensures.valid)
