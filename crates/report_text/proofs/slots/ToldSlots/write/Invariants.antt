use Rattle.std.proofs.Common.{◌≡◌, ◌++◌, map}
use Rattle.std.specs.List.{AllByRecursion}
use Rattle.std.specs.Vec.Iter.{into_iter_items}
use Rattle.cut_core.specs.Agreements.{agreement_from}
use Rattle.node_rules.specs.Nodes.{first_window}
use Rattle.report_text.specs.inside.Telling.{IsValidTold, told_lines}
use Rattle.report_text.proofs.slots.ToldSlots.write.Given as goal

abbrev pub invariant-loop-number : goal.invariant-loop-number
invariant-loop-number l = record {
  valid : AllByRecursion IsValidTold (map (λ e. (e.0, e.1.now)) (into_iter_items l.number-iterator));
  lines : l.text ++ told_lines l.agreed (map (λ e. (e.0, e.1.now)) (into_iter_items l.number-iterator)) ≡ l.fn.text ++ told_lines (agreement_from (first_window l.cfg)) l.fn.self;
}
