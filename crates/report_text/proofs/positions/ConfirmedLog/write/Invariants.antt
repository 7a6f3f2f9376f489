use Rattle.std.proofs.Common.{◌≡◌, ◌++◌, map}
use Rattle.std.specs.Vec.Iter.{into_iter_items}
use Rattle.report_text.specs.inside.Confirming.{confirmed_lines}
use Rattle.report_text.proofs.positions.ConfirmedLog.write.Given as goal

abbrev pub invariant-loop-position : goal.invariant-loop-position
invariant-loop-position l = l.text ++ confirmed_lines (map (λ e. (e.0, (e.1.first.now, e.1.differs))) (into_iter_items l.position-iterator)) ≡ l.fn.text ++ confirmed_lines l.fn.self
