use Rattle.std.proofs.Common.{◌≡◌, ◌++◌, take}
use Rattle.std.specs.List.{flat_map}
use Rattle.report_text.specs.Consumers.{notice_line}
use Rattle.report_text.proofs.consumer_lines.put_notices.Given as goal

abbrev pub invariant-loop-first : goal.invariant-loop-first
invariant-loop-first l = l.text ≡ l.fn.text ++ flat_map (notice_line l.number) (take l.first-index l.notices)
