use Rattle.std.proofs.Common.{sym}
use Rattle.script_text.proofs.LineLemmas.{lines_newline, lines_end}
use Rattle.script_text.proofs.lines.split_line.Goals as goal

pub returns-in-Some-clause-first : goal.returns-in-Some-clause-first
returns-in-Some-clause-first c = lines_newline c.args.text.now _ c.in-Some.end (sym c.in-Some.ensures) c.without_return.ensures

pub returns-in-None-clause-first : goal.returns-in-None-clause-first
returns-in-None-clause-first c = lines_end c.args.text.now c.requires (sym c.in-None.ensures)
