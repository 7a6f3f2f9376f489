use Rattle.std.proofs.Common.{sym, ◌∙◌}
use Rattle.script_text.specs.Lines.{left_of}
use Rattle.script_text.proofs.PlainLines.{lines_printable}
use Rattle.script_text.proofs.lines.Lines.are_plain.Goals as goal

pub returns : goal.returns
unfolding left_of
returns c = rw (← c.self.view_is) (λ plain. lines_printable c.self.inside.number c.self.inside.rest.now (sym c.is_plain.ensures ∙ plain))
