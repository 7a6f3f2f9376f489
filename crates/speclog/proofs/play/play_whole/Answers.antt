use Rattle.script_text.specs.Lines.{counted_lines}
use Rattle.speclog.proofs.Inputs.{lines_as_many}
use Rattle.speclog.proofs.play.play_whole.Goals as goal

pub play_script-requires-clause-lines : goal.play_script-requires-clause-lines
play_script-requires-clause-lines c =
    lines_as_many (counted_lines c.args.text.now) c.in-Ok.script.cfg c.in-Ok.script.inputs c.in-Ok.script.lines c.in-Ok.ensures.found
