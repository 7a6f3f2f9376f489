use Rattle.script_text.specs.Lines.{left_of, end_of}
use Rattle.script_text.proofs.ScriptLemmas.{head_valid, head_rest}
use Rattle.script_text.proofs.script.read_head.Goals as goal

pub returns-clause-valid : goal.returns-clause-valid
returns-clause-valid c =
    head_valid c.args.word.now (end_of c.args.lines.now) (left_of c.args.lines.now) (left_of c.six_lines.new.lines) c.six_lines.result c.six_lines.ensures.head

pub returns-clause-rest : goal.returns-clause-rest
returns-clause-rest c =
    head_rest c.args.word.now (end_of c.args.lines.now) (left_of c.args.lines.now) (left_of c.six_lines.new.lines) c.six_lines.result c.six_lines.ensures.head
