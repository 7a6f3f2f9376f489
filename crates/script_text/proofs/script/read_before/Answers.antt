use Rattle.script_text.proofs.BeforeLemmas.{before_taken, before_spelled}
use Rattle.script_text.proofs.script.read_before.Goals as goal

pub returns-in-Ok : goal.returns-in-Ok
returns-in-Ok c =
    before_spelled c.args.text.now c.text_before.result.now c.args.line c.in-Ok.script.cfg c.in-Ok.script.inputs c.in-Ok.script.lines c.text_before.ensures.lines c.in-Ok.ensures.found

pub unreachable-requires : goal.unreachable-requires
unreachable-requires c =
    let taken = before_taken c.args.text.now c.text_before.result.now c.args.line c.text_before.ensures.lines c.requires.refused c.requires.head in
    let refused = rw c.in-Err-At.field-0-is at c.in-Err-At.ensures.exact in
    cc
