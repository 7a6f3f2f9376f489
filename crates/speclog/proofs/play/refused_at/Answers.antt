use Rattle.script_text.specs.Scripts.{lines_before}
use Rattle.speclog.proofs.Inputs.{lines_as_many}
use Rattle.speclog.proofs.Refusing.{accepted_before, refused_before}
use Rattle.speclog.proofs.play.refused_at.Goals as goal

pub play_inputs-requires-clause-lines : goal.play_inputs-requires-clause-lines
play_inputs-requires-clause-lines c =
    lines_as_many (lines_before c.args.line c.args.text.now) c.in-Ok.script.cfg c.in-Ok.script.inputs c.in-Ok.script.lines c.in-Ok.ensures

pub returns-in-Ok-play_inputs : goal.returns-in-Ok-play_inputs
returns-in-Ok-play_inputs c =
    let six = c.has_head_before.ensures.0 c.if-not-has_head_before.false in
    let script = c.in-Ok.script in
    accepted_before c.args.text.now c.args.line c.args.kind script.cfg script.inputs script.lines c.requires.refused six c.in-Ok.ensures c.in-Ok-play_inputs.ensures.accepted

pub returns-in-Ok : goal.returns-in-Ok
returns-in-Ok c =
    let six = c.has_head_before.ensures.0 c.if-not-has_head_before.false in
    let script = c.in-Ok.script in
    refused_before c.args.text.now c.args.line c.args.kind script.cfg script.inputs script.lines c.in-Err-play_inputs.fault c.requires.refused six c.in-Ok.ensures c.in-Err-play_inputs.ensures.refused
