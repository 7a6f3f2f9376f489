use Rattle.script_text.proofs.ScriptLemmas.{script_found, script_only}
use Rattle.script_text.proofs.script.read_script.Goals as goal

pub returns-clause-found : goal.returns-clause-found
returns-clause-found c = script_found c.args.text.now c.whole_script.result c.whole_script.ensures.exact c.whole_script.ensures.numbers

pub returns-clause-only : goal.returns-clause-only
returns-clause-only c = script_only c.args.text.now c.whole_script.result c.whole_script.ensures.exact c.whole_script.ensures.numbers
