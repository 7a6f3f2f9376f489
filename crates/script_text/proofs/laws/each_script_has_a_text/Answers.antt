use Rattle.script_text.proofs.PlainScripts.{plain_script}
use Rattle.script_text.proofs.laws.each_script_has_a_text.Goals as goal

pub returns : goal.returns
returns c = plain_script
