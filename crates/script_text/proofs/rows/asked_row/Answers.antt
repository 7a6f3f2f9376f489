use Rattle.std.proofs.Common.{sym, ◌∙◌}
use Rattle.script_text.proofs.RowLemmas.{asked_colon, asked_none}
use Rattle.script_text.proofs.rows.asked_row.Goals as goal

pub returns : goal.returns
returns c =
    c.asked.ensures ∙ sym (asked_colon c.args.shards c.args.word.now c.in-Some.colon (sym c.in-Some.ensures))

pub returns-in_default : goal.returns-in_default
returns-in_default c = sym (asked_none c.args.shards c.args.word.now (sym c.in_default.ensures))
