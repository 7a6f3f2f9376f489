use Rattle.std.proofs.Common.{List, [], ◌∷◌, ◌++◌, Result, Ok, Err, OnOk, sym, subst}
use Rattle.std.proofs.lemmas.List.{reverse-append}
use Rattle.msg_wire.specs.Steps.{AreValidMessages}
use Rattle.net_model.specs.Pasts.{past_of, sent}
use Rattle.runs.specs.Names.{Message, HistoryEntry}
use Rattle.report_text.proofs.tests.happen.Goals as goal

valid_both : (xs ys : List Message) → AreValidMessages xs → AreValidMessages ys → AreValidMessages (xs ++ ys)
valid_both [] ys h k = k
valid_both (x ∷ xs) ys h k = (h.0, valid_both xs ys h.1 k)

valid_more : (history : List HistoryEntry) (e : HistoryEntry) → AreValidMessages e.sends → AreValidMessages (sent (past_of history))
    → AreValidMessages (sent (past_of (history ++ e ∷ [])))
valid_more history e here earlier =
    subst (λ past. AreValidMessages (sent past)) (sym (reverse-append history (e ∷ []))) (valid_both (sent (past_of history)) e.sends earlier here)

on_ok : {T E P Q : Type 0} (r : Result T E) → (P → Q) → OnOk r P → OnOk r Q
on_ok (Ok x) f h = f h
on_ok (Err e) f h = h

pub returns : goal.returns
returns c =
    on_ok c.push.result (λ e. subst (λ history. AreValidMessages (sent (past_of history))) (sym e) (valid_more c.args.history.now c.args.entry c.requires.sends c.requires.earlier)) c.push.ensures.ok
