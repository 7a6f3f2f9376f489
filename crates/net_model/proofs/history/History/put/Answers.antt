use Rattle.std.proofs.Common.{◌≡◌, List, ◌∷◌, [], ◌++◌, sym, ap, subst, ◌∙◌}
use Rattle.std.proofs.Common.{Result, Ok, Err, OnErr}
use Rattle.net_model.specs.inside.Kept.{IsWhole, entries_of, event_in}
use Rattle.net_model.specs.Names.{Event, HistoryEntry}
use Rattle.net_model.proofs.Growing.{KeepsEvent, event_kept, whole_put, entries_put}
use Rattle.net_model.proofs.history.History.put.Goals as goal

on_err : {T E P : Type 0} (r : Result T E) → P → OnErr r P
on_err (Ok x) p = tt
on_err (Err e) p = p

pub invariant_of-self-in_err-put : goal.invariant_of-self-in_err-put
invariant_of-self-in_err-put c =
    let kept = event_kept c.self.inside.columns c.keep.new.self c.args.event c.in_ok-taken.taken c.self.invariant c.in_ok-taken.ensures.ok c.in_ok-taken.ensures.taken in
    subst IsWhole (sym c.in_err-put.ensures.err) kept.whole

pub returns-in_err-put-clause-err : goal.returns-in_err-put-clause-err
returns-in_err-put-clause-err c =
    let kept = event_kept c.self.inside.columns c.keep.new.self c.args.event c.in_ok-taken.taken c.self.invariant c.in_ok-taken.ensures.ok c.in_ok-taken.ensures.taken in
    on_err c.from_residual-in_err-put.result (ap entries_of c.in_err-put.ensures.err ∙ kept.entries ∙ c.self.view_is)

pub invariant_of-self-2 : goal.invariant_of-self-2
invariant_of-self-2 c =
    let kept = event_kept c.self.inside.columns c.keep.new.self c.args.event c.in_ok-taken.taken c.self.invariant c.in_ok-taken.ensures.ok c.in_ok-taken.ensures.taken in
    whole_put c.keep.new.self c.put.new.self c.args.node c.in_ok-taken.taken c.args.sends.now c.args.marks.now kept.whole kept.taken_in c.in_ok-put.ensures.ok

pub returns-clause-ok : goal.returns-clause-ok
returns-clause-ok c =
    let kept = event_kept c.self.inside.columns c.keep.new.self c.args.event c.in_ok-taken.taken c.self.invariant c.in_ok-taken.ensures.ok c.in_ok-taken.ensures.taken in
    let last : Event → HistoryEntry = λ event. record { node = c.args.node; event = event; sends = c.args.sends.now; marks = c.args.marks.now } in
    entries_put c.keep.new.self c.put.new.self c.args.node c.in_ok-taken.taken c.args.sends.now c.args.marks.now kept.whole kept.taken_in c.in_ok-put.ensures.ok
    ∙ ap (λ event. entries_of c.keep.new.self ++ last event ∷ []) kept.event_is
    ∙ ap (λ history. history ++ last c.args.event ∷ []) (kept.entries ∙ c.self.view_is)
