use Rattle.std.proofs.Common.{◌≡◌, List, ◌∷◌, [], ◌++◌, sym, subst, Result, Ok, Err, OnOk, OnErr}
use Rattle.quota_table.specs.declared.errors.OutOfMemory.{OutOfMemory}
use Rattle.net_model.specs.declared.journal.Stamped.{Stamped}
use Rattle.net_model.specs.Journals.{OwnSteps, IsJournal, GoesOn}
use Rattle.net_model.proofs.Journals.{journal_more}
use Rattle.net_model.proofs.journal.Journal.push.Goals as goal

-- the step is there, or the steps are as before
after : (j : OwnSteps) (x : Stamped) (steps : List Stamped) (r : Result (Unit {0}) OutOfMemory) → OnOk r (steps ≡ j.steps ++ x ∷ [])
    → OnErr r (steps ≡ j.steps) → IsJournal j → GoesOn j x
    → IsJournal (record j { steps = steps })
after j x steps (Ok done) ok err is on = subst (λ l. IsJournal (record j { steps = l })) (sym ok) (journal_more j x is on)
after j x steps (Err error) ok err is on = subst (λ l. IsJournal (record j { steps = l })) (sym err) is

pub invariant_of-self : goal.invariant_of-self
invariant_of-self c =
    let j : OwnSteps = record { node = c.self.inside.node; steps = c.self.inside.steps } in
    after j c.args.step c.push.new.self c.push.result c.push.ensures.ok c.push.ensures.err c.self.invariant
    (subst (λ k. GoesOn k c.args.step) (sym c.self.view_is) c.requires)
