use Rattle.std.proofs.Common.{◌-◌, sym, ◌≡◌, Some, length, subst, List}
use Rattle.std.specs.List.{slice_get}
use Rattle.net_model.specs.declared.journal.Stamped.{Stamped}
use Rattle.net_model.proofs.Journals.{last_is}
use Rattle.net_model.proofs.journal.Journal.last_stamp.Goals as goal

pub returns : goal.returns
returns c =
    let last = c.in_ok-last.field-0.now in
    let there : slice_get c.args.self.now.steps (length c.args.self.now.steps - 1) ≡ Some last =
    subst (λ (l : List Stamped). slice_get l (length l - 1) ≡ Some last) c.steps.ensures.steps (sym c.in_ok-last.ensures.value) in
    sym (last_is c.args.self.now.steps last there)
