use Rattle.std.proofs.Common.{◌++◌}
use Rattle.majority.specs.Slot.{fresh_slot, slot_run}
use Rattle.majority.specs.Agreement.{bars_of}
use Rattle.majority.proofs.Chosen.{OneChosen, ChosenIsCarried}
use Rattle.majority.proofs.Schedules.{IsSound_fresh, IsSound_run}
use Rattle.majority.proofs.Decided.{KeepsVotes_run, IsChosenAt_kept}
use Rattle.majority.proofs.laws.agreement.Goals as goal

pub returns-clause-equal : goal.returns-clause-equal
returns-clause-equal g c = λ n early late v w p q.
    let slot = slot_run n (early ++ late) fresh_slot in
    let sound = IsSound_run n (early ++ late) fresh_slot (IsSound_fresh n) in
    let kept = IsChosenAt_kept n (slot_run n early fresh_slot).votes slot.votes p.0 v (KeepsVotes_run n early late fresh_slot) p.1 in
    OneChosen n slot.votes (bars_of slot.acceptors) sound.agreed.one_vote sound.agreed.owners sound.agreed.safe v w (p.0, kept) q

pub returns-clause-carried : goal.returns-clause-carried
returns-clause-carried g c = λ n early late ballot later replica v w p vote order.
    let slot = slot_run n (early ++ late) fresh_slot in
    let sound = IsSound_run n (early ++ late) fresh_slot (IsSound_fresh n) in
    let kept = IsChosenAt_kept n (slot_run n early fresh_slot).votes slot.votes ballot v (KeepsVotes_run n early late fresh_slot) p in
    ChosenIsCarried n slot.votes (bars_of slot.acceptors) sound.agreed.one_vote sound.agreed.owners sound.agreed.safe ballot later replica v w kept vote order
