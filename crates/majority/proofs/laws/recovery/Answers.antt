use Rattle.std.proofs.Common.{option_map, ap}
use Rattle.majority.specs.Slot.{fresh_slot, slot_run}
use Rattle.majority.proofs.Schedules.{IsSound_fresh, IsSound_run}
use Rattle.majority.proofs.Telling.{greatest_at_chosen, slice_get_recovered}
use Rattle.majority.proofs.laws.recovery.Goals as goal

pub returns-clause-told : goal.returns-clause-told
returns-clause-told g c = λ n events place journals v chosen replicas most hold.
    let slot = slot_run n events fresh_slot in
    let sound = IsSound_run n events fresh_slot (IsSound_fresh n) in
    let greatest = greatest_at_chosen n slot.acceptors slot.votes slot.sent place journals v sound.agreed chosen replicas most hold in
    ap (option_map (λ vote. vote.1)) greatest.1

pub returns-clause-found : goal.returns-clause-found
returns-clause-found g c = λ n events place journals values v chosen replicas most hold recovered within.
    let slot = slot_run n events fresh_slot in
    let sound = IsSound_run n events fresh_slot (IsSound_fresh n) in
    let greatest = greatest_at_chosen n slot.acceptors slot.votes slot.sent place journals v sound.agreed chosen replicas most hold in
    slice_get_recovered journals values place greatest.0 v recovered within greatest.1
