use Rattle.majority.specs.Slot.{fresh_slot, slot_run}
use Rattle.majority.proofs.Schedules.{IsSound_fresh, IsSound_run}
use Rattle.majority.proofs.Decided.{IsChosenAt_counted, IsChosenAt_answered}
use Rattle.majority.proofs.laws.decision.Goals as goal

pub returns-clause-counted : goal.returns-clause-counted
returns-clause-counted g c = λ n replica events attempt v stood sending most.
    IsChosenAt_counted n replica (slot_run n events fresh_slot) attempt v (IsSound_run n events fresh_slot (IsSound_fresh n)) stood sending most

pub returns-clause-answered : goal.returns-clause-answered
returns-clause-answered g c = λ n replica from events attempt v stood sending came answer.
    IsChosenAt_answered n replica from (slot_run n events fresh_slot) attempt v (IsSound_run n events fresh_slot (IsSound_fresh n)) stood sending came answer
