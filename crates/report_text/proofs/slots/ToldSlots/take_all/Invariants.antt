use Rattle.std.proofs.Common.{◌≡◌, take}
use Rattle.report_text.specs.inside.Telling.{with_messages}
use Rattle.report_text.proofs.slots.ToldSlots.take_all.Given as goal

abbrev pub invariant-loop-message : goal.invariant-loop-message
invariant-loop-message l = l.self ≡ with_messages l.initial.self (take l.message-index l.messages)
