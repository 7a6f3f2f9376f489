use Rattle.std.proofs.Common.{◌≡◌, ◌++◌, drop}
use Rattle.std.specs.List.{flat_map}
use Rattle.report_text.specs.Clients.{ack_line}
use Rattle.report_text.proofs.clients.ClientMarks.write.Given as goal

abbrev pub invariant-loop-of_client : goal.invariant-loop-of_client
invariant-loop-of_client l = l.text ++ flat_map (ack_line l.number) (drop l.of_client-index l.fn.self.acked) ≡ l.initial.text ++ flat_map (ack_line l.number) l.fn.self.acked
