use Rattle.std.proofs.Common.{refl}
use Rattle.std.specs.Fmt.{digits}
use Rattle.report_text.specs.Slots.{slot_line}
use Rattle.report_text.specs.Positions.{log_line, differ_line}
use Rattle.report_text.specs.Consumers.{consumer_line, notice_line, out_line, state_line}
use Rattle.report_text.specs.Clients.{client_line, ack_line}
use Rattle.report_text.specs.Report.{head_lines}
use Rattle.report_text.proofs.worked.worked_compute.Goals as goal

pub returns : goal.returns
unfolding slot_line log_line differ_line consumer_line notice_line out_line state_line client_line ack_line head_lines digits
returns c = record { of_nothing = refl; of_each_line = refl }
