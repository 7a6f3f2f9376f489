use Rattle.std.proofs.Common.{◌≡◌, ◌≤◌, ◌+◌, ◌*◌, ◌^◌, drop}
use Rattle.report_text.specs.inside.Summing.{all_acked}
use Rattle.report_text.proofs.gathered.all_acked.Given as goal

abbrev pub invariant-loop-client : goal.invariant-loop-client
invariant-loop-client l = record {
  sum : l.all + all_acked (drop l.client-index l.clients) ≡ all_acked l.clients;
  room : l.all ≤ l.client-index * 2 ^ 64;
}
