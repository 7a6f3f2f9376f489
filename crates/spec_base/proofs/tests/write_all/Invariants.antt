use Rattle.std.proofs.Common.{◌≡◌, ◌≤◌, ◌-◌, length, take}
use Rattle.std.specs.Io.KnownBytes.{append_known}
use Rattle.spec_base.proofs.tests.write_all.Given as goal

abbrev pub invariant-loop-done : goal.invariant-loop-done
invariant-loop-done g l = record {
  within : l.done ≤ length l.text;
  taken : g.S.Sink.taken l.sink ≡ append_known (g.S.Sink.taken l.fn.sink) (take l.done l.text);
  faults : g.S.Sink.faults l.sink ≡ g.S.Sink.faults l.fn.sink;
  sound : g.S.Sink.never_fails l.sink ≡ g.S.Sink.never_fails l.fn.sink;
}

abbrev pub decreases-loop-done : goal.decreases-loop-done
decreases-loop-done g l = length l.text - l.done
