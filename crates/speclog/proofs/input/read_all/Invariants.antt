use Rattle.std.proofs.Common.{◌≡◌, ◌≤◌, ◌-◌, length}
use Rattle.std.specs.Io.KnownBytes.{prepend_known}
use Rattle.speclog.proofs.input.read_all.Given as goal

abbrev pub invariant-pieces : goal.invariant-pieces
invariant-pieces g l = record {
  given : g.S.Source.left l.fn.source ≡ prepend_known l.bytes (g.S.Source.left l.source);
  within : length l.bytes ≤ 16777216;
  faults : g.S.Source.faults l.source ≡ g.S.Source.faults l.fn.source;
}

abbrev pub decreases-pieces : goal.decreases-pieces
decreases-pieces g l = 16777217 - length l.bytes
