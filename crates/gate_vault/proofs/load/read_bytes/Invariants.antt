use Rattle.std.proofs.Common.{◌≡◌, ◌≤◌, ◌-◌, ℕ, List, Some, length, take, drop}
use Rattle.spec_base.specs.Crash.{NoneNew, Elapses}
use Rattle.spec_base.specs.Faults.{StaysSound}
use Rattle.gate_vault.proofs.load.read_bytes.Given as goal

abbrev pub invariant-loop-piece : goal.invariant-loop-piece
invariant-loop-piece g l = record {
  few : length l.bytes ≤ l.len;
  bytes : (file : List ℕ) → g.D.Disk.seen l.fn.disk ≡ Some file → l.bytes ≡ take (length l.bytes) (drop l.at file);
  seen : g.D.Disk.seen l.disk ≡ g.D.Disk.seen l.fn.disk;
  none_new : NoneNew (g.D.Disk.may_leave l.fn.disk) (g.D.Disk.may_leave l.disk);
  time : Elapses (g.D.Disk.moment l.fn.disk) (g.D.Disk.moment l.disk) (g.D.Disk.left_since l.fn.disk) (g.D.Disk.left_since l.disk) (g.D.Disk.may_leave l.fn.disk);
  faults : g.D.Disk.faults l.fn.disk ≤ g.D.Disk.faults l.disk;
  sound : StaysSound (g.D.Disk.never_fails l.fn.disk) (g.D.Disk.never_fails l.disk) (g.D.Disk.faults l.fn.disk) (g.D.Disk.faults l.disk);
}

abbrev pub decreases-loop-piece : goal.decreases-loop-piece
decreases-loop-piece g l = l.len - length l.bytes
