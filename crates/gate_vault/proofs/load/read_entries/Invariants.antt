use Rattle.std.proofs.Common.{◌≡◌, ◌≤◌, ◌+◌, ◌-◌, ◌^◌, ◌++◌, ℕ, List, Some, take, drop}
use Rattle.spec_base.specs.Crash.{NoneNew, Elapses}
use Rattle.spec_base.specs.Faults.{StaysSound}
use Rattle.gate_vault.specs.File.{head, frames, gate_after, AreShort}
use Rattle.gate_vault.proofs.load.read_entries.Given as goal

abbrev pub invariant-loop-gate : goal.invariant-loop-gate
invariant-loop-gate g l = record {
  faults : g.D.Disk.faults l.fn.disk ≤ g.D.Disk.faults l.disk;
  sound : StaysSound (g.D.Disk.never_fails l.fn.disk) (g.D.Disk.never_fails l.disk) (g.D.Disk.faults l.fn.disk) (g.D.Disk.faults l.disk);
  room : l.gate ≤ 2 ^ 62 + 4099;
  place : l.gate ≡ gate_after l.entries;
  short : AreShort l.entries;
  read : (file : List ℕ) → g.D.Disk.seen l.fn.disk ≡ Some file → take 8 file ≡ head → file ≡ head ++ frames l.entries ++ drop l.gate file;
  seen : g.D.Disk.seen l.disk ≡ g.D.Disk.seen l.fn.disk;
  none_new : NoneNew (g.D.Disk.may_leave l.fn.disk) (g.D.Disk.may_leave l.disk);
  time : Elapses (g.D.Disk.moment l.fn.disk) (g.D.Disk.moment l.disk) (g.D.Disk.left_since l.fn.disk) (g.D.Disk.left_since l.disk) (g.D.Disk.may_leave l.fn.disk);
}

abbrev pub decreases-loop-gate : goal.decreases-loop-gate
decreases-loop-gate g l = 2 ^ 63 - l.gate
