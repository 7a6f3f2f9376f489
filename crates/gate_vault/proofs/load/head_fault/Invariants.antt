use Rattle.std.proofs.Common.{◌≡◌, ◌≤◌, length, take}
use Rattle.gate_vault.specs.File.{head}
use Rattle.gate_vault.proofs.load.head_fault.Given as goal

abbrev pub invariant-loop-i : goal.invariant-loop-i
invariant-loop-i l = (take l.i l.bytes ≡ take l.i head) × (l.i ≤ length l.bytes)
