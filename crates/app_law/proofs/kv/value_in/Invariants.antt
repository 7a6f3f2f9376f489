use Rattle.std.proofs.Common.{◌≡◌, drop}
use Rattle.app_law.specs.inside.KvEntries.{value_under}
use Rattle.app_law.proofs.kv.value_in.Given as goal

abbrev pub invariant-loop-entry : goal.invariant-loop-entry
invariant-loop-entry l = value_under l.key (drop l.entry-index l.entries) ≡ value_under l.key l.entries
