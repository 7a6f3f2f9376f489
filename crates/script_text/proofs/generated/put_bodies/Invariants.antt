use Rattle.std.proofs.Common.{◌≡◌, ◌-◌, ◌++◌}
use Rattle.script_text.specs.Generated.{seeded, submit_lines}
use Rattle.script_text.proofs.generated.put_bodies.Given as goal

abbrev pub invariant-loop-k : goal.invariant-loop-k
invariant-loop-k l = l.text ++ submit_lines l.k (l.count - l.k) l.words ≡ l.fn.text ++ submit_lines 0 l.count (seeded l.seed)
