use Rattle.std.proofs.Common.{◌≡◌, ◌+◌, ◌<◌, ◌≤◌, ◌^◌, length}
use Rattle.std.specs.Str.Lines.{lines}
use Rattle.script_text.specs.Lines.{counted_from, left_of, end_of}
use Rattle.script_text.proofs.lines.Lines.next.Given as goal

-- the lines that were passed over do not count
abbrev pub invariant-loop-self : goal.invariant-loop-self
invariant-loop-self l = record {
  room : l.self-inside.number + length l.self-inside.rest.now < 2 ^ 32;
  left : left_of l.fn.self ≡ counted_from l.self-inside.number (lines l.self-inside.rest.now);
  end : end_of l.fn.self ≡ l.self-inside.number + length (lines l.self-inside.rest.now);
  shorter : length l.self-inside.rest.now ≤ length l.fn.self.text;
}

abbrev pub decreases-loop-self : goal.decreases-loop-self
decreases-loop-self l = length l.self-inside.rest.now
