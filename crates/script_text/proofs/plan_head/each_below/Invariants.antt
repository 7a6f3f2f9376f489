use Rattle.std.proofs.Common.{◌≡◌, ◌+◌, length}
use Rattle.script_text.specs.Words.{words_of}
use Rattle.script_text.specs.Judged.{number_below, each}
use Rattle.script_text.proofs.EachLemmas.{with_front}
use Rattle.script_text.proofs.plan_head.each_below.Given as goal

abbrev pub invariant-loop-word : goal.invariant-loop-word
invariant-loop-word l = record {
  judged : with_front l.numbers (each (number_below l.limit) (words_of l.left)) ≡ each (number_below l.limit) (words_of l.line);
  size : length l.numbers + length (words_of l.left) ≡ length (words_of l.line);
}

abbrev pub decreases-loop-word : goal.decreases-loop-word
decreases-loop-word l = length l.left
