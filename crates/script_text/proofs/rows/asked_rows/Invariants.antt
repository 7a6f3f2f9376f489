use Rattle.std.proofs.Common.{◌≡◌, length}
use Rattle.script_text.specs.Words.{words_of}
use Rattle.script_text.specs.Judged.{asked_in, each}
use Rattle.script_text.proofs.EachLemmas.{with_front}
use Rattle.script_text.proofs.rows.asked_rows.Given as goal

abbrev pub invariant-loop-word : goal.invariant-loop-word
invariant-loop-word l = with_front l.asked (each (asked_in l.shards) (words_of l.left)) ≡ each (asked_in l.shards) (words_of l.line)

abbrev pub decreases-loop-word : goal.decreases-loop-word
decreases-loop-word l = length l.left
