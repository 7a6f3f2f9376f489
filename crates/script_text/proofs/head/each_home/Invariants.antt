use Rattle.std.proofs.Common.{◌≡◌, length}
use Rattle.quota_table.specs.Rows.{has_shard}
use Rattle.script_text.specs.Words.{words_of}
use Rattle.script_text.specs.Judged.{number_where, each}
use Rattle.script_text.proofs.EachLemmas.{with_front}
use Rattle.script_text.proofs.head.each_home.Given as goal

abbrev pub invariant-loop-word : goal.invariant-loop-word
invariant-loop-word l =
    with_front l.homes (each (number_where (λ home. has_shard home l.table)) (words_of l.left)) ≡ each (number_where (λ home. has_shard home l.table)) (words_of l.line)

abbrev pub decreases-loop-word : goal.decreases-loop-word
decreases-loop-word l = length l.left
