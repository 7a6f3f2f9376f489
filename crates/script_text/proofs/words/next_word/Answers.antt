use Rattle.std.proofs.Common.{◌≡◌, ◌<◌, length, arith}
use Rattle.std.proofs.lemmas.List.Sums.{prefix_len-le-length}
use Rattle.std.proofs.lemmas.Bool.Decides.{nat_tests}
use Rattle.script_text.proofs.WordLemmas.{is_blank, is_letter, words_none, words_first}
use Rattle.script_text.proofs.words.next_word.Goals as goal

pub split_at-requires : goal.split_at-requires
split_at-requires c = omega (arith, prefix_len-le-length is_blank c.args.line.now)

pub split_at-requires-2 : goal.split_at-requires-2
split_at-requires-2 c = omega (arith, prefix_len-le-length is_letter c.split_at.result.1.now)

pub returns-then-is_empty-clause-words : goal.returns-then-is_empty-clause-words
returns-then-is_empty-clause-words c =
    let none : length c.split_at.result.1.now ≡ 0 = grind (arith, nat_tests) in
    words_none c.args.line.now c.split_at.result.1.now c.spaces.result c.spaces.ensures c.split_at.ensures.back none

pub returns : goal.returns
returns c =
    let some : 0 < length c.split_at.result.1.now = grind (arith, nat_tests) in
    let found = words_first c.args.line.now c.split_at.result.1.now c.spaces.result c.letters.result c.spaces.ensures c.split_at.ensures.back some c.letters.ensures in
    rw (c.split_at-2.ensures.front, c.split_at-2.ensures.back) (record { words = found.0; rest = found.1; shorter = found.2 })
