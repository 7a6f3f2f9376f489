use Rattle.std.proofs.Common.{rules}
use Rattle.app_law.proofs.WordLemmas.{words_space, words_whole}
use Rattle.app_law.proofs.words.first_word.Goals as goal

pub returns-in-Some : goal.returns-in-Some
returns-in-Some c = words_space c.args.text.now c.in-Some.at (search rules)

pub returns-in-None : goal.returns-in-None
returns-in-None c = words_whole c.args.text.now (search rules)
