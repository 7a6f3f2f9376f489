-- The text that is generated, piece after piece.
use Rattle.std.proofs.Common.{◌≡◌, ℕ, suc, ◌+◌, ◌-◌, ◌<◌, ◌%◌, ◌++◌, List, codes, decimal, ◌∙◌, arith, append_assoc}
use Rattle.rand_pcg.specs.Lcg.{Lcg}
use Rattle.script_text.specs.Generated.{number_of_word, after_word_of, submit_line, submit_lines, generated_head}

pub one_more : (text : List ℕ) (k count : ℕ) (g : Lcg) → k < count
    → (text ++ submit_line (k % 4) (number_of_word g)) ++ submit_lines (k + 1) (count - (k + 1)) (after_word_of g) ≡ text ++ submit_lines k (count - k) g
one_more text k count g h =
    let left : count - k ≡ suc (count - (k + 1)) = omega arith in
    rw left (append_assoc text (submit_line (k % 4) (number_of_word g)) (submit_lines (k + 1) (count - (k + 1)) (after_word_of g)))

abbrev pub head_front : List ℕ
head_front = codes "belfast-plan 1\nseqs 3\nshards 3\nwindow 16 0:4 1:4 2:4\nclients 0 1 2 0\nconsumers 2 tally\nreaders 0 1 0 1\nsubmitters 0 1 2 3\nfaults "

abbrev pub head_back : List ℕ
head_back = codes " 5 2 2 0\ndrain 120000 300\n"

pub head_text : (text : List ℕ) (seed : ℕ) → text ++ head_front ++ decimal seed ++ head_back ≡ text ++ generated_head seed
unfolding generated_head
head_text text seed =
    append_assoc (text ++ head_front) (decimal seed) head_back ∙ append_assoc text head_front (decimal seed ++ head_back)
