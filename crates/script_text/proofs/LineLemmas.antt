-- The first line of a text, and the lines after it.
use Rattle.std.proofs.Common.{◌≡◌, ℕ, ◌+◌, ◌-◌, ◌<◌, ◌==◌, List, [], ◌∷◌, length, take, drop, Some, None, refl, ap, ◌∙◌, arith}
use Rattle.std.specs.List.{position, slice_split}
use Rattle.std.specs.Str.Lines.{lines, lines_of_parts, strip_carriage_return}
use Rattle.std.proofs.lemmas.Bool.Decides.{nat_tests}
use Rattle.script_text.proofs.Splits.{split_some, split_none, split_at, to_end}

lines_of_parts_more : (x y : List ℕ) (parts ys : List (List ℕ)) → parts ≡ y ∷ ys → lines_of_parts (x ∷ parts) ≡ strip_carriage_return x ∷ lines_of_parts parts
lines_of_parts_more x y parts ys e = rw e refl

-- a line that a newline ends
pub lines_newline : (text line : List ℕ) (at : ℕ) → position (λ b. b == 10) text ≡ Some at → line ≡ strip_carriage_return (take at text)
    → lines text ≡ line ∷ lines (take (length text - (at + 1)) (drop (at + 1) text))
lines_newline text line at e line_is =
    let some = split_some (λ b. b == 10) (drop (at + 1) text) in
    rw (to_end text (at + 1), line_is) (ap lines_of_parts (split_at (λ b. b == 10) text at e) ∙ lines_of_parts_more (take at text) some.0 (slice_split (λ b. b == 10) (drop (at + 1) text)) some.1 some.2)

one_part : (x : List ℕ) → 0 < length x → lines_of_parts (x ∷ []) ≡ x ∷ []
one_part [] h = absurd (omega arith)
one_part (b ∷ bs) h = grind (arith, nat_tests)

-- a line that the text's end ends
pub lines_end : (text : List ℕ) → 0 < length text → position (λ b. b == 10) text ≡ None → lines text ≡ text ∷ []
lines_end text some e = ap lines_of_parts (split_none (λ b. b == 10) text e) ∙ one_part text some
