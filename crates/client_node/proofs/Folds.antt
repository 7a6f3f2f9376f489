-- Folds over one more number, or one more item.
use Rattle.std.proofs.Common.{◌≡◌, ℕ, ◌+◌, [], ◌∷◌, ap, sym, ◌∙◌}
use Rattle.std.specs.List.{fold, range_with_len}
use Rattle.std.proofs.lemmas.Grind.{fold-append}
use Rattle.fix_ante.proofs.LocalLemmas.{range_with_len_append}

-- one number more
pub fold_more : {B : Type 0} (f : B → ℕ → B) (b : B) (first n : ℕ) → f (fold f b (range_with_len first n)) (first + n) ≡ fold f b (range_with_len first (n + 1))
fold_more f b first n = sym (fold-append f b (range_with_len first n) ((first + n) ∷ [])) ∙ ap (fold f b) (range_with_len_append first n 1)
