-- What a source in memory gives, and what is left in it.
use Rattle.std.proofs.Common.{◌≡◌, ℕ, ◌+◌, List, ◌++◌, take, drop, sym, ap, ◌∙◌, take-append-drop}
use Rattle.std.proofs.lemmas.List.{drop-drop}

-- what a source gives, and then what is left
pub given_then_left : (at count : ℕ) (bytes : List ℕ) → drop at bytes ≡ take count (drop at bytes) ++ drop (at + count) bytes
given_then_left at count bytes =
    sym (take-append-drop count (drop at bytes)) ∙ ap (λ l. take count (drop at bytes) ++ l) (drop-drop count at bytes)
