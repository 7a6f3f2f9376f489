-- Reads and writes of several pieces, one after another, where the bytes of the source or sink are told.
use Rattle.std.proofs.Common.{◌≡◌, ℕ, ◌+◌, List, ◌++◌, Option, None, Some, refl, sym, ap, ◌∙◌, take, drop, append_assoc}
use Rattle.std.proofs.Math.Seq.{take-add}
use Rattle.std.specs.Io.KnownBytes.{prepend_known, append_known}

prepend_known_append : (known : Option (List ℕ)) (xs ys : List ℕ) → prepend_known xs (prepend_known ys known) ≡ prepend_known (xs ++ ys) known
prepend_known_append None xs ys = refl
prepend_known_append (Some bs) xs ys = ap Some (sym (append_assoc xs ys bs))

append_known_append : (known : Option (List ℕ)) (xs ys : List ℕ) → append_known (append_known known xs) ys ≡ append_known known (xs ++ ys)
append_known_append None xs ys = refl
append_known_append (Some bs) xs ys = ap Some (append_assoc bs xs ys)

-- a source gave xs, and then ys
pub given_more : (first mid last : Option (List ℕ)) (xs ys : List ℕ) → first ≡ prepend_known xs mid → mid ≡ prepend_known ys last
    → first ≡ prepend_known (xs ++ ys) last
given_more first mid last xs ys before now = before ∙ ap (prepend_known xs) now ∙ prepend_known_append last xs ys

-- a sink took the text's first `done` bytes, and then `more` of the rest
pub taken_more : (first mid last : Option (List ℕ)) (text : List ℕ) (done more : ℕ) → mid ≡ append_known first (take done text)
    → last ≡ append_known mid (take more (drop done text))
    → last ≡ append_known first (take (done + more) text)
taken_more first mid last text done more before now =
    now ∙ ap (λ known. append_known known (take more (drop done text))) before ∙ append_known_append first (take done text) (take more (drop done text))
    ∙ ap (append_known first) (sym (take-add done more text))
