-- The faults of links as new: of as many links, and nothing is held of any.
use Rattle.std.proofs.Common.{◌≡◌, ℕ, zero, suc, ◌+◌, List, [], ◌∷◌, ◌++◌, length, None, refl, sym, ap, ◌∙◌, arith}
use Rattle.std.specs.List.{AllByRecursion}
use Rattle.std.proofs.lemmas.List.{length_push}
use Rattle.link_faults.specs.Faults.{Holding}
use Rattle.net_model.proofs.Merging.{all_append}
use Rattle.cluster_seats.specs.Blanks.{all_faults, new_faults, new_holding}

abbrev pub AreUnheld : List Holding → Type 0
AreUnheld = AllByRecursion (λ (h : Holding). h.held ≡ None)

new_length : (seed from count : ℕ) → length (new_faults seed from count) ≡ count
new_length seed from zero = refl
new_length seed from (suc to) =
    let before = new_length seed from to in
    let more = length_push (new_faults seed from to) (new_holding seed from to) in
    omega (arith, before, more)

new_unheld : (seed from count : ℕ) → AreUnheld (new_faults seed from count)
new_unheld seed from zero = tt
new_unheld seed from (suc to) = all_append _ (new_faults seed from to) (new_holding seed from to ∷ []) (new_unheld seed from to) (refl, tt)

pub all_as_many : (seed count from : ℕ) → AllByRecursion (λ (row : List Holding). length row ≡ count) (all_faults seed count from)
all_as_many seed count zero = tt
all_as_many seed count (suc from) =
    all_append _ (all_faults seed count from) (new_faults seed from count ∷ []) (all_as_many seed count from) (new_length seed from count, tt)

pub all_unheld : (seed count from : ℕ) → AllByRecursion AreUnheld (all_faults seed count from)
all_unheld seed count zero = tt
all_unheld seed count (suc from) =
    all_append _ (all_faults seed count from) (new_faults seed from count ∷ []) (all_unheld seed count from) (new_unheld seed from count, tt)
