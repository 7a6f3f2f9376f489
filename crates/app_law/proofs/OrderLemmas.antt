-- Too many words ask nothing of an application.
use Rattle.std.proofs.Common.{◌≡◌, ℕ, List, ◌∷◌, None, refl}
use Rattle.app_law.specs.Banks.{bank_order_of}
use Rattle.app_law.specs.KvOrders.{kv_order_of}
use Rattle.app_law.specs.Words.{words}
use Rattle.app_law.proofs.WordLemmas.{words_some}

-- more than four words ask nothing of the bank
pub bank_order_of_many : (a b c d more : List ℕ) → bank_order_of (a ∷ b ∷ c ∷ d ∷ words more) ≡ None
bank_order_of_many a b c d more = rw ((words_some more).2) refl

-- and more than three nothing of the store
pub kv_order_of_many : (a b c more : List ℕ) → kv_order_of (a ∷ b ∷ c ∷ words more) ≡ None
kv_order_of_many a b c more = rw ((words_some more).2) refl

pub ruleset too_many = (bank_order_of_many, kv_order_of_many)
