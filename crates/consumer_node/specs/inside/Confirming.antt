-- What becomes of the oldest record that is applied and not confirmed.
use Rattle.std.specs.Prelude.{◌≡◌, ℕ, zero, suc, ◌≤◌, List, [], ◌∷◌, length, Option, Some, None}
use Rattle.fix_ante.specs.declared.spots.Owner.{Owner}
use Rattle.output_gate.specs.declared.kept.KeptOut.{KeptOut}
use Rattle.node_rules.specs.Names.{Record}
use Rattle.node_rules.specs.Turns.{Turn, own_of}
use Rattle.consumer_node.specs.Apps.{Meaning}
use Rattle.consumer_node.specs.States.{ConsumerState}
use Rattle.consumer_node.specs.Speculation.{with_confirmed, confirm}

-- it is confirmed, and given with its output
pub record GivesOldest {A : Type 0} (app : Meaning A) (owner : Owner) (old new : ConsumerState A) (rec : Record) (output : List ℕ) : Type 0 where
  pub state : new ≡ with_confirmed app rec owner old
  pub oldest : old.pending ≡ rec ∷ new.pending
  pub gives : output ≡ app.output old.base rec
  pub short : length output ≤ 64

-- where there is one; else nothing changes
abbrev pub ConfirmsOldest : {A : Type 0} → Meaning A → Owner → ConsumerState A → ConsumerState A → Option (Record × List ℕ) → Type 0
ConfirmsOldest app owner old new None = (new ≡ old) × (old.pending ≡ [])
ConfirmsOldest app owner old new (Some given) = GivesOldest app owner old new given.0 given.1

-- what is released is one output, of at most 64 bytes
abbrev pub HasOutput : List KeptOut → List ℕ → Type 0
HasOutput [] output = ⊥
HasOutput (kept ∷ released) output = (output ≡ kept.out) × (length output ≤ 64)

-- the oldest record is confirmed, where there is one and its position is covered
abbrev pub confirm_first : {A : Type 0} → Meaning A → List Record → Turn (ConsumerState A) → Turn (ConsumerState A)
confirm_first app [] t = t
confirm_first app (rec ∷ pending) t = confirm app t rec

abbrev pub confirm_oldest : {A : Type 0} → Meaning A → Turn (ConsumerState A) → Turn (ConsumerState A)
confirm_oldest app t = confirm_first app (own_of t).pending t

-- that so many times
abbrev pub confirm_count : {A : Type 0} → Meaning A → ℕ → Turn (ConsumerState A) → Turn (ConsumerState A)
confirm_count app zero t = t
confirm_count app (suc count) t = confirm_oldest app (confirm_count app count t)
