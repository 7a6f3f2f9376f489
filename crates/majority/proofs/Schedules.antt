-- Every schedule of one slot keeps the invariant, and what follows from it.
use Rattle.std.proofs.Common.{◌≡◌, ℕ, zero, suc, ◌^◌, ◌<◌, Bool, true, false, List, [], ◌∷◌, nat_lt, Option, Some, None, slice_get, Contains, inl, inr, refl, sym, subst, if◌then◌else◌}
use Rattle.std.proofs.lemmas.Bool.Decides.{leb_tells}
use Rattle.majority.specs.Proposers.{ballot_for}
use Rattle.majority.specs.Slot.{Message, Prepare, Promise, Accept, Accepted, SlotEvent, Start, Comes, Restart, SlotState, fresh_slot, slot_started, start_happens, message_comes, slot_after, slot_run}
use Rattle.majority.proofs.Lists.{Contains_here, Contains_later, Contains_none}
use Rattle.majority.specs.Agreement.{IsSound}
use Rattle.majority.proofs.Steps.{IsSound_prepare, IsSound_accept}
use Rattle.majority.proofs.Starts.{IsSound_start, IsSound_restart}
use Rattle.majority.proofs.Promises.{IsSound_promise, IsSound_accepted}

-- what a place of a list has is among its members
pub Contains_slice_get : {X : Type 0} (xs : List X) (k : ℕ) (x : X) → slice_get xs k ≡ Some x → Contains xs x
Contains_slice_get [] k x e = absurd (cc)
Contains_slice_get (y ∷ xs) zero x e = let same : y ≡ x = cc in subst (λ z. Contains (z ∷ xs) x) (sym same) (Contains_here x xs)
Contains_slice_get (y ∷ xs) (suc k) x e = Contains_later y x xs (Contains_slice_get xs k x e)

-- what holds on both sides of a test
below_test : (i n : ℕ) (P : Bool → Type 0) → (i < n → P true) → P false → P (nat_lt i n)
below_test i n P below otherwise =
    elim (leb_tells (suc i) n) [
      | inl less ↦ rw less.0 (below less.1)
      | inr more ↦ rw more.0 otherwise
    ]

module _ {V : Type 0} where
  pub IsSound_fresh : (n : ℕ) → IsSound {V = V} n fresh_slot
  IsSound_fresh n =
      record {
        agreed = record {
          one_vote = λ j b v w p q. absurd (Contains_none _ p);
          owners = λ j b v p. absurd (Contains_none _ p);
          acceptors = λ j. record {
            within = λ b v p. absurd (Contains_none _ p);
            barred = λ b v p. absurd (Contains_none _ p);
            last = λ b v p. Contains_none _ p;
          };
          messages = λ m p. absurd (Contains_none m p);
          safe = λ j b v p. absurd (Contains_none _ p);
        };
        attempts = λ j. tt;
      }

  -- a message that was sent comes
  pub IsSound_message : (n i : ℕ) (message : Message V) (slot : SlotState V) → i < n → Contains slot.sent message → IsSound n slot
      → IsSound n (message_comes i (Some message) slot)
  IsSound_message n i (Prepare ballot) slot within member sound = IsSound_prepare n i ballot slot within sound
  IsSound_message n i (Promise from ballot report) slot within member sound = IsSound_promise n i from ballot report slot within member sound (slot.attempts i) refl
  IsSound_message n i (Accept ballot value) slot within member sound = IsSound_accept n i ballot value slot within member sound
  IsSound_message n i (Accepted from ballot) slot within member sound = IsSound_accepted n i from ballot slot member sound (slot.attempts i) refl

  comes : (n i : ℕ) (o : Option (Message V)) (slot : SlotState V) → i < n → ((message : Message V) → o ≡ Some message → Contains slot.sent message)
      → IsSound n slot → IsSound n (message_comes i o slot)
  comes n i None slot within member sound = sound
  comes n i (Some message) slot within member sound = IsSound_message n i message slot within (member message refl) sound

  pub IsSound_after : (n : ℕ) (event : SlotEvent V) (slot : SlotState V) → IsSound n slot → IsSound n (slot_after n event slot)
  IsSound_after n (Start i highest wish) slot sound =
      below_test i n (λ t. IsSound n (if t then start_happens i n (ballot_for i n highest (slot.acceptors i)) wish slot else slot))
      (λ within. below_test (ballot_for i n highest (slot.acceptors i)) (2 ^ 31) (λ t. IsSound n (if t then slot_started i n (ballot_for i n highest (slot.acceptors i)) wish slot else slot))
      (λ below. IsSound_start n i wish slot within sound highest) sound)
      sound
  IsSound_after n (Comes i which) slot sound =
      below_test i n (λ t. IsSound n (if t then message_comes i (slice_get slot.sent which) slot else slot))
      (λ within. comes n i (slice_get slot.sent which) slot within (λ message e. Contains_slice_get slot.sent which message e) sound) sound
  IsSound_after n (Restart i) slot sound = IsSound_restart n i slot sound

  pub IsSound_run : (n : ℕ) (events : List (SlotEvent V)) (slot : SlotState V) → IsSound n slot → IsSound n (slot_run n events slot)
  IsSound_run n [] slot sound = sound
  IsSound_run n (event ∷ events) slot sound = IsSound_run n events (slot_after n event slot) (IsSound_after n event slot sound)
