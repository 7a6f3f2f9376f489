-- What an answer to words that are refused says of the source and the sink.
use Rattle.std.proofs.Common.{◌≡◌, ℕ, List, [], Option, Some, None, refl, sym, subst, arith}
use Rattle.std.specs.Io.KnownBytes.{prepend_known}
use Rattle.speclog.specs.declared.fault.Fault.{Fault}
use Rattle.speclog.specs.declared.fault.Fault.TheVariants.{Usage}
use Rattle.speclog.specs.Answers.{Left, SpeaksOf}
use Rattle.speclog.specs.Writes.{Taken}

pub nothing_read : (left : Option (List ℕ)) → left ≡ prepend_known [] left
nothing_read None = refl
nothing_read (Some bytes) = refl

abbrev left_so : Option (List ℕ) → Left
left_so left = record { before = left; after = left }

abbrev taken_so : Option (List ℕ) → Taken
taken_so taken = record { before = taken; after = taken }

module _ {T : Type 0} (refusal : List ℕ → Option Fault) (Makes : List ℕ → T → List ℕ → Type 0) (left taken : Option (List ℕ)) (word : ℕ) where
  speaks_of_words : (made : Option T) → SpeaksOf refusal Makes (left_so left) (taken_so taken) (Some (Usage word)) made
  speaks_of_words made = record {
    read = [];
    given = nothing_read left;
    too_long = (λ e. absurd (cc), λ many. absurd (omega arith));
    whole = λ h. absurd (cc);
    refused = λ h. absurd (cc);
    written = refl;
    begun = λ e. absurd (cc);
  }

  -- nothing was read, and nothing is out
  pub usage_speaks : (fault : Option Fault) (made : Option T) → fault ≡ Some (Usage word)
      → SpeaksOf refusal Makes (left_so left) (taken_so taken) fault made
  usage_speaks fault made is =
      subst (λ (f : Option Fault). SpeaksOf refusal Makes (left_so left) (taken_so taken) f made) (sym is) (speaks_of_words made)
