-- How much of a text went out.
use Rattle.std.specs.Prelude.{◌≡◌, ◌⊎◌, ℕ, List, take, Option, Some, None}
use Rattle.std.specs.Io.KnownBytes.{append_known}
use Rattle.speclog.specs.declared.fault.Fault.{Fault}
use Rattle.speclog.specs.declared.fault.Fault.TheVariants.{OutOfMemory, WriteFault}

-- what a sink had taken before a command, and what it took by its end
pub record Taken : Type 0 where
  pub before : Option (List ℕ)
  pub after : Option (List ℕ)

-- a beginning of a text went out
abbrev pub BeginsToWrite : Taken → List ℕ → Type 0
BeginsToWrite taken text = (count : ℕ) × (taken.after ≡ append_known taken.before (take count text))

module _ {T : Type 0} where
  -- an input made this, and a text of it, of which so much is out
  pub record IsMade (Makes : List ℕ → T → List ℕ → Type 0) (input : List ℕ) (made : T) (IsOut : List ℕ → Type 0) : Type 0 where
    pub text : List ℕ
    pub makes : Makes input made text
    pub out : IsOut text

  -- what stands at the sink after an answer: the whole text of what was made of the input at the end, a beginning of it where the sink failed;
  -- where memory was refused nothing or a beginning, and after any other answer nothing
  abbrev pub Writes : (List ℕ → T → List ℕ → Type 0) → Option Fault → Option T → List ℕ → Taken → Type 0
  Writes Makes None (Some made) input taken = IsMade Makes input made (λ text. taken.after ≡ append_known taken.before text)
  Writes Makes None None input taken = ⊥
  Writes Makes (Some WriteFault) (Some made) input taken = IsMade Makes input made (BeginsToWrite taken)
  Writes Makes (Some WriteFault) None input taken = ⊥
  Writes Makes (Some OutOfMemory) kept input taken = (taken.after ≡ taken.before) ⊎ ((made : T) × IsMade Makes input made (BeginsToWrite taken))
  Writes Makes (Some fault) kept input taken = taken.after ≡ taken.before
