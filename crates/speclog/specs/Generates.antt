-- What `gen` writes.
use Rattle.std.specs.Prelude.{◌≡◌, ◌⊎◌, ℕ, List, Option, Some, None, Ok}
use Rattle.std.specs.Io.KnownBytes.{append_known}
use Rattle.script_text.specs.Generated.{generated_plan}
use Rattle.speclog.specs.declared.fault.Fault.{Fault}
use Rattle.speclog.specs.declared.fault.Fault.TheVariants.{Usage, OutOfMemory, WriteFault}
use Rattle.speclog.specs.Words.{gen_of}
use Rattle.speclog.specs.Writes.{Taken, BeginsToWrite}

-- the words ask for a plan, and its text has this property
abbrev pub OfPlan : List (List ℕ) → (List ℕ → Type 0) → Type 0
OfPlan words P = (seed : ℕ) × (size : ℕ) × (gen_of words ≡ Ok (seed, size)) × P (generated_plan seed size)

-- what stands at the sink after an answer: the whole plan at the end, a beginning of it where the sink failed; where memory was refused
-- nothing or a beginning, and nothing where the words are no command's. There is no other answer
abbrev pub Generates : List (List ℕ) → Option Fault → Taken → Type 0
Generates words None taken = OfPlan words (λ plan. taken.after ≡ append_known taken.before plan)
Generates words (Some WriteFault) taken = OfPlan words (BeginsToWrite taken)
Generates words (Some OutOfMemory) taken = (taken.after ≡ taken.before) ⊎ OfPlan words (BeginsToWrite taken)
Generates words (Some (Usage word)) taken = taken.after ≡ taken.before
Generates words (Some _) taken = ⊥

-- the words `gen SEED SIZE`, and the sink's count of faults did not rise: then the plan is out, unless memory was refused
abbrev pub IsGeneratedWhole : List (List ℕ) → Option Fault → Type 0 → Type 0
IsGeneratedWhole words fault sink_rose =
    (seed size : ℕ) → gen_of words ≡ Ok (seed, size) → (sink_rose → ⊥) → (fault ≡ None) ⊎ (fault ≡ Some OutOfMemory)
