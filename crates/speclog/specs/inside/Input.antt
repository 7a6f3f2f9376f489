-- What an attempt to read a source to its end took.
use Rattle.std.specs.Prelude.{◌≡◌, ◌↔◌, ℕ, ◌<◌, List, length, Option, Result, Ok, Err, IfOk, IsErrOf}
use Rattle.std.specs.Io.KnownBytes.{prepend_known, IsAtEnd}
use Rattle.spec_base.specs.Faults.{RoseByOne}
use Rattle.speclog.specs.declared.input.ReadError.{ReadError}
use Rattle.speclog.specs.declared.input.ReadError.TheVariants.{Failed, TooLong}

-- an attempt to read a source to its end took these bytes: all there were where it answers Ok, and too many exactly
-- where it says so
pub record HasRead (before after : Option (List ℕ)) (result : Result (List ℕ) ReadError) : Type 0 where
  pub read : List ℕ
  pub taken : before ≡ prepend_known read after
  pub too_long : IsErrOf result TooLong ↔ (16777216 < length read)
  pub all : IfOk result (λ bytes. bytes ≡ read)
  pub to_the_end : IfOk result (λ _. IsAtEnd after)

-- the source's count of faults after such an attempt: one more where it failed, and else as it was
abbrev pub CountsRead : {T : Type 0} → ℕ → ℕ → Result T ReadError → Type 0
CountsRead old new (Ok _) = new ≡ old
CountsRead old new (Err Failed) = RoseByOne old new
CountsRead old new (Err _) = new ≡ old
