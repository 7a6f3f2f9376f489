-- What an attempt to write a text put out.
use Rattle.std.specs.Prelude.{◌≡◌, ◌≤◌, ℕ, List, length, take, Option, Result, OnOk}
use Rattle.std.specs.Io.KnownBytes.{append_known}
use Rattle.spec_base.specs.declared.stop.Stop.{Stop}

-- an attempt to write a text put this many of its bytes out, and all of them where it answers Ok
pub record HasWritten {T : Type 0} (before after : Option (List ℕ)) (text : List ℕ) (result : Result T Stop) : Type 0 where
  pub count : ℕ
  pub within : count ≤ length text
  pub out : after ≡ append_known before (take count text)
  pub whole : OnOk result (count ≡ length text)
