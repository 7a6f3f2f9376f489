-- What holds of an answer's value, where more follows from it.
use Rattle.std.proofs.Common.{Result, Ok, Err, IfOk}

pub at_ok : {T E : Type 0} (P Q : T → Type 0) (r : Result T E) → ((x : T) → P x → Q x) → IfOk r P → IfOk r Q
at_ok P Q (Ok x) then is = then x is
at_ok P Q (Err e) then is = tt
