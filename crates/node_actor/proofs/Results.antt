-- What is ensured of a result in one case.
use Rattle.std.proofs.Common.{◌≡◌, Result, Ok, Err, Option, Some, None, IfNone, IfOk, OnOk, subst}

pub map_ok : {T E A B : Type 0} → (r : Result T E) → (A → B) → OnOk r A → OnOk r B
map_ok (Ok x) f a = f a
map_ok (Err e) f a = tt

pub at_ok : {T E : Type 0} → (r : Result T E) (x : T) (P : T → Type 0) → r ≡ Ok x → IfOk r P → P x
at_ok r x P is holds = subst (λ s. IfOk s P) is holds

pub map_if : {T E : Type 0} → (r : Result T E) (P Q : T → Type 0) → ((x : T) → P x → Q x) → IfOk r P → IfOk r Q
map_if (Ok x) P Q f p = f x p
map_if (Err e) P Q f p = tt

pub map_none : {T A B : Type 0} → (o : Option T) → (A → B) → IfNone o A → IfNone o B
map_none (Some x) f a = tt
map_none None f a = f a
