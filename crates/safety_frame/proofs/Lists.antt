-- Lists that grow at their ends: what is told of a beginning stays true of the whole.
use Rattle.std.proofs.Common.{◌≡◌, ◌∙◌, ℕ, ◌≤◌, List, [], ◌∷◌, ◌++◌, length, map, Some, Contains, append_assoc, append-nil, refl, sym, ap, subst, arith}
use Rattle.std.specs.List.{AllByRecursion, slice_get}
use Rattle.std.proofs.lemmas.List.{length-append}
use Rattle.std.proofs.lemmas.List.Elements.{All-contains, All-from_recursion, Contains-append_left}
use Rattle.std.proofs.lemmas.Option.{slice_get_within}
use Rattle.fix_ante.proofs.Entries.{slice_get_append_left}
use Rattle.majority.proofs.Lists.{Contains_here, Contains_later}
use Rattle.runs.specs.Marks.{IsPrefix, EachAfter}

-- ---- beginnings

pub begins_itself : {A : Type 0} (xs : List A) → IsPrefix xs xs
begins_itself xs = ([], sym (append-nil xs))

pub begins_more : {A : Type 0} (xs more : List A) → IsPrefix xs (xs ++ more)
begins_more xs more = (more, refl)

pub begins_on : {A : Type 0} (xs ys zs : List A) → IsPrefix xs ys → IsPrefix ys zs → IsPrefix xs zs
begins_on xs ys zs p q = (p.0 ++ q.0, q.1 ∙ (ap (λ l. l ++ q.0) p.1 ∙ append_assoc xs p.0 q.0))

pub begins_same : {A : Type 0} (xs ys : List A) → ys ≡ xs → IsPrefix xs ys
begins_same xs ys e = ([], e ∙ sym (append-nil xs))

-- ---- what stays true

pub length_stays : {A : Type 0} (xs ys : List A) (n : ℕ) → IsPrefix xs ys → n ≤ length xs → n ≤ length ys
length_stays xs ys n p below = omega (arith, below, ap length p.1, length-append xs p.0)

pub member_stays : {A : Type 0} (xs ys : List A) (x : A) → IsPrefix xs ys → Contains xs x → Contains ys x
member_stays xs ys x p c = subst (λ l. Contains l x) (sym p.1) (Contains-append_left xs p.0 x c)

pub index_stays : {A : Type 0} (xs ys : List A) (i : ℕ) (x : A) → IsPrefix xs ys → slice_get xs i ≡ Some x → slice_get ys i ≡ Some x
index_stays xs ys i x p at =
    ap (λ l. slice_get l i) p.1 ∙ (slice_get_append_left xs p.0 i (slice_get_within xs i x at) ∙ at)

-- ---- members of all

pub each_member : {A : Type 0} (P : A → Type 0) (xs : List A) (x : A) → AllByRecursion P xs → Contains xs x → P x
each_member P xs x all c = All-contains P xs x (All-from_recursion P xs all) c

pub from_members : {A : Type 0} (P : A → Type 0) (xs : List A) → ((x : A) → Contains xs x → P x) → AllByRecursion P xs
from_members P [] each = tt
from_members P (x ∷ xs) each = (each x (Contains_here x xs), from_members P xs (λ y c. each y (Contains_later x y xs c)))

pub all_true : {A : Type 0} (P : A → Type 0) (xs : List A) → ((x : A) → P x) → AllByRecursion P xs
all_true P [] each = tt
all_true P (x ∷ xs) each = (each x, all_true P xs each)

pub all_mapped : {A B : Type 0} (P : B → Type 0) (f : A → B) (xs : List A) → AllByRecursion (λ x. P (f x)) xs → AllByRecursion P (map f xs)
all_mapped P f [] all = tt
all_mapped P f (x ∷ xs) all = (all.0, all_mapped P f xs all.1)

pub all_front : {A : Type 0} (P : A → Type 0) (xs ys : List A) → AllByRecursion P (xs ++ ys) → AllByRecursion P xs
all_front P [] ys all = tt
all_front P (x ∷ xs) ys all = (all.0, all_front P xs ys all.1)

pub all_back : {A : Type 0} (P : A → Type 0) (xs ys : List A) → AllByRecursion P (xs ++ ys) → AllByRecursion P ys
all_back P [] ys all = all
all_back P (x ∷ xs) ys all = all_back P xs ys all.1

-- ---- each member, given the earlier ones

-- one member more, after all the others
pub each_push : {A : Type 0} (P : List A → A → Type 0) (before xs : List A) (x : A) → EachAfter P before xs → P (before ++ xs) x
    → EachAfter P before (xs ++ x ∷ [])
each_push P before [] x each at = (subst (λ l. P l x) (append-nil before) at, tt)
each_push P before (y ∷ ys) x each at =
    (each.0, each_push P (before ++ y ∷ []) ys x each.1 (subst (λ l. P l x) (sym (append_assoc before (y ∷ []) ys)) at))
