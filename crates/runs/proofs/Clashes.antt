-- What can't be: equal lists, options and events of different kinds, and members of lists that have none.
use Rattle.std.proofs.Common.{◌≡◌, ◌⊎◌, ℕ, zero, suc, ◌<◌, ◌∙◌, List, [], ◌∷◌, length, get_or, Some, None, Less, Equal, Greater, Contains, inl, inr, ap, sym, arith}
use Rattle.std.specs.List.{AllByRecursion}
use Rattle.majority.proofs.Lists.{Contains_cases}
use Rattle.runs.specs.Names.{Message, Mark}
use Rattle.runs.specs.Names.marks
use Rattle.runs.specs.Names.events
use Rattle.runs.specs.Marks.{notice_in}

pub cons_nil : {A : Type 0} {x : A} {xs : List A} → x ∷ xs ≡ [] → ⊥
cons_nil e = cc

pub nil_cons : {A : Type 0} {x : A} {xs : List A} → [] ≡ x ∷ xs → ⊥
nil_cons e = cc

pub none_some : {A : Type 0} {x : A} → None ≡ Some x → ⊥
none_some e = cc

pub some_none : {A : Type 0} {x : A} → Some x ≡ None → ⊥
some_none e = cc

pub equal_less : Equal ≡ Less → ⊥
equal_less e = cc

pub greater_less : Greater ≡ Less → ⊥
greater_less e = cc

pub tick_deliver : {m : Message} → events.Tick ≡ events.Deliver m → ⊥
tick_deliver e = cc

-- ---- members

pub no_member : {A : Type 0} {x : A} → Contains [] x → ⊥
no_member c = omega (arith, c.1)

only_at : {A : Type 0} {x y : A} (k : ℕ) → k < length (y ∷ []) → get_or (y ∷ []) k x ≡ x → y ≡ x
only_at zero h e = e
only_at (suc k) h e = absurd (omega (arith, h))

pub only_member : {A : Type 0} {x y : A} → Contains (y ∷ []) x → y ≡ x
only_member c = only_at c.0 c.1 c.2

pub neither : {A B : Type 0} → A ⊎ B → (A → ⊥) → (B → ⊥) → ⊥
neither (inl a) f g = f a
neither (inr b) f g = g b

-- ---- notices

-- marks of which none is a notice have none
abbrev pub HasNoNotice : List Mark → Type 0
HasNoNotice = AllByRecursion (λ mark. notice_in mark ≡ None)

pub no_notice : (shown : List Mark) (first : ℕ) → HasNoNotice shown → Contains shown (marks.Notice first) → ⊥
no_notice [] first none c = no_member c
no_notice (mark ∷ shown) first none c =
    neither (Contains_cases mark (marks.Notice first) shown c) (λ same. none_some (sym none.0 ∙ ap notice_in same)) (no_notice shown first none.1)
