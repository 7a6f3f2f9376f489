-- What one output more or less at an end of the gate leaves.
use Rattle.std.proofs.Common.{◌≡◌, ℕ, ◌+◌, ◌<◌, ◌≤◌, true, false, List, [], ◌∷◌, ◌++◌, length, Option, Some, None, refl, sym, ap, ◌∙◌, subst, append_assoc, length-append, arith}
use Rattle.std.proofs.lemmas.List.{append-nil}
use Rattle.app_law.specs.Positions.{below, from_on, IsRising, IsPast}
use Rattle.app_law.proofs.PositionLemmas.{below_push, below_past, below_first, from_on_first, from_on_all}
use Rattle.app_law.proofs.EndLemmas.{Newest, Oldest}
use Rattle.output_gate.specs.declared.kept.KeptOut.{KeptOut}
use Rattle.output_gate.specs.Gates.{Gate, out_position, gate_below, gate_from}
use Rattle.output_gate.specs.Steps.{TakesOldest, DropsNewest}

pub past_along : (p : ℕ) (v w : Gate) → v ≡ w → IsPast out_position v.held p → IsPast out_position w.held p
past_along p v w e h = let P : Gate → Type 0 = λ x. IsPast out_position x.held p in subst P e h

made : (m n : ℕ) (xs ys : List KeptOut) → m ≡ n → xs ≡ ys → ◌≡◌ {A = Gate} (record { room = m; held = xs }) (record { room = n; held = ys })
made m n xs ys e h = rw (e, h) refl

pub rising_oldest : (p : ℕ) (old new : List KeptOut) (r : Option KeptOut) → IsRising out_position old → Oldest out_position p old new r → IsRising out_position new
rising_oldest p old new None rising h = rw h.0 rising
rising_oldest p old new (Some z) rising h = h.2

pub rising_newest : (p : ℕ) (old new : List KeptOut) (r : Option KeptOut) → IsRising out_position old → Newest out_position p old new r → IsRising out_position new
rising_newest p old new None rising h = rw h.0 rising
rising_newest p old new (Some z) rising h = h.2

-- the oldest output stays, or goes
pub takes : (p m n : ℕ) (old new : List KeptOut) (now : Gate) (r : Option KeptOut) → n ≡ m → record { room = m; held = old } ≡ now → Oldest out_position p old new r → TakesOldest p now (record { room = n; held = new }) r
takes p m n old new now None room is h =
    let B : Gate → Type 0 = λ x. below out_position p x.held ≡ [] in
    let F : Gate → Type 0 = λ x. from_on out_position p x.held ≡ x.held in
    (made n m new old room h.0 ∙ is, subst B is h.1, subst F is h.2)
takes p m n old new now (Some z) room is h = (h.0, sym is ∙ made m n old (z ∷ new) (sym room) h.1)

-- the newest output stays, or goes
pub drops_none : (p m n : ℕ) (old new : List KeptOut) (now : Gate) → n ≡ m → record { room = m; held = old } ≡ now → Newest out_position p old new None → DropsNewest p now (record { room = n; held = new }) false
drops_none p m n old new now room is h =
    (made n m new old room h.0 ∙ is, past_along p (record { room = m; held = old }) now is h.1)

pub drops_some : (p m n : ℕ) (old new : List KeptOut) (now : Gate) (z : KeptOut) → n ≡ m → record { room = m; held = old } ≡ now → Newest out_position p old new (Some z) → DropsNewest p now (record { room = n; held = new }) true
drops_some p m n old new now z room is h = (z, h.0, sym is ∙ made m n old (new ++ z ∷ []) (sym room) h.1)

-- an output below a position: what stands from there on, and what stands below
pub from_taken : (p : ℕ) (x : KeptOut) (old new : Gate) → x.position < p → old ≡ record { room = new.room; held = x ∷ new.held } → gate_from old p ≡ gate_from new p
from_taken p x old new h e =
    ap (λ v. gate_from v p) e ∙ ap (λ held. record { room = new.room; held = held }) (from_on_first out_position p x new.held h)

pub below_taken : (p : ℕ) (x : KeptOut) (old new : Gate) → x.position < p → old ≡ record { room = new.room; held = x ∷ new.held } → below out_position p old.held ≡ x ∷ below out_position p new.held
below_taken p x old new h e =
    ap (λ (v : Gate). below out_position p v.held) e ∙ below_first out_position p x new.held h

pub released_taken : (p : ℕ) (x : KeptOut) (old new : Gate) (into : List KeptOut) → x.position < p → old ≡ record { room = new.room; held = x ∷ new.held } → (into ++ x ∷ []) ++ below out_position p new.held ≡ into ++ below out_position p old.held
released_taken p x old new into h e =
    append_assoc into (x ∷ []) (below out_position p new.held) ∙ ap (λ rest. into ++ rest) (sym (below_taken p x old new h e))

pub room_taken : (p : ℕ) (x : KeptOut) (old new : Gate) (into : List KeptOut) → x.position < p → old ≡ record { room = new.room; held = x ∷ new.held } → length into + length (below out_position p old.held) ≤ 3 → (length into < 3) × (length (into ++ x ∷ []) + length (below out_position p new.held) ≤ 3)
room_taken p x old new into h e room =
    let here : length (below out_position p old.held) ≡ length (below out_position p new.held) + 1 = ap length (below_taken p x old new h e) ∙ omega arith in
    let there : length (into ++ x ∷ []) ≡ length into + 1 = omega (arith, length-append into (x ∷ [])) in
    (omega arith, omega arith)

pub from_none : (p : ℕ) (v : Gate) → from_on out_position p v.held ≡ v.held → gate_from v p ≡ v
from_none p v h = ap (λ held. record { room = v.room; held = held }) h

-- where one output alone stands below a position, taking it leaves what stands from there on
pub only_taken : (p : ℕ) (x : KeptOut) (old new : Gate) → x.position < p → old ≡ record { room = new.room; held = x ∷ new.held } → length (below out_position p old.held) ≡ 1 → new ≡ gate_from old p
only_taken p x old new h e one =
    let here = ap length (below_taken p x old new h e) in
    let none : length (below out_position p new.held) ≡ 0 = omega arith in
    sym (from_taken p x old new h e ∙ from_none p new (from_on_all out_position p new.held none))

pub released_none : (p : ℕ) (v : Gate) (into : List KeptOut) → below out_position p v.held ≡ [] → into ≡ into ++ below out_position p v.held
released_none p v into h = sym (append-nil into) ∙ ap (λ rest. into ++ rest) (sym h)

-- an output at a position or past it makes no difference below
pub below_dropped : (p : ℕ) (x : KeptOut) (old new : Gate) → p ≤ x.position → old ≡ record { room = new.room; held = new.held ++ x ∷ [] } → gate_below old p ≡ gate_below new p
below_dropped p x old new h e =
    ap (λ v. gate_below v p) e ∙ ap (λ held. record { room = new.room; held = held }) (below_push out_position p new.held x h)

pub below_all : (p : ℕ) (v : Gate) → IsPast out_position v.held p → gate_below v p ≡ v
below_all p v h = ap (λ held. record { room = v.room; held = held }) (below_past out_position p v.held h)
