-- The held undos take a state back to the one before a position, and stay so as points come and go.
use Rattle.std.proofs.Common.{◌≡◌, ℕ, ◌<◌, ◌≤◌, nat_lt, true, false, List, [], ◌∷◌, ◌++◌, length, take, drop, refl, sym, ap, ◌∙◌, inl, inr, ◌⊎◌, Option, Some, None, subst, arith}
use Rattle.std.proofs.lemmas.Bool.Decides.{nat_tests}
use Rattle.record_codec.specs.declared.record.Record.{Record}
use Rattle.app_law.specs.Folds.{fold_of}
use Rattle.app_law.specs.Positions.{below, from_on, IsRising}
use Rattle.app_law.proofs.PositionLemmas.{below_first, from_on_first, below_above, from_on_above, all_above}
use Rattle.undo_points.specs.declared.points.UndoPoint.{UndoPoint}
use Rattle.app_law.proofs.PositionLemmas.{below_push, from_on_push, below_past, from_on_past}
use Rattle.app_law.proofs.EndLemmas.{Newest, Oldest}
use Rattle.app_law.specs.Positions.{IsPast}
use Rattle.undo_points.specs.Points.{Points, point_position, pushed, points_below, points_from, taken_back, Gave}
use Rattle.undo_points.specs.inside.Steps.{TakesNewest, DropsOldest}

lower_or_not : (m n : ℕ) → (m < n) ⊎ (n ≤ m)
lower_or_not m n = elim (nat_lt m n) as (λ b. nat_lt m n ≡ b → (m < n) ⊎ (n ≤ m)) [
  | true ↦ λ e. inl (grind (arith, nat_tests))
  | false ↦ λ e. inr (grind (arith, nat_tests))
] refl

-- the newest point is taken back first
pub taken_back_push : {S U : Type 0} (restored : U → S → S) (points : List (UndoPoint U)) (x : UndoPoint U) (s : S)
    → taken_back restored (points ++ x ∷ []) s ≡ taken_back restored points (restored x.undo s)
taken_back_push restored [] x s = refl
taken_back_push restored (y ∷ points) x s = ap (restored y.undo) (taken_back_push restored points x s)

-- the points from a position on take a state back to the one that stood before it
pub taken_back_is : {S U : Type 0} (next : S → Record → S) (restored : U → S → S) (p : ℕ) (s : S) (log : List Record) (points : List (UndoPoint U))
    → IsRising point_position points → Gave next restored s log points
    → taken_back restored (from_on point_position p points) (fold_of next s log) ≡ fold_of next s (take (length (below point_position p points)) log)
taken_back_is next restored p s [] [] rising gave = refl
taken_back_is next restored p s [] (x ∷ points) rising gave = absurd gave
taken_back_is next restored p s (r ∷ log) [] rising gave = absurd gave
taken_back_is next restored p s (r ∷ log) (x ∷ points) rising gave =
    let rest = taken_back_is next restored p (next s r) log points rising.1 gave.1 in
    elim (lower_or_not x.position p) [
      | inl h ↦ rw (from_on_first point_position p x points h, below_first point_position p x points h) rest
      | inr h ↦
          let above = all_above point_position p x.position points h rising.0 in
          let before : taken_back restored points (fold_of next (next s r) log) ≡ next s r = rw above.1 at (rw above.0 at rest) in
          rw (from_on_above point_position p x points rising h, below_above point_position p x points rising h) (ap (restored x.undo) before ∙ gave.0)
    ]

-- one more record, and the point that it gave
pub Gave_push : {S U : Type 0} (next : S → Record → S) (restored : U → S → S) (s : S) (log : List Record) (points : List (UndoPoint U)) (r : Record) (x : UndoPoint U)
    → Gave next restored s log points → restored x.undo (next (fold_of next s log) r) ≡ fold_of next s log
    → Gave next restored s (log ++ r ∷ []) (points ++ x ∷ [])
Gave_push next restored s [] [] r x gave undoes = (undoes, tt)
Gave_push next restored s [] (y ∷ points) r x gave undoes = absurd gave
Gave_push next restored s (q ∷ log) [] r x gave undoes = absurd gave
Gave_push next restored s (q ∷ log) (y ∷ points) r x gave undoes = (gave.0, Gave_push next restored (next s q) log points r x gave.1 undoes)

-- the points that stay, and the records that gave them; and those that are not forgotten, from the state before them
abbrev GaveParts : {S U : Type 0} → (S → Record → S) → (U → S → S) → ℕ → S → List Record → List (UndoPoint U) → Type 0
GaveParts next restored p s log points =
    let under = below point_position p points in
    Gave next restored s (take (length under) log) under × Gave next restored (fold_of next s (take (length under) log)) (drop (length under) log) (from_on point_position p points)

Gave_parts : {S U : Type 0} (next : S → Record → S) (restored : U → S → S) (p : ℕ) (s : S) (log : List Record) (points : List (UndoPoint U))
    → IsRising point_position points → Gave next restored s log points → GaveParts next restored p s log points
Gave_parts next restored p s [] [] rising gave = (tt, tt)
Gave_parts next restored p s [] (x ∷ points) rising gave = absurd gave
Gave_parts next restored p s (r ∷ log) [] rising gave = absurd gave
Gave_parts next restored p s (r ∷ log) (x ∷ points) rising gave =
    let rest = Gave_parts next restored p (next s r) log points rising.1 gave.1 in
    elim (lower_or_not x.position p) [
      | inl h ↦ rw (from_on_first point_position p x points h, below_first point_position p x points h) ((gave.0, rest.0), rest.1)
      | inr h ↦ rw (from_on_above point_position p x points rising h, below_above point_position p x points rising h) (tt, gave)
    ]

pub Gave_below : {S U : Type 0} (next : S → Record → S) (restored : U → S → S) (p : ℕ) (s : S) (log : List Record) (points : List (UndoPoint U))
    → IsRising point_position points → Gave next restored s log points
    → Gave next restored s (take (length (below point_position p points)) log) (below point_position p points)
Gave_below next restored p s log points rising gave = (Gave_parts next restored p s log points rising gave).0

pub Gave_from : {S U : Type 0} (next : S → Record → S) (restored : U → S → S) (p : ℕ) (s : S) (log : List Record) (points : List (UndoPoint U))
    → IsRising point_position points → Gave next restored s log points
    → Gave next restored (fold_of next s (take (length (below point_position p points)) log)) (drop (length (below point_position p points)) log) (from_on point_position p points)
Gave_from next restored p s log points rising gave = (Gave_parts next restored p s log points rising gave).1

-- what a view of the points says, whichever way it is written
pub rising_along : {U : Type 0} (v w : Points U) → v ≡ w → IsRising point_position v.held → IsRising point_position w.held
rising_along {U} v w e h = let P : Points U → Type 0 = λ x. IsRising point_position x.held in subst P e h

past_along : {U : Type 0} (p : ℕ) (v w : Points U) → v ≡ w → IsPast point_position v.held p → IsPast point_position w.held p
past_along {U} p v w e h = let P : Points U → Type 0 = λ x. IsPast point_position x.held p in subst P e h

made : {U : Type 0} (m n : ℕ) (xs ys : List (UndoPoint U)) → m ≡ n → xs ≡ ys
    → ◌≡◌ {A = Points U} (record { room = m; held = xs }) (record { room = n; held = ys })
made m n xs ys e h = rw (e, h) refl

-- the newest point stays, or goes
pub takes_none : {U : Type 0} (p m n : ℕ) (old new : List (UndoPoint U)) (now : Points U) → n ≡ m → record { room = m; held = old } ≡ now
    → Newest point_position p old new None → TakesNewest p now (record { room = n; held = new }) None
takes_none p m n old new now room is h =
    (made n m new old room h.0 ∙ is, past_along p (record { room = m; held = old }) now is h.1)

pub takes_some : {U : Type 0} (p m n : ℕ) (old new : List (UndoPoint U)) (now : Points U) (z : UndoPoint U) → n ≡ m → record { room = m; held = old } ≡ now
    → Newest point_position p old new (Some z) → TakesNewest p now (record { room = n; held = new }) (Some z.undo)
takes_some p m n old new now z room is h =
    (z.position, h.0, sym is ∙ made m n old (new ++ z ∷ []) (sym room) h.1)

-- the oldest point stays, or goes
pub drops_none : {U : Type 0} (p m n : ℕ) (old new : List (UndoPoint U)) (now : Points U) → n ≡ m → record { room = m; held = old } ≡ now
    → Oldest point_position p old new None → DropsOldest p now (record { room = n; held = new }) false
drops_none {U} p m n old new now room is h =
    let P : Points U → Type 0 = λ x. from_on point_position p x.held ≡ x.held in
    (made n m new old room h.0 ∙ is, subst P is h.2)

pub drops_some : {U : Type 0} (p m n : ℕ) (old new : List (UndoPoint U)) (now : Points U) (z : UndoPoint U) → n ≡ m → record { room = m; held = old } ≡ now
    → Oldest point_position p old new (Some z) → DropsOldest p now (record { room = n; held = new }) true
drops_some p m n old new now z room is h =
    (z.position, z.undo, h.0, sym is ∙ made m n old (z ∷ new) (sym room) h.1)

-- a point at a position or past it makes no difference below
pub below_pushed : {U : Type 0} (p at : ℕ) (undo : U) (old new : Points U) → p ≤ at → old ≡ pushed new at undo → points_below old p ≡ points_below new p
below_pushed p at undo old new h e =
    ap (λ v. points_below v p) e ∙ ap (λ held. record { room = new.room; held = held }) (below_push point_position p new.held (record { position = at; undo = undo }) h)

-- and is taken back first
pub back_pushed : {S U : Type 0} (restored : U → S → S) (p at : ℕ) (undo : U) (old new : Points U) (s : S) → p ≤ at → old ≡ pushed new at undo
    → taken_back restored (from_on point_position p old.held) s ≡ taken_back restored (from_on point_position p new.held) (restored undo s)
back_pushed {S} {U} restored p at undo old new s h e =
    let x : UndoPoint U = record { position = at; undo = undo } in
    ap (λ v. taken_back restored (from_on point_position p v.held) s) e ∙ (ap (λ held. taken_back restored held s) (from_on_push point_position p new.held x h) ∙ taken_back_push restored (from_on point_position p new.held) x s)

-- where all points stand below a position
pub below_all : {U : Type 0} (p : ℕ) (v : Points U) → IsPast point_position v.held p → points_below v p ≡ v
below_all p v h = ap (λ held. record { room = v.room; held = held }) (below_past point_position p v.held h)

pub back_all : {S U : Type 0} (restored : U → S → S) (p : ℕ) (v : Points U) (s : S) → IsPast point_position v.held p
    → taken_back restored (from_on point_position p v.held) s ≡ s
back_all restored p v s h = ap (λ held. taken_back restored held s) (from_on_past point_position p v.held h)

-- a point below a position makes no difference from there on
pub from_dropped : {U : Type 0} (p at : ℕ) (undo : U) (old new : Points U) → at < p
    → old ≡ record { room = new.room; held = record { position = at; undo = undo } ∷ new.held } → points_from old p ≡ points_from new p
from_dropped p at undo old new h e =
    ap (λ v. points_from v p) e ∙ ap (λ held. record { room = new.room; held = held }) (from_on_first point_position p (record { position = at; undo = undo }) new.held h)

pub from_none : {U : Type 0} (p : ℕ) (v : Points U) → from_on point_position p v.held ≡ v.held → points_from v p ≡ v
from_none p v h = ap (λ held. record { room = v.room; held = held }) h

pub rising_newest : {U : Type 0} (p : ℕ) (old new : List (UndoPoint U)) (r : Option (UndoPoint U)) → IsRising point_position old
    → Newest point_position p old new r → IsRising point_position new
rising_newest p old new None rising h = rw h.0 rising
rising_newest p old new (Some z) rising h = h.2

pub rising_oldest : {U : Type 0} (p : ℕ) (old new : List (UndoPoint U)) (r : Option (UndoPoint U)) → IsRising point_position old
    → Oldest point_position p old new r → IsRising point_position new
rising_oldest p old new None rising h = rw h.0 rising
rising_oldest p old new (Some z) rising h = h.2
