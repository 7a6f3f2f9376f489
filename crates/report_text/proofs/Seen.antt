-- Maps of references, seen as what they point to.
use Rattle.std.proofs.Common.{◌≡◌, ℕ, ◌||◌, Bool, true, false, cond, List, Option, Some, None, Bor, refl, sym, ap, ◌∙◌}
use Rattle.std.specs.Option.{is_some, option_map}
use Rattle.std.specs.BTreeMap.{insert_entry}
use Rattle.std.specs.Ordering.{nat_cmp}
use Rattle.runs.specs.Names.{Entry, Record}
use Rattle.report_text.specs.declared.positions.Confirmed.{Confirmed as Found}
use Rattle.report_text.specs.Positions.{same_record}
use Rattle.report_text.specs.inside.Telling.{Told, with_told}
use Rattle.report_text.specs.inside.Confirming.{Confirmed, with_known, with_confirmed}
use Rattle.report_text.proofs.Keyed.{find, seen, find_seen, insert_seen}

some_map : {X Y : Type 0} (f : X → Y) (o : Option X) → is_some (option_map f o) ≡ is_some o
some_map f None = refl
some_map f (Some x) = refl

-- ---- slots

abbrev told_in : List (ℕ × Bor Entry) → Told
told_in es = seen (λ (e : Bor Entry). e.now) es

is_told_in : (es : List (ℕ × Bor Entry)) (told : Told) (slot : ℕ) → told_in es ≡ told → is_some (find slot told) ≡ is_some (find slot es)
is_told_in es told slot view = ap (λ t. is_some (find slot t)) (sym view) ∙ ap is_some (find_seen (λ (e : Bor Entry). e.now) es slot) ∙ some_map (λ (e : Bor Entry). e.now) (find slot es)

pub told_kept : (es : List (ℕ × Bor Entry)) (told : Told) (slot : ℕ) (entry : Entry) → told_in es ≡ told → is_some (find slot es) ≡ true
    → told ≡ with_told told slot entry
told_kept es told slot entry view some = sym (ap (λ b. cond b told (insert_entry nat_cmp told slot entry)) (is_told_in es told slot view ∙ some))

pub told_new : (es new : List (ℕ × Bor Entry)) (told : Told) (slot : ℕ) (entry : Bor Entry) → told_in es ≡ told → is_some (find slot es) ≡ false
    → new ≡ insert_entry nat_cmp es slot entry → told_in new ≡ with_told told slot entry.now
told_new es new told slot entry view none is =
    ap told_in is ∙ insert_seen (λ (e : Bor Entry). e.now) es slot entry ∙ ap (λ t. insert_entry nat_cmp t slot entry.now) view
    ∙ sym (ap (λ b. cond b told (insert_entry nat_cmp told slot entry.now)) (is_told_in es told slot view ∙ none))

-- ---- positions

abbrev known_in : Found → Record × Bool
known_in known = (known.first.now, known.differs)

abbrev confirmed_in : List (ℕ × Found) → Confirmed
confirmed_in es = seen known_in es

known_at : (es : List (ℕ × Found)) (c : Confirmed) (position : ℕ) (o : Option Found) → confirmed_in es ≡ c → find position es ≡ o
    → find position c ≡ option_map known_in o
known_at es c position o view is = ap (find position) (sym view) ∙ find_seen known_in es position ∙ ap (option_map known_in) is

pub confirmed_put : (es new : List (ℕ × Found)) (c : Confirmed) (position : ℕ) (known : Found) → confirmed_in es ≡ c
    → new ≡ insert_entry nat_cmp es position known → confirmed_in new ≡ insert_entry nat_cmp c position (known_in known)
confirmed_put es new c position known view is = ap confirmed_in is ∙ insert_seen known_in es position known ∙ ap (λ c. insert_entry nat_cmp c position (known_in known)) view

pub confirmed_new : (es : List (ℕ × Found)) (c : Confirmed) (position : ℕ) (rec : Record) → confirmed_in es ≡ c → find position es ≡ None
    → insert_entry nat_cmp c position (rec, false) ≡ with_confirmed c position rec
confirmed_new es c position rec view none = sym (ap (λ o. with_known o c position rec) (known_at es c position None view none))

pub confirmed_kept : (es : List (ℕ × Found)) (c : Confirmed) (position : ℕ) (rec : Record) (known : Found) → confirmed_in es ≡ c → find position es ≡ Some known
    → (known.differs || same_record known.first.now rec) ≡ true → c ≡ with_confirmed c position rec
confirmed_kept es c position rec known view some same =
    sym (ap (λ o. with_known o c position rec) (known_at es c position (Some known) view some) ∙ ap (λ b. cond b c (insert_entry nat_cmp c position (known.first.now, true))) same)

pub confirmed_changed : (es : List (ℕ × Found)) (c : Confirmed) (position : ℕ) (rec : Record) (known : Found) → confirmed_in es ≡ c
    → find position es ≡ Some known → (known.differs || same_record known.first.now rec) ≡ false
    → insert_entry nat_cmp c position (known.first.now, true) ≡ with_confirmed c position rec
confirmed_changed es c position rec known view some same =
    sym (ap (λ o. with_known o c position rec) (known_at es c position (Some known) view some) ∙ ap (λ b. cond b c (insert_entry nat_cmp c position (known.first.now, true))) same)

pub or_true : (a b : Bool) → b ≡ true → (a || b) ≡ true
or_true true b h = refl
or_true false b h = h
