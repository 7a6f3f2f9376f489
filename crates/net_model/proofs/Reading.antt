-- What is read of the columns: the entry at an index, and all that was sent and shown.
use Rattle.std.proofs.Common.{◌≡◌, ◌≤◌, ℕ, zero, suc, List, [], ◌∷◌, ◌++◌, length, drop, refl, sym, ap, subst, ◌∙◌, append_assoc, append-nil, arith, Some, None}
use Rattle.std.specs.List.{slice_get, slice_range}
use Rattle.std.specs.Option.{option_map}
use Rattle.std.proofs.lemmas.List.{reverse-append}
use Rattle.std.proofs.lemmas.List.Folds.{drop_split}
use Rattle.net_model.specs.declared.columns.Columns.{Columns}
use Rattle.net_model.specs.declared.steps.KeptStep.{KeptStep}
use Rattle.net_model.specs.Names.{Message, Mark, HistoryEntry}
use Rattle.net_model.specs.Pasts.{Past, past_of, sent, shown}
use Rattle.net_model.specs.inside.Kept.{entry_in, entries_in, entries_of, sends_before, marks_before, IsStepIn, AreStepsIn, IsWhole}

-- ---- the entry at an index

-- there are as many entries as steps
length_entries : (c : Columns) (from at : ℕ) (ss : List KeptStep) → length (entries_in c from at ss) ≡ length ss
length_entries c from at [] = refl
length_entries c from at (s ∷ ss) = ap suc (length_entries c s.sends_end s.marks_end ss)

pub length_entries_of : (c : Columns) → length (entries_of c) ≡ length c.steps
length_entries_of c = length_entries c 0 0 c.steps

entry_at : (c : Columns) (from at : ℕ) (ss : List KeptStep) (index : ℕ)
    → slice_get (entries_in c from at ss) index ≡ option_map (entry_in c (sends_before from ss index) (marks_before at ss index)) (slice_get ss index)
entry_at c from at [] index = refl
entry_at c from at (s ∷ ss) zero = refl
entry_at c from at (s ∷ ss) (suc index) = entry_at c s.sends_end s.marks_end ss index

pub entry_of_step : (c : Columns) (index : ℕ) (s : KeptStep) → slice_get c.steps index ≡ Some s
    → slice_get (entries_of c) index ≡ Some (entry_in c (sends_before 0 c.steps index) (marks_before 0 c.steps index) s)
entry_of_step c index s e = entry_at c 0 0 c.steps index ∙ ap (option_map (entry_in c (sends_before 0 c.steps index) (marks_before 0 c.steps index))) e

pub no_entry_of_step : (c : Columns) (index : ℕ) → slice_get c.steps index ≡ None → slice_get (entries_of c) index ≡ None
no_entry_of_step c index e = entry_at c 0 0 c.steps index ∙ ap (option_map (entry_in c (sends_before 0 c.steps index) (marks_before 0 c.steps index))) e

step_at : (c : Columns) (from at : ℕ) (ss : List KeptStep) (index : ℕ) (s : KeptStep) → slice_get ss index ≡ Some s → AreStepsIn c from at ss
    → IsStepIn c (sends_before from ss index) (marks_before at ss index) s
step_at c from at [] index s e h = absurd (cc)
step_at c from at (x ∷ ss) zero s e h = let same : x ≡ s = cc in subst (IsStepIn c from at) same h.0
step_at c from at (x ∷ ss) (suc index) s e h = step_at c x.sends_end x.marks_end ss index s e h.1

pub step_within : (c : Columns) (index : ℕ) (s : KeptStep) → slice_get c.steps index ≡ Some s → IsWhole c
    → IsStepIn c (sends_before 0 c.steps index) (marks_before 0 c.steps index) s
step_within c index s e w = step_at c 0 0 c.steps index s e w

-- a step's sends and marks begin where those of the one before it end
pub sends_follow : (from : ℕ) (ss : List KeptStep) (index : ℕ) (s : KeptStep) → slice_get ss index ≡ Some s → sends_before from ss (suc index) ≡ s.sends_end
sends_follow from [] index s e = absurd (cc)
sends_follow from (x ∷ ss) zero s e = let same : x ≡ s = cc in ap (λ (k : KeptStep). k.sends_end) same
sends_follow from (x ∷ ss) (suc index) s e = sends_follow x.sends_end ss index s e

pub marks_follow : (at : ℕ) (ss : List KeptStep) (index : ℕ) (s : KeptStep) → slice_get ss index ≡ Some s → marks_before at ss (suc index) ≡ s.marks_end
marks_follow at [] index s e = absurd (cc)
marks_follow at (x ∷ ss) zero s e = let same : x ≡ s = cc in ap (λ (k : KeptStep). k.marks_end) same
marks_follow at (x ∷ ss) (suc index) s e = marks_follow x.marks_end ss index s e

-- ---- all that was sent and shown

drop_all : {X : Type 0} (n : ℕ) (xs : List X) → n ≡ length xs → drop n xs ≡ []
drop_all zero [] e = refl
drop_all zero (x ∷ xs) e = absurd (omega arith)
drop_all (suc n) [] e = absurd (omega arith)
drop_all (suc n) (x ∷ xs) e = drop_all n xs (omega arith)

-- what an entry before all others sent comes first
sent_first : (past : Past) (e : HistoryEntry) → sent (past ++ e ∷ []) ≡ e.sends ++ sent past
sent_first [] e = sym (append-nil e.sends)
sent_first (x ∷ past) e = ap (λ l. l ++ x.sends) (sent_first past e) ∙ append_assoc e.sends (sent past) x.sends

shown_first : (past : Past) (e : HistoryEntry) → shown (past ++ e ∷ []) ≡ e.marks ++ shown past
shown_first [] e = sym (append-nil e.marks)
shown_first (x ∷ past) e = ap (λ l. l ++ x.marks) (shown_first past e) ∙ append_assoc e.marks (shown past) x.marks

past_first : (e : HistoryEntry) (later : List HistoryEntry) → past_of (e ∷ later) ≡ past_of later ++ e ∷ []
past_first e later = reverse-append (e ∷ []) later

-- what is read of one more entry and of those after it
one_more : {X : Type 0} (read : Past → List X) (own : HistoryEntry → List X) → ((past : Past) (e : HistoryEntry) → read (past ++ e ∷ []) ≡ own e ++ read past)
    → (e : HistoryEntry) (later : List HistoryEntry) (all : List X) (from end : ℕ) → own e ≡ slice_range all from end → from ≤ end
    → read (past_of later) ≡ drop end all → read (past_of (e ∷ later)) ≡ drop from all
one_more read own first e later all from end part rise rest =
    ap read (past_first e later) ∙ first (past_of later) e ∙ ap (λ l. l ++ read (past_of later)) part
    ∙ ap (λ l. slice_range all from end ++ l) rest ∙ sym (drop_split all from end rise)

sent_from : (c : Columns) (from at : ℕ) (ss : List KeptStep) → AreStepsIn c from at ss → sent (past_of (entries_in c from at ss)) ≡ drop from c.messages
sent_from c from at [] h = sym (drop_all from c.messages h.0)
sent_from c from at (s ∷ ss) h =
    one_more sent (λ e. e.sends) sent_first (entry_in c from at s) (entries_in c s.sends_end s.marks_end ss) c.messages from s.sends_end refl h.0.sends_rise
    (sent_from c s.sends_end s.marks_end ss h.1)

shown_from : (c : Columns) (from at : ℕ) (ss : List KeptStep) → AreStepsIn c from at ss → shown (past_of (entries_in c from at ss)) ≡ drop at c.marks
shown_from c from at [] h = sym (drop_all at c.marks h.1)
shown_from c from at (s ∷ ss) h =
    one_more shown (λ e. e.marks) shown_first (entry_in c from at s) (entries_in c s.sends_end s.marks_end ss) c.marks at s.marks_end refl h.0.marks_rise
    (shown_from c s.sends_end s.marks_end ss h.1)

pub sent_all : (c : Columns) (history : List HistoryEntry) → IsWhole c → entries_of c ≡ history → c.messages ≡ sent (past_of history)
sent_all c history w e = sym (sent_from c 0 0 c.steps w) ∙ ap (λ h. sent (past_of h)) e

pub shown_all : (c : Columns) (history : List HistoryEntry) → IsWhole c → entries_of c ≡ history → c.marks ≡ shown (past_of history)
shown_all c history w e = sym (shown_from c 0 0 c.steps w) ∙ ap (λ h. shown (past_of h)) e
