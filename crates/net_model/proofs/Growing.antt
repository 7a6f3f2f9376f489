-- What a step more at the end of the columns leaves as it was, and that the columns of messages and marks are all that
-- the entries sent and showed.
use Rattle.std.proofs.Common.{◌≡◌, ℕ, zero, suc, ◌+◌, ◌-◌, ◌<◌, ◌≤◌, List, [], ◌∷◌, ◌++◌, length, take, drop, reverse, refl, sym, ap, subst, ◌∙◌, append_assoc, append-nil, length-append, length-drop, arith, Option, Some, None}
use Rattle.std.specs.List.{slice_get, slice_range}
use Rattle.std.specs.Option.{option_map_or, unwrap_or}
use Rattle.std.proofs.lemmas.List.{take-append-le, drop-append-le, reverse-append}
use Rattle.std.proofs.lemmas.List.Folds.{drop_split}
use Rattle.std.proofs.Math.Seq.{drop-append_seam}
use Rattle.net_model.specs.declared.columns.Columns.{Columns}
use Rattle.net_model.specs.declared.steps.KeptStep.{KeptStep}
use Rattle.net_model.specs.declared.steps.Taken.{Taken}
use Rattle.net_model.specs.declared.steps.Taken.TheVariants as kept
use Rattle.net_model.specs.Names.{NodeId, Message, Mark, Event, HistoryEntry}
use Rattle.net_model.specs.Names.events
use Rattle.net_model.specs.Pasts.{Past, past_of, sent, shown}
use Rattle.net_model.specs.inside.Kept.{event_in, entry_in, entries_in, entries_of, IsTakenIn, IsStepIn, AreStepsIn, IsWhole, taken_as, with_whole, with_event, with_step}

-- ---- lists

slice_get_before : {X : Type 0} (xs ys : List X) (i : ℕ) → i < length xs → slice_get (xs ++ ys) i ≡ slice_get xs i
slice_get_before [] ys i h = absurd (omega arith)
slice_get_before (x ∷ xs) ys zero h = refl
slice_get_before (x ∷ xs) ys (suc i) h = slice_get_before xs ys i (omega arith)

slice_get_last : {X : Type 0} (xs : List X) (x : X) → slice_get (xs ++ x ∷ []) (length xs) ≡ Some x
slice_get_last [] x = refl
slice_get_last (y ∷ xs) x = slice_get_last xs x

range_before : {X : Type 0} (xs ys : List X) (from end : ℕ) → from ≤ end → end ≤ length xs → slice_range (xs ++ ys) from end ≡ slice_range xs from end
range_before xs ys from end rise within =
    let below : from ≤ length xs = omega arith in
    let fits : end - from ≤ length (drop from xs) = omega (arith, length-drop from xs) in
    ap (take (end - from)) (drop-append-le from xs ys below) ∙ take-append-le (end - from) (drop from xs) ys fits

take_all : {X : Type 0} (n : ℕ) (xs : List X) → n ≡ length xs → take n xs ≡ xs
take_all zero [] e = refl
take_all zero (x ∷ xs) e = absurd (omega arith)
take_all (suc n) [] e = absurd (omega arith)
take_all (suc n) (x ∷ xs) e = ap (λ l. x ∷ l) (take_all n xs (omega arith))

range_last : {X : Type 0} (xs ys : List X) (from : ℕ) → from ≡ length xs → slice_range (xs ++ ys) from (length (xs ++ ys)) ≡ ys
range_last xs ys from e =
    let rest : drop from (xs ++ ys) ≡ ys = ap (λ n. drop n (xs ++ ys)) e ∙ drop-append_seam xs ys in
    ap (take (length (xs ++ ys) - from)) rest ∙ take_all (length (xs ++ ys) - from) ys (omega (arith, length-append xs ys))

-- ---- one step more

-- columns that grew at their ends; the steps are given beside them
record Grew (c d : Columns) : Type 0 where
  sends : List Message
  marks : List Mark
  events : List Event
  messages_are : d.messages ≡ c.messages ++ sends
  marks_are : d.marks ≡ c.marks ++ marks
  events_are : d.events ≡ c.events ++ events

event_in_kept : (c d : Columns) (t : Taken) → Grew c d → IsTakenIn c t → event_in d t ≡ event_in c t
event_in_kept c d (kept.Message number) g h = ap (λ m. option_map_or events.Deliver m events.Tick) (ap (λ l. slice_get l number) g.messages_are ∙ slice_get_before c.messages g.sends number h)
event_in_kept c d (kept.Whole place) g h = ap (λ e. unwrap_or e events.Tick) (ap (λ l. slice_get l place) g.events_are ∙ slice_get_before c.events g.events place h)
event_in_kept c d kept.Tick g h = refl
event_in_kept c d kept.Restart g h = refl

taken_kept : (c d : Columns) (t : Taken) → Grew c d → IsTakenIn c t → IsTakenIn d t
taken_kept c d (kept.Message number) g h = omega (arith, ap length g.messages_are, length-append c.messages g.sends)
taken_kept c d (kept.Whole place) g h = omega (arith, ap length g.events_are, length-append c.events g.events)
taken_kept c d kept.Tick g h = tt
taken_kept c d kept.Restart g h = tt

entry_kept : (c d : Columns) (from at : ℕ) (s : KeptStep) → Grew c d → IsStepIn c from at s → entry_in d from at s ≡ entry_in c from at s
entry_kept c d from at s g h =
    let event = event_in_kept c d s.taken g h.taken in
    let sends : slice_range d.messages from s.sends_end ≡ slice_range c.messages from s.sends_end =
    ap (λ l. slice_range l from s.sends_end) g.messages_are ∙ range_before c.messages g.sends from s.sends_end h.sends_rise h.sends_within in
    let marks : slice_range d.marks at s.marks_end ≡ slice_range c.marks at s.marks_end =
    ap (λ l. slice_range l at s.marks_end) g.marks_are ∙ range_before c.marks g.marks at s.marks_end h.marks_rise h.marks_within in
    cc

step_kept : (c d : Columns) (from at : ℕ) (s : KeptStep) → Grew c d → IsStepIn c from at s → IsStepIn d from at s
step_kept c d from at s g h = record {
  taken = taken_kept c d s.taken g h.taken;
  sends_rise = h.sends_rise;
  sends_within = omega (arith, h.sends_within, ap length g.messages_are, length-append c.messages g.sends);
  marks_rise = h.marks_rise;
  marks_within = omega (arith, h.marks_within, ap length g.marks_are, length-append c.marks g.marks);
}

-- events that are kept for later steps change nothing
entries_kept : (c d : Columns) (from at : ℕ) (ss : List KeptStep) → Grew c d → AreStepsIn c from at ss → entries_in d from at ss ≡ entries_in c from at ss
entries_kept c d from at [] g h = refl
entries_kept c d from at (s ∷ ss) g h =
    let first = entry_kept c d from at s g h.0 in
    let later = entries_kept c d s.sends_end s.marks_end ss g h.1 in
    cc

-- a step whose sends and marks are all that the columns grew by
record IsLast (c d : Columns) (g : Grew c d) (s : KeptStep) : Type 0 where
  taken : IsTakenIn d s.taken
  sends : s.sends_end ≡ length d.messages
  marks : s.marks_end ≡ length d.marks

abbrev entry_of : Columns → KeptStep → List Message → List Mark → HistoryEntry
entry_of d s sends marks = record { node = s.node; event = event_in d s.taken; sends = sends; marks = marks }

entry_last : (c d : Columns) (from at : ℕ) (s : KeptStep) (g : Grew c d) → IsLast c d g s → from ≡ length c.messages → at ≡ length c.marks
    → entry_in d from at s ≡ entry_of d s g.sends g.marks
entry_last c d from at s g l f a =
    let sends : slice_range d.messages from s.sends_end ≡ g.sends =
    ap (slice_range d.messages from) l.sends ∙ ap (λ xs. slice_range xs from (length xs)) g.messages_are ∙ range_last c.messages g.sends from f in
    let marks : slice_range d.marks at s.marks_end ≡ g.marks =
    ap (slice_range d.marks at) l.marks ∙ ap (λ xs. slice_range xs at (length xs)) g.marks_are ∙ range_last c.marks g.marks at a in
    cc

entries_more : (c d : Columns) (from at : ℕ) (ss : List KeptStep) (s : KeptStep) (g : Grew c d) → IsLast c d g s → AreStepsIn c from at ss
    → entries_in d from at (ss ++ s ∷ []) ≡ entries_in c from at ss ++ entry_of d s g.sends g.marks ∷ []
entries_more c d from at [] s g l h = ap (λ e. e ∷ []) (entry_last c d from at s g l h.0 h.1)
entries_more c d from at (x ∷ ss) s g l h =
    let first = entry_kept c d from at x g h.0 in
    let later = entries_more c d x.sends_end x.marks_end ss s g l h.1 in
    cc

steps_more : (c d : Columns) (from at : ℕ) (ss : List KeptStep) (s : KeptStep) (g : Grew c d) → IsLast c d g s → AreStepsIn c from at ss
    → AreStepsIn d from at (ss ++ s ∷ [])
steps_more c d from at [] s g l h = (
  record {
    taken = l.taken;
    sends_rise = omega (arith, h.0, l.sends, ap length g.messages_are, length-append c.messages g.sends);
    sends_within = omega (arith, l.sends);
    marks_rise = omega (arith, h.1, l.marks, ap length g.marks_are, length-append c.marks g.marks);
    marks_within = omega (arith, l.marks);
  },
  (l.sends, l.marks),
)
steps_more c d from at (x ∷ ss) s g l h = (step_kept c d from at x g h.0, steps_more c d x.sends_end x.marks_end ss s g l h.1)

-- ---- a step that is put, and an event that is kept for it

abbrev grew : (c : Columns) (node : NodeId) (taken : Taken) (sends : List Message) (marks : List Mark) → Grew c (with_step c node taken sends marks)
grew c node taken sends marks = record { sends = sends; marks = marks; events = []; messages_are = refl; marks_are = refl; events_are = sym (append-nil c.events) }

last : (c : Columns) (node : NodeId) (taken : Taken) (sends : List Message) (marks : List Mark) → IsTakenIn c taken
    → IsLast c (with_step c node taken sends marks) (grew c node taken sends marks) (record { node = node; taken = taken; sends_end = length (c.messages ++ sends); marks_end = length (c.marks ++ marks) })
last c node taken sends marks h = record { taken = taken_kept c (with_step c node taken sends marks) taken (grew c node taken sends marks) h; sends = refl; marks = refl }

pub whole_put : (c d : Columns) (node : NodeId) (taken : Taken) (sends : List Message) (marks : List Mark) → IsWhole c → IsTakenIn c taken
    → d ≡ with_step c node taken sends marks → IsWhole d
whole_put c d node taken sends marks w h e =
    subst IsWhole (sym e) (steps_more c (with_step c node taken sends marks) 0 0 c.steps _ (grew c node taken sends marks) (last c node taken sends marks h) w)

pub entries_put : (c d : Columns) (node : NodeId) (taken : Taken) (sends : List Message) (marks : List Mark) → IsWhole c → IsTakenIn c taken
    → d ≡ with_step c node taken sends marks
    → entries_of d ≡ entries_of c ++ record { node = node; event = event_in c taken; sends = sends; marks = marks } ∷ []
entries_put c d node taken sends marks w h e =
    let g = grew c node taken sends marks in
    let event : event_in (with_step c node taken sends marks) taken ≡ event_in c taken = event_in_kept c (with_step c node taken sends marks) taken g h in
    let more : entries_of (with_step c node taken sends marks) ≡ entries_of c ++ record { node = node; event = event_in (with_step c node taken sends marks) taken; sends = sends; marks = marks } ∷ [] =
    entries_more c (with_step c node taken sends marks) 0 0 c.steps (record { node = node; taken = taken; sends_end = length (c.messages ++ sends); marks_end = length (c.marks ++ marks) }) g (last c node taken sends marks h) w in
    ap entries_of e ∙ more ∙ ap (λ (x : Event). entries_of c ++ record { node = node; event = x; sends = sends; marks = marks } ∷ []) event

-- an event more at the end of those that are kept whole
grew_whole : (c : Columns) (event : Event) → Grew c (with_whole c event)
grew_whole c event = record { sends = []; marks = []; events = event ∷ []; messages_are = sym (append-nil c.messages); marks_are = sym (append-nil c.marks); events_are = refl }

steps_whole : (c : Columns) (event : Event) (from at : ℕ) (ss : List KeptStep) → AreStepsIn c from at ss → AreStepsIn (with_whole c event) from at ss
steps_whole c event from at [] h = h
steps_whole c event from at (s ∷ ss) h = (step_kept c (with_whole c event) from at s (grew_whole c event) h.0, steps_whole c event s.sends_end s.marks_end ss h.1)

-- an event, kept for the next step
pub record KeepsEvent (c d : Columns) (event : Event) (taken : Taken) : Type 0 where
  pub whole : IsWhole d
  pub entries : entries_of d ≡ entries_of c
  pub taken_in : IsTakenIn d taken
  pub event_is : event_in d taken ≡ event

kept_whole : (c : Columns) (event : Event) → IsWhole c → KeepsEvent c (with_whole c event) event (kept.Whole (length c.events))
kept_whole c event w = record {
  whole = steps_whole c event 0 0 c.steps w;
  entries = entries_kept c (with_whole c event) 0 0 c.steps (grew_whole c event) w;
  taken_in = omega (arith, length-append c.events (event ∷ []));
  event_is = ap (λ e. unwrap_or e events.Tick) (slice_get_last c.events event);
}

kept_event : (c : Columns) (event : Event) → IsWhole c → KeepsEvent c (with_event c event) event (taken_as c event)
kept_event c events.Tick w = record { whole = w; entries = refl; taken_in = tt; event_is = refl }
kept_event c events.Restart w = record { whole = w; entries = refl; taken_in = tt; event_is = refl }
kept_event c (events.Submit by body) w = kept_whole c (events.Submit by body) w
kept_event c (events.Deliver message) w = kept_whole c (events.Deliver message) w
kept_event c (events.Command command) w = kept_whole c (events.Command command) w

pub event_kept : (c d : Columns) (event : Event) (taken : Taken) → IsWhole c → d ≡ with_event c event → taken ≡ taken_as c event → KeepsEvent c d event taken
event_kept c d event taken w e t =
    subst (λ (k : Taken). KeepsEvent c d event k) (sym t) (subst (λ (x : Columns). KeepsEvent c x event (taken_as c event)) (sym e) (kept_event c event w))
