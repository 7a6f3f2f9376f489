-- The merge of journals is a run: what holds of each entry given its node's earlier ones holds in the merge, and what is
-- delivered there was sent before.
use Rattle.std.proofs.Common.{◌≡◌, zero, suc, ◌⊎◌, inl, inr, Bool, true, false, List, [], ◌∷◌, ◌++◌, refl, sym, ap, ◌∙◌, subst, append_assoc}
use Rattle.std.proofs.Common.{append-nil, arith}
use Rattle.std.specs.List.{AllByRecursion, filter, Contains}
use Rattle.std.proofs.lemmas.List.Elements.{filter-append, Contains-append_right, Contains-append_cases}
use Rattle.std.proofs.lemmas.List.Sorted.{IsPermutation-sym, Contains-permutation}
use Rattle.msg_wire.specs.Nodes.{same_node}
use Rattle.net_model.specs.declared.journal.Stamped.{Stamped}
use Rattle.net_model.specs.Names.{NodeId, Message, Event, HistoryEntry}
use Rattle.net_model.specs.Names.events
use Rattle.net_model.specs.Pasts.{Past, past_of, sent, Throughout}
use Rattle.net_model.specs.Tables.{StepTable, Progress, step_if, progress_of, state_of}
use Rattle.net_model.specs.Journals.{OwnSteps, IsJournal, all_steps}
use Rattle.net_model.specs.Merges.{past_in, is_step_of, IsMergeOf}
use Rattle.net_model.specs.Sources.{WasSent, IsStepBy, GoesBy, InEach, DeliveriesAreSent, MergesFollow}
use Rattle.net_model.proofs.SameNodes.{node_itself}
use Rattle.net_model.proofs.Interleaving.{kept, filter_takes}
use Rattle.net_model.proofs.Histories.{past_push, past_append}

-- ---- a node's own entries

abbrev pub own_of : NodeId → Past → Past
own_of node = filter (λ (e : HistoryEntry). same_node e.node node)

past_kept : (b : Bool) (x : Stamped) (steps : List Stamped) → past_in (kept b x steps) ≡ past_in steps ++ kept b x.entry []
past_kept true x steps = past_append (x ∷ []) steps
past_kept false x steps = sym (append-nil (past_in steps))

own_past : (node : NodeId) (steps : List Stamped) → past_in (filter (is_step_of node) steps) ≡ own_of node (past_in steps)
own_past node [] = refl
own_past node (x ∷ steps) =
    past_kept (is_step_of node x) x (filter (is_step_of node) steps) ∙ ap (λ past. past ++ kept (is_step_of node x) x.entry []) (own_past node steps)
    ∙ sym (filter-append (λ (e : HistoryEntry). same_node e.node node) (past_in steps) (x.entry ∷ [])) ∙ ap (own_of node) (sym (past_append (x ∷ []) steps))

own_progress_if : {S : Type 0} (table : StepTable S) (node : NodeId) (e : HistoryEntry) (past : Past) (b : Bool) → same_node e.node node ≡ b
    → progress_of table node (own_of node past) ≡ progress_of table node past
    → progress_of table node (kept b e (own_of node past)) ≡ step_if b table e.event (progress_of table node past)
own_progress_if table node e past true is h =
    ap (λ b. step_if b table e.event (progress_of table node (own_of node past))) is ∙ ap (step_if true table e.event) h
own_progress_if table node e past false is h = h

own_progress : {S : Type 0} (table : StepTable S) (node : NodeId) (past : Past) → progress_of table node (own_of node past) ≡ progress_of table node past
own_progress table node [] = refl
own_progress table node (e ∷ past) = own_progress_if table node e past (same_node e.node node) refl (own_progress table node past)

-- the others' entries change nothing of its state
pub own_state : {S : Type 0} (table : StepTable S) (node : NodeId) (past : Past) → state_of table node (own_of node past) ≡ state_of table node past
own_state {S} table node past = ap (λ (p : Progress S). p.state) (own_progress table node past)

-- ---- entry after entry

behind : (P : Past → HistoryEntry → Type 0) (front rest : Past) → Throughout P (front ++ rest) → Throughout P rest
behind P [] rest all = all
behind P (e ∷ front) rest all = behind P front rest all.1

at_entry : (P : Past → HistoryEntry → Type 0) (steps before later : List Stamped) (x : Stamped) → steps ≡ before ++ x ∷ later
    → Throughout P (past_in steps) → P (past_in before) x.entry
at_entry P steps before later x parts all =
    let past : past_in steps ≡ past_in later ++ x.entry ∷ past_in before =
    ap past_in parts ∙ past_append before (x ∷ later) ∙ ap (λ l. l ++ past_in before) (past_append (x ∷ []) later)
    ∙ append_assoc (past_in later) (x.entry ∷ []) (past_in before) in
    (behind P (past_in later) (x.entry ∷ past_in before) (subst (Throughout P) past all)).0

abbrev AtEach : (Past → HistoryEntry → Type 0) → List Stamped → Type 0
AtEach P steps = (before later : List Stamped) (x : Stamped) → steps ≡ before ++ x ∷ later → P (past_in before) x.entry

goes_on : (P : Past → HistoryEntry → Type 0) (steps before later : List Stamped) → AtEach P steps → steps ≡ before ++ later
    → Throughout P (past_in before) → Throughout P (past_in steps)
goes_on P steps before [] each parts so_far = subst (λ l. Throughout P (past_in l)) (sym (parts ∙ append-nil before)) so_far
goes_on P steps before (x ∷ later) each parts so_far =
    goes_on P steps (before ++ x ∷ []) later each (parts ∙ sym (append_assoc before (x ∷ []) later))
    (subst (Throughout P) (sym (past_push before x)) (each before later x parts, so_far))

-- ---- which journal a step is of

all_at : {X : Type 0} (P : X → Type 0) (xs : List X) (x : X) → AllByRecursion P xs → Contains xs x → P x
all_at P [] x all (at, below, is) = absurd (omega arith)
all_at P (y ∷ xs) x all (zero, below, is) = subst P is all.0
all_at P (y ∷ xs) x all (suc at, below, is) = all_at P xs x all.1 (at, omega arith, is)

record IsStepIn (journals : List OwnSteps) (x : Stamped) : Type 0 where
  journal : OwnSteps
  there : Contains journals journal
  step : Contains journal.steps x

step_in : (j : OwnSteps) (journals : List OwnSteps) (x : Stamped) → Contains j.steps x ⊎ IsStepIn journals x → IsStepIn (j ∷ journals) x
step_in j journals x (inl here) = record { journal = j; there = (0, omega arith, refl); step = here }
step_in j journals x (inr later) =
    record { journal = later.journal; there = Contains-append_right (j ∷ []) journals later.journal later.there; step = later.step }

later_in : (j : OwnSteps) (steps : List Stamped) (journals : List OwnSteps) (x : Stamped) → (Contains steps x → IsStepIn journals x)
    → Contains j.steps x ⊎ Contains steps x → Contains j.steps x ⊎ IsStepIn journals x
later_in j steps journals x find (inl here) = inl here
later_in j steps journals x find (inr later) = inr (find later)

find_journal : (journals : List OwnSteps) (x : Stamped) → Contains (all_steps journals) x → IsStepIn journals x
find_journal [] x (at, below, is) = absurd (omega arith)
find_journal (j ∷ journals) x there =
    step_in j journals x (later_in j (all_steps journals) journals x (find_journal journals x) (Contains-append_cases j.steps (all_steps journals) x there))

-- ---- the merge

-- it holds of an entry given its node's earlier ones, and so given all earlier ones
abbrev pub IsLocal : (Past → HistoryEntry → Type 0) → Type 0
IsLocal P = (past : Past) (e : HistoryEntry) → P (own_of e.node past) e → P past e

own_holds : (P : Past → HistoryEntry → Type 0) (journals : List OwnSteps) (history : List HistoryEntry) (m : IsMergeOf journals history) → IsLocal P
    → AllByRecursion IsJournal journals → InEach P journals
    → (before later : List Stamped) (x : Stamped) → m.steps ≡ before ++ x ∷ later → IsStepIn journals x → P (past_in before) x.entry
own_holds P journals history m local are each before later x parts at =
    let j = at.journal in
    let p = is_step_of j.node in
    let own : x.entry.node ≡ j.node = all_at (λ (y : Stamped). y.entry.node ≡ j.node) j.steps x (all_at IsJournal journals j are at.there).own at.step in
    let passes : p x ≡ true = ap (λ n. same_node n j.node) own ∙ node_itself j.node in
    let steps : j.steps ≡ filter p before ++ x ∷ filter p later =
    sym (m.own_order j at.there) ∙ ap (filter p) parts ∙ filter-append p before (x ∷ later) ∙ ap (λ l. filter p before ++ l) (filter_takes p x later passes) in
    let here = at_entry P j.steps (filter p before) (filter p later) x steps
    (all_at (λ (i : OwnSteps). Throughout P (past_in i.steps)) journals j each at.there) in
    local (past_in before) x.entry (subst (λ n. P (own_of n (past_in before)) x.entry) (sym own) (subst (λ past. P past x.entry) (own_past j.node before) here))

was_sent : (past : Past) (event : Event) → ((message : Message) → event ≡ events.Deliver message → Contains (sent past) message) → WasSent past event
was_sent past (events.Deliver message) sends = sends message refl
was_sent past (events.Submit by body) sends = tt
was_sent past events.Tick sends = tt
was_sent past events.Restart sends = tt
was_sent past (events.Command command) sends = tt

comes_after : (journals : List OwnSteps) (history : List HistoryEntry) (m : IsMergeOf journals history) → DeliveriesAreSent journals
    → (before later : List Stamped) (x : Stamped) → m.steps ≡ before ++ x ∷ later → Contains (all_steps journals) x → WasSent (past_in before) x.entry.event
comes_after journals history m sent_below before later x parts there =
    was_sent (past_in before) x.entry.event
    (λ message takes.
    let source = sent_below x message there takes in
    m.sends_first before later source.by x message parts
    (Contains-permutation (all_steps journals) m.steps source.by m.each_once source.there) source.below source.sends)

pub merge_holds : (P : Past → HistoryEntry → Type 0) (journals : List OwnSteps) (history : List HistoryEntry) → IsLocal P
    → AllByRecursion IsJournal journals → InEach P journals
    → DeliveriesAreSent journals → IsMergeOf journals history → Throughout (λ past e. P past e × WasSent past e.event) (past_of history)
merge_holds P journals history local are each sent_below m =
    let Q : Past → HistoryEntry → Type 0 = λ past e. P past e × WasSent past e.event in
    let at_each : AtEach Q m.steps = λ before later x parts.
    let here : Contains m.steps x = subst (λ l. Contains l x) (sym parts) (Contains-append_right before (x ∷ later) x (0, omega arith, refl)) in
    let there = Contains-permutation m.steps (all_steps journals) x (IsPermutation-sym (all_steps journals) m.steps m.each_once) here in (
      own_holds P journals history m local are each before later x parts (find_journal journals x there),
      comes_after journals history m sent_below before later x parts there,
    ) in
    subst (λ h. Throughout Q (past_of h)) (sym m.entries) (goes_on Q m.steps [] m.steps at_each refl tt)

-- what holds of each entry, weakened
pub throughout_from : (P Q : Past → HistoryEntry → Type 0) → ((past : Past) (e : HistoryEntry) → P past e → Q past e) → (past : Past)
    → Throughout P past → Throughout Q past
throughout_from P Q then [] all = tt
throughout_from P Q then (e ∷ past) all = (then past e all.0, throughout_from P Q then past all.1)

-- ---- over step tables

step_local : {S : NodeId → Type 0} (tables : (node : NodeId) → StepTable (S node)) → IsLocal (IsStepBy tables)
step_local tables past e is =
    let same = own_state (tables e.node) e.node past in
    record {
      sends = is.sends ∙ ap (λ s. ((tables e.node).gives s e.event).sends) same;
      shows = is.shows ∙ ap (λ s. ((tables e.node).gives s e.event).marks) same;
    }

pub merges_follow : {S : NodeId → Type 0} (tables : (node : NodeId) → StepTable (S node)) → MergesFollow tables
merges_follow tables journals history are each sent_below m =
    throughout_from _ (GoesBy tables) (λ past e both. record { step = both.0; comes = both.1 }) (past_of history)
    (merge_holds (IsStepBy tables) journals history (step_local tables) are each sent_below m)
