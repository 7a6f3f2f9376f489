-- The history that is made of the steps of journals is their merge.
use Rattle.std.proofs.Common.{◌≡◌, zero, suc, ◌<◌, ◌≤◌, ◌⊎◌, inl, inr, Bool, true, false, List, [], ◌∷◌, ◌++◌, refl, sym, ap, ◌∙◌, subst}
use Rattle.std.proofs.Common.{append_assoc, append-nil, map, arith}
use Rattle.std.specs.Prelude.{◌||◌, not}
use Rattle.std.specs.List.{AllByRecursion, filter, Contains}
use Rattle.std.proofs.lemmas.Bool.{and_parts}
use Rattle.std.proofs.lemmas.List.{map-append, reverse-append}
use Rattle.std.proofs.lemmas.List.Elements.{filter-append, Contains-append_left, Contains-append_right, Contains-append_cases}
use Rattle.msg_wire.specs.Nodes.{same_node}
use Rattle.net_model.specs.declared.journal.Stamped.{Stamped}
use Rattle.net_model.specs.Names.{NodeId, Message, HistoryEntry}
use Rattle.net_model.specs.Pasts.{Past, past_of, sent}
use Rattle.net_model.specs.Journals.{OwnSteps, IsJournal, has_journal_of, distinct_nodes, all_steps}
use Rattle.net_model.specs.Merges.{comes_first, IsInOrder, entry_of, past_in, is_step_of, SendsComeFirst, IsMergeOf, AreSteps}
use Rattle.net_model.proofs.SameNodes.{same_node_is, node_itself}
use Rattle.net_model.proofs.Interleaving.{Fail, filter_takes}
use Rattle.net_model.proofs.Orders.{stamp_no_less}
use Rattle.net_model.proofs.Merging.{fail_of_none, fail_of_other, none_passes, not_true}

-- ---- each journal's steps, in their order

own_all : (j : OwnSteps) (steps : List Stamped) → AllByRecursion (λ (x : Stamped). x.entry.node ≡ j.node) steps → filter (is_step_of j.node) steps ≡ steps
own_all j [] own = refl
own_all j (x ∷ steps) own =
    filter_takes (is_step_of j.node) x steps (ap (λ n. same_node n j.node) own.0 ∙ node_itself j.node)
    ∙ ap (λ (l : List Stamped). x ∷ l) (own_all j steps own.1)

-- what passes a test in the steps of all, where a part of the journals has no such step
first_part : (node : NodeId) (j : OwnSteps) (journals : List OwnSteps) → Fail (is_step_of node) (all_steps journals)
    → filter (is_step_of node) (all_steps (j ∷ journals)) ≡ filter (is_step_of node) j.steps
first_part node j journals none =
    filter-append (is_step_of node) j.steps (all_steps journals)
    ∙ ap (λ l. filter (is_step_of node) j.steps ++ l) (none_passes (is_step_of node) (all_steps journals) none)
    ∙ append-nil (filter (is_step_of node) j.steps)

later_part : (node : NodeId) (j : OwnSteps) (journals : List OwnSteps) → Fail (is_step_of node) j.steps
    → filter (is_step_of node) (all_steps (j ∷ journals)) ≡ filter (is_step_of node) (all_steps journals)
later_part node j journals none =
    filter-append (is_step_of node) j.steps (all_steps journals)
    ∙ ap (λ l. l ++ filter (is_step_of node) (all_steps journals)) (none_passes (is_step_of node) j.steps none)

or_right : (a b : Bool) → b ≡ true → (a || b) ≡ true
or_right true b e = refl
or_right false b e = e

has_it : (journals : List OwnSteps) (j : OwnSteps) → Contains journals j → has_journal_of j.node journals ≡ true
has_it [] j (at, below, is) = absurd (omega arith)
has_it (k ∷ journals) j (zero, below, is) =
    ap (λ (i : OwnSteps). same_node i.node j.node || has_journal_of j.node journals) is ∙ ap (λ b. b || has_journal_of j.node journals) (node_itself j.node)
has_it (k ∷ journals) j (suc at, below, is) = or_right (same_node k.node j.node) (has_journal_of j.node journals) (has_it journals j (at, omega arith, is))

-- a journal behind another is of another node
apart : (k j : OwnSteps) (journals : List OwnSteps) → has_journal_of k.node journals ≡ false → Contains journals j → (b : Bool)
    → same_node k.node j.node ≡ b → b ≡ false
apart k j journals only there true same =
    let has = subst (λ n. has_journal_of n journals ≡ true) (sym (same_node_is k.node j.node same)) (has_it journals j there) in
    cc
apart k j journals only there false same = refl

own_part : (journals : List OwnSteps) (j : OwnSteps) → AllByRecursion IsJournal journals → distinct_nodes journals ≡ true → Contains journals j
    → filter (is_step_of j.node) (all_steps journals) ≡ j.steps
own_part [] j are distinct (at, below, is) = absurd (omega arith)
own_part (k ∷ journals) j are distinct (zero, below, is) =
    let only = not_true _ (and_parts (not (has_journal_of k.node journals)) (distinct_nodes journals) distinct).0 in
    subst (λ (i : OwnSteps). filter (is_step_of i.node) (all_steps (k ∷ journals)) ≡ i.steps) is
    (first_part k.node k journals (fail_of_none k.node journals only are.1) ∙ own_all k k.steps are.0.own)
own_part (k ∷ journals) j are distinct (suc at, below, is) =
    let parts = and_parts (not (has_journal_of k.node journals)) (distinct_nodes journals) distinct in
    let there : Contains journals j = (at, omega arith, is) in
    let other = apart k j journals (not_true _ parts.0) there (same_node k.node j.node) refl in
    later_part j.node k journals (fail_of_other j.node k.node k.steps other are.0.own) ∙ own_part journals j are.1 parts.1 there

-- ---- what has a smaller stamp stands before

no_less : (y x : Stamped) (later : List Stamped) → AllByRecursion (λ (z : Stamped). comes_first y z ≡ true) later → Contains later x → y.stamp ≤ x.stamp
no_less y x [] first (at, below, is) = absurd (omega arith)
no_less y x (z ∷ later) first (zero, below, is) = subst (λ (w : Stamped). y.stamp ≤ w.stamp) is (stamp_no_less y z first.0)
no_less y x (z ∷ later) first (suc at, below, is) = no_less y x later first.1 (at, omega arith, is)

rest_in_order : (before rest : List Stamped) → IsInOrder (before ++ rest) → IsInOrder rest
rest_in_order [] rest order = order
rest_in_order (x ∷ before) rest order = rest_in_order before rest order.1

not_behind : (y x : Stamped) (later : List Stamped) → IsInOrder (y ∷ later) → x.stamp < y.stamp → Contains (y ∷ later) x → ⊥
not_behind y x later order less (zero, below, is) = let same = ap (λ (w : Stamped). w.stamp) is in absurd (omega arith)
not_behind y x later order less (suc at, below, is) = let more = no_less y x later order.0 (at, omega arith, is) in absurd (omega arith)

in_front : (before later : List Stamped) (x y : Stamped) → IsInOrder (y ∷ later) → x.stamp < y.stamp → Contains before x ⊎ Contains (y ∷ later) x
    → Contains before x
in_front before later x y order less (inl there) = there
in_front before later x y order less (inr behind) = absurd (not_behind y x later order less behind)

-- ---- what is sent before

pub past_push : (before : List Stamped) (x : Stamped) → past_in (before ++ x ∷ []) ≡ x.entry ∷ past_in before
past_push before x = ap past_of (map-append entry_of before (x ∷ [])) ∙ reverse-append (map entry_of before) (x.entry ∷ [])

pub past_append : (before later : List Stamped) → past_in (before ++ later) ≡ past_in later ++ past_in before
past_append before later = ap past_of (map-append entry_of before later) ∙ reverse-append (map entry_of before) (map entry_of later)

sent_among : (x : Stamped) (message : Message) (front back : Past) → Contains x.entry.sends message → Contains (sent (front ++ x.entry ∷ back)) message
sent_among x message [] back sends = Contains-append_right (sent back) x.entry.sends message sends
sent_among x message (e ∷ front) back sends = Contains-append_left (sent (front ++ x.entry ∷ back)) e.sends message (sent_among x message front back sends)

split_at : (steps : List Stamped) (x : Stamped) → Contains steps x → (before : List Stamped) × (later : List Stamped) × (steps ≡ before ++ x ∷ later)
split_at [] x (at, below, is) = absurd (omega arith)
split_at (y ∷ steps) x (zero, below, is) = ([], steps, ap (λ (w : Stamped). w ∷ steps) is)
split_at (y ∷ steps) x (suc at, below, is) =
    let rest = split_at steps x (at, omega arith, is) in
    (y ∷ rest.0, rest.1, ap (λ (l : List Stamped). y ∷ l) rest.2)

sent_in : (before : List Stamped) (x : Stamped) (message : Message) → Contains before x → Contains x.entry.sends message
    → Contains (sent (past_in before)) message
sent_in before x message there sends =
    let at = split_at before x there in
    let past : past_in before ≡ (past_in at.1 ++ x.entry ∷ []) ++ past_in at.0 =
    ap past_in at.2 ∙ past_append at.0 (x ∷ at.1) ∙ ap (λ l. l ++ past_in at.0) (past_append (x ∷ []) at.1) in
    subst (λ l. Contains (sent l) message) (sym (past ∙ append_assoc (past_in at.1) (x.entry ∷ []) (past_in at.0)))
    (sent_among x message (past_in at.1) (past_in at.0) sends)

sends_come_first : (steps : List Stamped) → IsInOrder steps → SendsComeFirst steps
sends_come_first steps order before later x y message parts there less sends =
    let behind = rest_in_order before (y ∷ later) (subst IsInOrder parts order) in
    let either = Contains-append_cases before (y ∷ later) x (subst (λ l. Contains l x) parts there) in
    sent_in before x message (in_front before later x y behind less either) sends

-- ---- the merge

pub merge_of_steps : (journals : List OwnSteps) (steps : List Stamped) (history : List HistoryEntry) → distinct_nodes journals ≡ true
    → AreSteps journals steps → history ≡ map entry_of steps
    → IsMergeOf journals history
merge_of_steps journals steps history distinct are is = record {
  steps = steps;
  entries = is;
  each_once = are.each_once;
  in_order = are.in_order;
  own_order = λ j there. are.own_order distinct j.node ∙ own_part journals j are.journals_are distinct there;
  sends_first = sends_come_first steps are.in_order;
}
