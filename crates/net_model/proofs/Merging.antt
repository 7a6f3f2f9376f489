-- The steps of some journals and those of others, put into one list, are the steps of all.
use Rattle.std.proofs.Common.{◌≡◌, ◌<◌, ◌≤◌, ◌⊎◌, inl, inr, Bool, true, false, List, [], ◌∷◌, ◌++◌, refl, sym, ap, ◌∙◌, subst, append_assoc}
use Rattle.std.proofs.Common.{append-nil, length, get_or, arith}
use Rattle.std.specs.Prelude.{◌==◌, ◌&&◌, ◌||◌, not}
use Rattle.std.specs.List.{AllByRecursion, filter}
use Rattle.std.specs.List.Sorted.{IsPermutation}
use Rattle.std.proofs.lemmas.Bool.{and_parts, or_parts, eqb-true}
use Rattle.std.specs.Borrow.{Bor}
use Rattle.std.proofs.lemmas.List.{map-append}
use Rattle.std.proofs.lemmas.List.Elements.{filter-append}
use Rattle.std.proofs.lemmas.List.Sorted.{IsPermutation-refl, IsPermutation-trans, IsPermutation-append}
use Rattle.msg_wire.specs.Nodes.{same_node}
use Rattle.net_model.specs.declared.journal.Stamped.{Stamped}
use Rattle.net_model.specs.Names.{NodeId}
use Rattle.net_model.specs.Journals.{OwnSteps, IsJournal, Rises, has_journal_of, distinct_nodes, all_steps}
use Rattle.net_model.specs.Merges.{comes_first, IsInOrder, is_step_of, interleaved, values_of, AreSteps}
use Rattle.net_model.proofs.SameNodes.{same_node_is}
use Rattle.net_model.proofs.Interleaving.{Fail, kept, permutes, filter_first, filter_second}
use Rattle.net_model.proofs.Orders.{smaller_first, ordered}

pub all_append : {X : Type 0} (P : X → Type 0) (xs ys : List X) → AllByRecursion P xs → AllByRecursion P ys → AllByRecursion P (xs ++ ys)
all_append P [] ys f g = g
all_append P (x ∷ xs) ys f g = (f.0, all_append P xs ys f.1 g)

steps_append : (front back : List OwnSteps) → all_steps (front ++ back) ≡ all_steps front ++ all_steps back
steps_append [] back = refl
steps_append (j ∷ front) back = ap (λ steps. j.steps ++ steps) (steps_append front back) ∙ sym (append_assoc j.steps (all_steps front) (all_steps back))

-- ---- which journals have steps of a node

pub not_true : (b : Bool) → not b ≡ true → b ≡ false
not_true true e = absurd (cc)
not_true false e = refl

either : (b : Bool) → (b ≡ true) ⊎ (b ≡ false)
either true = inl refl
either false = inr refl

none_behind : (node : NodeId) (front back : List OwnSteps) → has_journal_of node (front ++ back) ≡ false → has_journal_of node back ≡ false
none_behind node [] back e = e
none_behind node (j ∷ front) back e = none_behind node front back (or_parts (same_node j.node node) _ e).1

none_before : (node : NodeId) (front back : List OwnSteps) → has_journal_of node (front ++ back) ≡ false → has_journal_of node front ≡ false
none_before node [] back e = refl
none_before node (j ∷ front) back e =
    let parts = or_parts (same_node j.node node) (has_journal_of node (front ++ back)) e in
    let rest = none_before node front back parts.1 in
    let here : same_node j.node node ≡ false = parts.0 in
    ap (λ b. b || has_journal_of node front) here ∙ rest

abbrev AreOf : NodeId → List Stamped → Type 0
AreOf node = AllByRecursion (λ (x : Stamped). x.entry.node ≡ node)

pub fail_of_other : (node other : NodeId) (steps : List Stamped) → same_node other node ≡ false → AreOf other steps → Fail (is_step_of node) steps
fail_of_other node other [] e own = tt
fail_of_other node other (x ∷ steps) e own = (ap (λ n. same_node n node) own.0 ∙ e, fail_of_other node other steps e own.1)

pub fail_of_none : (node : NodeId) (journals : List OwnSteps) → has_journal_of node journals ≡ false → AllByRecursion IsJournal journals
    → Fail (is_step_of node) (all_steps journals)
fail_of_none node [] e are = tt
fail_of_none node (j ∷ journals) e are =
    let parts = or_parts (same_node j.node node) (has_journal_of node journals) e in
    all_append _ j.steps (all_steps journals) (fail_of_other node j.node j.steps parts.0 are.0.own) (fail_of_none node journals parts.1 are.1)

-- of two parts of distinct journals one has no step of a node
abbrev OneHasNone : NodeId → List OwnSteps → List OwnSteps → Type 0
OneHasNone node front back = Fail (is_step_of node) (all_steps front) ⊎ Fail (is_step_of node) (all_steps back)

with_first : (node : NodeId) (j : OwnSteps) (front back : List OwnSteps) → has_journal_of j.node (front ++ back) ≡ false → IsJournal j
    → AllByRecursion IsJournal back
    → OneHasNone node front back → (same_node j.node node ≡ true) ⊎ (same_node j.node node ≡ false) → OneHasNone node (j ∷ front) back
with_first node j front back only is b rest (inl same) =
    inr (fail_of_none node back (none_behind node front back (subst (λ n. has_journal_of n (front ++ back) ≡ false) (same_node_is j.node node same) only)) b)
with_first node j front back only is b (inl none) (inr other) =
    inl (all_append _ j.steps (all_steps front) (fail_of_other node j.node j.steps other is.own) none)
with_first node j front back only is b (inr none) (inr other) = inr none

one_has_none : (node : NodeId) (front back : List OwnSteps) → distinct_nodes (front ++ back) ≡ true → AllByRecursion IsJournal front
    → AllByRecursion IsJournal back → OneHasNone node front back
one_has_none node [] back distinct f b = inl tt
one_has_none node (j ∷ front) back distinct f b =
    let parts = and_parts (not (has_journal_of j.node (front ++ back))) (distinct_nodes (front ++ back)) distinct in
    with_first node j front back (not_true (has_journal_of j.node (front ++ back)) parts.0) f.0 b (one_has_none node front back parts.1 f.1 b)
    (either (same_node j.node node))

distinct_parts : (front back : List OwnSteps) → distinct_nodes (front ++ back) ≡ true → (distinct_nodes front ≡ true) × (distinct_nodes back ≡ true)
distinct_parts [] back e = (refl, e)
distinct_parts (j ∷ front) back e =
    let parts = and_parts (not (has_journal_of j.node (front ++ back))) (distinct_nodes (front ++ back)) e in
    let rest = distinct_parts front back parts.1 in
    let here = none_before j.node front back (not_true (has_journal_of j.node (front ++ back)) parts.0) in
    (ap (λ b. not b && distinct_nodes front) here ∙ rest.0, rest.1)

-- ---- what fails is left out

pub none_passes : {X : Type 0} (p : X → Bool) (xs : List X) → Fail p xs → filter p xs ≡ []
none_passes p [] fail = refl
none_passes p (x ∷ xs) fail = ap (λ b. kept b x (filter p xs)) fail.0 ∙ none_passes p xs fail.1

all_fail_at : {X : Type 0} (p : X → Bool) (x : X) (xs : List X) (b : Bool) → p x ≡ b → (filter p xs ≡ [] → Fail p xs) → kept b x (filter p xs) ≡ []
    → Fail p (x ∷ xs)
all_fail_at p x xs true is rest e = absurd (cc)
all_fail_at p x xs false is rest e = (is, rest e)

all_fail : {X : Type 0} (p : X → Bool) (xs : List X) → filter p xs ≡ [] → Fail p xs
all_fail p [] e = tt
all_fail p (x ∷ xs) e = all_fail_at p x xs (p x) refl (all_fail p xs) e

-- ---- both parts

own_halves : (node : NodeId) (front back : List OwnSteps) (fs bs : List Stamped)
    → filter (is_step_of node) fs ≡ filter (is_step_of node) (all_steps front) → filter (is_step_of node) bs ≡ filter (is_step_of node) (all_steps back)
    → OneHasNone node front back
    → filter (is_step_of node) (interleaved comes_first fs bs) ≡ filter (is_step_of node) (all_steps front) ++ filter (is_step_of node) (all_steps back)
own_halves node front back fs bs f b (inl none) =
    let p = is_step_of node in
    let nothing = none_passes p (all_steps front) none in
    let fail = all_fail p fs (f ∙ nothing) in
    filter_second p comes_first fs bs fail ∙ b ∙ ap (λ l. l ++ filter p (all_steps back)) (sym nothing)
own_halves node front back fs bs f b (inr none) =
    let p = is_step_of node in
    let nothing = none_passes p (all_steps back) none in
    let fail = all_fail p bs (b ∙ nothing) in
    filter_first p comes_first fs bs fail ∙ f ∙ sym (append-nil (filter p (all_steps front))) ∙ ap (λ l. filter p (all_steps front) ++ l) (sym nothing)

halves : (front back : List OwnSteps) (fs bs : List Stamped) → AreSteps front fs → AreSteps back bs → AreSteps (front ++ back) (interleaved comes_first fs bs)
halves front back fs bs f b = record {
  journals_are = all_append IsJournal front back f.journals_are b.journals_are;
  each_once =
      subst (λ l. IsPermutation l (interleaved comes_first fs bs)) (sym (steps_append front back))
      (IsPermutation-trans _ _ _ (IsPermutation-append (all_steps front) fs (all_steps back) bs f.each_once b.each_once) (permutes comes_first fs bs));
  in_order = ordered fs bs f.in_order b.in_order;
  own_order = λ distinct node.
      let parts = distinct_parts front back distinct in
      own_halves node front back fs bs (f.own_order parts.0 node) (b.own_order parts.1 node)
      (one_has_none node front back distinct f.journals_are b.journals_are)
      ∙ sym (filter-append (is_step_of node) (all_steps front) (all_steps back)) ∙ ap (filter (is_step_of node)) (sym (steps_append front back));
}

-- ---- a single journal

rising_first : (x : Stamped) (later : List Stamped) → AllByRecursion (λ (y : Stamped). x.stamp < y.stamp) later
    → AllByRecursion (λ (y : Stamped). comes_first x y ≡ true) later
rising_first x [] rises = tt
rising_first x (y ∷ later) rises = (smaller_first x y rises.0, rising_first x later rises.1)

rising_ordered : (steps : List Stamped) → Rises steps → IsInOrder steps
rising_ordered [] rises = tt
rising_ordered (x ∷ later) rises = (rising_first x later rises.0, rising_ordered later rises.1)

single : (j : OwnSteps) → IsJournal j → AreSteps (j ∷ []) j.steps
single j is = record {
  journals_are = (is, tt);
  each_once = subst (λ l. IsPermutation l j.steps) (sym (append-nil j.steps)) (IsPermutation-refl j.steps);
  in_order = rising_ordered j.steps is.rises;
  own_order = λ distinct node. ap (filter (is_step_of node)) (sym (append-nil j.steps));
}

pub only_one : (journals : List OwnSteps) (j : OwnSteps) → 1 ≤ length journals → length journals < 2 → j ≡ get_or journals 0 j → journals ≡ j ∷ []
only_one [] j least most e = absurd (omega arith)
only_one (k ∷ []) j least most e = ap (λ (x : OwnSteps). x ∷ []) (sym e)
only_one (k ∷ l ∷ more) j least most e = absurd (omega arith)

-- ---- where one of two lists is at its end

interleaved_nil : (xs : List Stamped) → interleaved comes_first xs [] ≡ xs
interleaved_nil [] = refl
interleaved_nil (x ∷ xs) = ap (λ (l : List Stamped). x ∷ l) (interleaved_nil xs)

pub front_ends : (all front back : List (Bor Stamped)) → (length front == 0) ≡ true
    → values_of ((all ++ front) ++ back) ≡ values_of all ++ interleaved comes_first (values_of front) (values_of back)
front_ends all [] back ends = ap (λ l. values_of (l ++ back)) (append-nil all) ∙ map-append (λ (b : Bor Stamped). b.now) all back
front_ends all (x ∷ front) back ends = let none = eqb-true (length (x ∷ front)) 0 ends in absurd (omega arith)

pub back_ends : (all front back : List (Bor Stamped)) → (length back == 0) ≡ true
    → values_of ((all ++ front) ++ back) ≡ values_of all ++ interleaved comes_first (values_of front) (values_of back)
back_ends all front [] ends =
    ap values_of (append-nil (all ++ front)) ∙ map-append (λ (b : Bor Stamped). b.now) all front
    ∙ ap (λ l. values_of all ++ l) (sym (interleaved_nil (values_of front)))
back_ends all front (x ∷ back) ends = let none = eqb-true (length (x ∷ back)) 0 ends in absurd (omega arith)

-- ---- as the code has them

pub of_one : (journals : List OwnSteps) (j : OwnSteps) (shown steps : List Stamped) → journals ≡ j ∷ [] → IsJournal j → shown ≡ j.steps
    → steps ≡ shown → AreSteps journals steps
of_one journals j shown steps one is as_shown as_steps =
    subst (λ js. AreSteps js steps) (sym one) (subst (AreSteps (j ∷ [])) (sym (as_steps ∙ as_shown)) (single j is))

pub of_halves : (journals front back : List OwnSteps) (fs bs steps : List Stamped) → journals ≡ front ++ back → AreSteps front fs → AreSteps back bs
    → steps ≡ interleaved comes_first fs bs
    → AreSteps journals steps
of_halves journals front back fs bs steps parts f b as_steps =
    subst (λ js. AreSteps js steps) (sym parts) (subst (AreSteps (front ++ back)) (sym as_steps) (halves front back fs bs f b))
