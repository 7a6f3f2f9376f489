-- A client stores the bodies that are submitted to it, in order, until its numbers end.
use Rattle.std.proofs.Common.{◌≡◌, ◌⊎◌, ◌∙◌, ℕ, ◌<◌, ◌≤◌, ◌^◌, Bool, true, false, nat_lt, List, [], ◌∷◌, ◌++◌, length, append-nil, refl, sym, ap, subst, inl, inr, arith}
use Rattle.std.specs.Prelude.{not, ◌&&◌}
use Rattle.std.specs.List.{slice_get}
use Rattle.std.proofs.lemmas.Bool.{false≢true, ltb-true, ltb-false}
use Rattle.std.proofs.lemmas.List.Elements.{filter_map-append}
use Rattle.msg_wire.specs.Nodes.{same_node}
use Rattle.msg_wire.specs.Valid.{IsValidConfig}
use Rattle.net_model.specs.Pasts.{Past, submissions_of, body_in}
use Rattle.node_rules.specs.Names.{Item, Event}
use Rattle.node_rules.specs.Names.items
use Rattle.node_rules.specs.Names.events
use Rattle.node_rules.specs.Nodes.{Node}
use Rattle.node_rules.specs.Turns.{Turn, started, own_of, put_own, store}
use Rattle.node_rules.proofs.Lists.{on_test, on_option}
use Rattle.client_node.specs.States.{ClientState, is_in_reach, is_home_gone, count_submitted}
use Rattle.client_node.specs.Rules.{with_body, append, append_new, submit, submitted}
use Rattle.client_node.specs.Steps.{client_step}
use Rattle.client_node.proofs.Places.{Stores, submits, counts, moves}
use Rattle.runs.specs.Names.{Config, HistoryEntry}
use Rattle.runs.specs.Names.nodes
use Rattle.runs.specs.Kinds.{items_at}
use Rattle.runs.specs.Runs.{IsPastOf}
use Rattle.runs.specs.Marks.{IsPrefix}
use Rattle.safety_frame.specs.EveryRun.{OfEveryRun}
use Rattle.safety_frame.specs.StableItems.{body_stored, bodies_by}
use Rattle.safety_frame.proofs.NodeKinds.{after, clients}
use Rattle.safety_frame.proofs.Pasts.{own_items, other_stored, own_submitted, other_submitted, on_own}
use Rattle.safety_frame.proofs.Inductions.{every_past}
use Rattle.safety_frame.proofs.Lists.{begins_same, begins_more, begins_on}
use Rattle.safety_clients.specs.Homes.{bodies_at, BodiesAreSubmitted}
use Rattle.safety_clients.proofs.Moving.{reads_none}
use Rattle.safety_clients.proofs.Turns as turns

-- ---- a step

-- a step to which nothing is submitted stores no body
module _ (n : Node ClientState) (event : Event) (none : (by : ℕ) (body : List ℕ) → event ≡ events.Submit by body → ⊥) where
  stored_none : (s : Node ClientState) (item : Item) (own : ClientState) → Stores n event s item own → bodies_by (item ∷ []) ≡ []
  stored_none s _ _ (submits by body is room) = absurd (none by body is)
  stored_none s _ _ (counts from number position comes next room) = refl
  stored_none s _ _ (moves from next row comes home gone next_is row_is) = refl

  step_none : bodies_by (client_step n event).stable ≡ []
  step_none = reads_none body_stored n event (λ entry. refl) stored_none

-- what is submitted is stored, or the numbers have ended
abbrev Stored : Node ClientState → Event → List Item → Type 0
Stored n event stable =
    ((bodies_by stable ≡ []) × (body_in event ≡ []))
    ⊎ (((bodies_by stable ≡ body_in event) × (length n.own.bodies < 2 ^ 48)) ⊎ ((bodies_by stable ≡ []) × (2 ^ 48 ≤ length n.own.bodies)))

appends_nothing : (number : ℕ) (t : Turn ClientState) → (append_new number t).stable ≡ t.stable
appends_nothing number t =
    on_test (λ (u : Turn ClientState). u.stable ≡ t.stable) (is_in_reach number t && not (is_home_gone t)) (append t number) t
    (λ _. on_option (λ (u : Turn ClientState). u.stable ≡ t.stable) _ (slice_get (own_of t).bodies number) t (λ body there. refl) refl) (λ _. refl)

submits_one : (n : Node ClientState) (by : ℕ) (body : List ℕ) → Stored n (events.Submit by body) (submit body (started n)).stable
submits_one n by body =
    let t = started n in
    on_test (λ (u : Turn ClientState). Stored n (events.Submit by body) u.stable) (nat_lt (count_submitted t) (2 ^ 48)) (submitted body t) t
    (λ room. inr (inl (
      ap bodies_by (appends_nothing (count_submitted t) (put_own (with_body body (own_of t)) (store (items.Submitted body) t))),
      ltb-true (count_submitted t) (2 ^ 48) room,
    )))
    (λ full. inr (inr (refl, ltb-false (count_submitted t) (2 ^ 48) full)))

abbrev is_submit : Event → Bool
is_submit (events.Submit by body) = true
is_submit _ = false

no_submit : (event : Event) → is_submit event ≡ false → (by : ℕ) (body : List ℕ) → event ≡ events.Submit by body → ⊥
no_submit event not_so by body is = false≢true (sym not_so ∙ ap is_submit is)

step_bodies : (n : Node ClientState) (event : Event) → Stored n event (client_step n event).stable
step_bodies n (events.Submit by body) = submits_one n by body
step_bodies n (events.Deliver m) = inl (step_none n (events.Deliver m) (no_submit (events.Deliver m) refl), refl)
step_bodies n events.Tick = inl (step_none n events.Tick (no_submit events.Tick refl), refl)
step_bodies n events.Restart = inl (step_none n events.Restart (no_submit events.Restart refl), refl)
step_bodies n (events.Command command) = inl (step_none n (events.Command command) (no_submit (events.Command command) refl), refl)

-- ---- every run

-- all is stored, or the numbers have ended
abbrev AreStored : List (List ℕ) → List (List ℕ) → Type 0
AreStored bodies submissions = (bodies ≡ submissions) ⊎ ((2 ^ 48 ≤ length bodies) × IsPrefix bodies submissions)

begins_stored : (bodies submissions : List (List ℕ)) → AreStored bodies submissions → IsPrefix bodies submissions
begins_stored bodies submissions is = elim is [
  | inl same ↦ begins_same bodies submissions (sym same)
  | inr full ↦ full.1
]

-- with what a step stores, and what is submitted then
stored_more : (bodies submissions stored given : List (List ℕ)) → AreStored bodies submissions
    → ((stored ≡ []) × (given ≡ [])) ⊎ (((stored ≡ given) × (length bodies < 2 ^ 48)) ⊎ ((stored ≡ []) × (2 ^ 48 ≤ length bodies)))
    → AreStored (bodies ++ stored) (submissions ++ given)
stored_more bodies submissions stored given are step =
    let full : stored ≡ [] → 2 ^ 48 ≤ length bodies → AreStored (bodies ++ stored) (submissions ++ given) =
    λ none ended.
    let same : bodies ++ stored ≡ bodies = ap (λ l. bodies ++ l) none ∙ append-nil bodies in
    subst (λ l. AreStored l (submissions ++ given)) (sym same)
    (inr (ended, begins_on bodies submissions (submissions ++ given) (begins_stored bodies submissions are) (begins_more submissions given))) in
    elim are [
      | inr ended ↦ elim step [
        | inl none ↦ full none.0 ended.0
        | inr rest ↦ elim rest [
          | inl one ↦ absurd (omega (arith, one.1, ended.0))
          | inr over ↦ full over.0 over.1
        ]
      ]
      | inl same ↦ elim step [
        | inl none ↦ inl (ap (λ l. l ++ stored) same ∙ ap (λ l. submissions ++ l) (none.0 ∙ sym none.1))
        | inr rest ↦ elim rest [
          | inl one ↦ inl (ap (λ l. l ++ stored) same ∙ ap (λ l. submissions ++ l) one.0)
          | inr over ↦ full over.0 over.1
        ]
      ]
    ]

module _ (cfg : Config) (valid : IsValidConfig cfg) where
  abbrev AllStored : Past → Type 0
  AllStored past = (client : ℕ) → AreStored (bodies_at cfg client past) (submissions_of (nodes.Client client) past)

  own_stored_more : (e : HistoryEntry) (past : Past) (run : IsPastOf cfg (e ∷ past)) (client : ℕ) → same_node e.node (nodes.Client client) ≡ true
      → AreStored (bodies_at cfg client past) (submissions_of (nodes.Client client) past)
      → AreStored (bodies_at cfg client (e ∷ past)) (submissions_of (nodes.Client client) (e ∷ past))
  own_stored_more e past run client own before =
      let node = nodes.Client client in
      let n = after clients cfg node past in
      let stable = (client_step n e.event).stable in
      let bodies : bodies_at cfg client (e ∷ past) ≡ bodies_at cfg client past ++ bodies_by stable =
      ap bodies_by (own_items clients cfg node e past own) ∙ filter_map-append body_stored (items_at cfg node past) stable in
      let step =
      subst (λ (l : List (List ℕ)).
      ((bodies_by stable ≡ []) × (body_in e.event ≡ []))
      ⊎ (((bodies_by stable ≡ body_in e.event) × (length l < 2 ^ 48)) ⊎ ((bodies_by stable ≡ []) × (2 ^ 48 ≤ length l))))
      (turns.is cfg valid client e past run own).bodies (step_bodies n e.event) in
      subst (λ l. AreStored l (submissions_of node (e ∷ past))) (sym bodies)
      (subst (AreStored (bodies_at cfg client past ++ bodies_by stable)) (sym (own_submitted node e past own))
      (stored_more (bodies_at cfg client past) (submissions_of node past) (bodies_by stable) (body_in e.event) before step))

  next_stored : (e : HistoryEntry) (past : Past) → IsPastOf cfg (e ∷ past) → AllStored past → AllStored (e ∷ past)
  next_stored e past run before client =
      let node = nodes.Client client in
      on_own (same_node e.node node) (λ own. own_stored_more e past run client own (before client))
      (λ other.
      subst (λ l. AreStored l (submissions_of node (e ∷ past))) (sym (ap bodies_by (other_stored cfg node e past other)))
      (subst (AreStored (bodies_at cfg client past)) (sym (other_submitted node e past other)) (before client)))

pub bodies_are_submitted : OfEveryRun BodiesAreSubmitted
bodies_are_submitted cfg past valid run client =
    begins_stored (bodies_at cfg client past) (submissions_of (nodes.Client client) past)
    (every_past cfg (AllStored cfg valid) (λ c. inl refl) (next_stored cfg valid) past run client)
