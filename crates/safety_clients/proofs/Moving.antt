-- A client's step moves it once, from a home that is gone to a row of the current window, or it leaves its home.
use Rattle.std.proofs.Common.{◌≡◌, ◌⊎◌, ◌∙◌, ℕ, ◌==◌, ◌&&◌, Bool, true, false, List, [], ◌∷◌, ◌++◌, append-nil, filter_map, Option, refl, sym, ap, subst, inl, inr}
use Rattle.std.specs.List.{slice_get}
use Rattle.std.proofs.lemmas.Bool.{false≢true, and_parts, eqb-true}
use Rattle.std.proofs.lemmas.List.Elements.{filter_map-append}
use Rattle.fix_ante.specs.declared.spots.Spot.{Spot}
use Rattle.msg_wire.specs.Heeded.{is_heeded}
use Rattle.msg_wire.specs.Nodes.{number_of}
use Rattle.node_rules.specs.Names.{NodeId, Entry, Item, Message, What, Event}
use Rattle.node_rules.specs.Names.items
use Rattle.node_rules.specs.Names.events
use Rattle.node_rules.specs.Names.whats
use Rattle.node_rules.specs.Nodes.{Node}
use Rattle.node_rules.specs.Turns.{Turn, started, own_of, put_own, store}
use Rattle.node_rules.proofs.Lists.{on_test, on_option, on_fold}
use Rattle.node_rules.proofs.Places.{Comes, unshown_sites}
use Rattle.client_node.specs.States.{ClientState, is_home_gone, numbers_in_reach}
use Rattle.client_node.specs.Rules.{append, append_all, with_home, row_for, move_to, may_move, hear_fate}
use Rattle.client_node.specs.Steps.{hear, client_step}
use Rattle.client_node.proofs.Places.{IsHomeGone, IsRowFor, Stores, submits, counts, moves}
use Rattle.client_node.proofs.Walk.{client_walk}
use Rattle.runs.specs.Homes.{Home, home_in}

abbrev pub homes_in : List Item → List Home
homes_in = filter_map home_in

-- ---- a step to which no Fate comes

abbrev NoFate : Node ClientState → Event → Type 0
NoFate n event = (from : NodeId) (next : ℕ) → Comes n event from (whats.Fate next) → ⊥

-- one more item, of which nothing is read
pub none_more : {X : Type 0} (f : Item → Option X) (stable : List Item) (item : Item) → filter_map f (item ∷ []) ≡ []
    → filter_map f (stable ++ item ∷ []) ≡ filter_map f stable
none_more f stable item none =
    filter_map-append f stable (item ∷ []) ∙ (ap (λ l. filter_map f stable ++ l) none ∙ append-nil (filter_map f stable))

-- a step stores nothing that is read where no place of it does
pub reads_none : {X : Type 0} (f : Item → Option X) (n : Node ClientState) (event : Event) → ((entry : Entry) → filter_map f (items.Known entry ∷ []) ≡ [])
    → ((s : Node ClientState) (item : Item) (own : ClientState) → Stores n event s item own → filter_map f (item ∷ []) ≡ [])
    → filter_map f (client_step n event).stable ≡ []
reads_none f n event known stored =
    client_walk _ n event
    (unshown_sites (λ (t : Turn ClientState). filter_map f t.stable ≡ [])
    (record {
      starts = refl;
      restarts = λ e. refl;
      learns = λ t entry why w. none_more f t.stable (items.Known entry) (known entry) ∙ w;
      stores = λ t item own why w. none_more f t.stable item (stored t.state item own why) ∙ w;
      changes = λ t own why w. absurd why;
    }))

pub no_home : (stable : List Item) (item : Item) → homes_in (item ∷ []) ≡ [] → homes_in (stable ++ item ∷ []) ≡ homes_in stable
no_home = none_more home_in

module _ (n : Node ClientState) (event : Event) (none : NoFate n event) where
  stored_no_home : (s : Node ClientState) (item : Item) (own : ClientState) → Stores n event s item own → homes_in (item ∷ []) ≡ []
  stored_no_home s _ _ (submits by body submit room) = refl
  stored_no_home s _ _ (counts from number position comes next room) = refl
  stored_no_home s _ _ (moves from next row comes home gone next_is row_is) = absurd (none from next comes)

  stays_home : homes_in (client_step n event).stable ≡ []
  stays_home = reads_none home_in n event (λ entry. refl) stored_no_home

-- ---- a Fate

-- what a step that moves rests on, by the items that it stores
pub record Moves (n : Node ClientState) (event : Event) (stable : List Item) : Type 0 where
  pub from : NodeId
  pub next : ℕ
  pub row : Spot
  pub comes : Comes n event from (whats.Fate next)
  pub home : number_of from ≡ n.own.home
  pub gone : IsHomeGone n
  pub acked : next ≡ n.own.acked
  pub is_row : IsRowFor n row
  pub moved : homes_in stable ≡ record { shard = row.shard; first = next } ∷ []

abbrev pub MayMove : Node ClientState → Event → Turn ClientState → Type 0
MayMove n event t = (homes_in t.stable ≡ []) ⊎ Moves n event t.stable

appends_none : (t : Turn ClientState) → (append_all t).stable ≡ t.stable
appends_none t =
    on_fold (λ (u : Turn ClientState). u.stable ≡ t.stable) append (numbers_in_reach t) t
    (λ u i number at is. on_option (λ (v : Turn ClientState). v.stable ≡ t.stable) _ (slice_get (own_of u).bodies number) u (λ body there. is) is) refl

fate_moves : (n : Node ClientState) (event : Event) (from : NodeId) (next : ℕ) → Comes n event from (whats.Fate next)
    → MayMove n event (hear_fate from next (started n))
fate_moves n event from next comes =
    let t = started n in
    on_test (MayMove n event) (may_move from next t) _ t
    (λ may.
    let parts = and_parts (number_of from == (own_of t).home) (is_home_gone t && (next == (own_of t).acked)) may in
    let both = and_parts (is_home_gone t) (next == (own_of t).acked) parts.1 in
    on_option (MayMove n event) (λ row. move_to next row t) (row_for t) t
    (λ row is_row.
    inr (record {
      from = from;
      next = next;
      row = row;
      comes = comes;
      home = eqb-true (number_of from) (own_of t).home parts.0;
      gone = both.0;
      acked = eqb-true next (own_of t).acked both.1;
      is_row = is_row;
      moved = ap homes_in (appends_none (put_own (with_home row.shard next (own_of t)) (store (items.Moved row.shard next) t)));
    }))
    (inl refl))
    (λ _. inl refl)

-- ---- any step

abbrev is_fate : What → Bool
is_fate (whats.Fate next) = true
is_fate _ = false

abbrev brings_fate : Event → Bool
brings_fate (events.Deliver m) = is_fate m.what
brings_fate _ = false

no_fate : (n : Node ClientState) (event : Event) → brings_fate event ≡ false → NoFate n event
no_fate n event not_so from next comes =
    let says : is_fate comes.message.what ≡ true = ap is_fate comes.says in
    false≢true (sym not_so ∙ (ap brings_fate comes.same ∙ says))

hears_fate : (n : Node ClientState) (m : Message) (what : What) → m.what ≡ what → is_fate what ≡ true
    → MayMove n (events.Deliver m) (client_step n (events.Deliver m))
hears_fate n m (whats.Fate next) says is =
    let t = started n in
    on_test (MayMove n (events.Deliver m)) (is_heeded n.base.cfg n.base.me m) (hear m.from m.what t) t
    (λ heeded.
    subst (λ w. MayMove n (events.Deliver m) (hear m.from w t)) (sym says)
    (fate_moves n (events.Deliver m) m.from next (record { message = m; same = refl; by = refl; says = says; heeded = heeded })))
    (λ _. inl refl)
hears_fate n m _ says is = absurd (cc)

of_message : (n : Node ClientState) (m : Message) (b : Bool) → is_fate m.what ≡ b → MayMove n (events.Deliver m) (client_step n (events.Deliver m))
of_message n m true is = hears_fate n m m.what refl is
of_message n m false is = inl (stays_home n (events.Deliver m) (no_fate n (events.Deliver m) is))

pub may_move_on : (n : Node ClientState) (event : Event) → MayMove n event (client_step n event)
may_move_on n (events.Deliver m) = of_message n m (is_fate m.what) refl
may_move_on n events.Tick = inl (stays_home n events.Tick (no_fate n events.Tick refl))
may_move_on n events.Restart = inl (stays_home n events.Restart (no_fate n events.Restart refl))
may_move_on n (events.Submit by body) = inl (stays_home n (events.Submit by body) (no_fate n (events.Submit by body) refl))
may_move_on n (events.Command command) = inl (stays_home n (events.Command command) (no_fate n (events.Command command) refl))
