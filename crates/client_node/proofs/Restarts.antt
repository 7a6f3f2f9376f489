-- The items that a client's steps store lead to what a restart leaves.
use Rattle.std.proofs.Common.{◌≡◌, ◌<◌, ◌^◌, List, [], ◌∷◌, ◌++◌, refl, ap, sym, ◌∙◌, arith}
use Rattle.std.specs.List.{AllByRecursion, fold}
use Rattle.std.proofs.lemmas.Bool.{lt-ltb, cond-true}
use Rattle.std.proofs.lemmas.Grind.{fold-append}
use Rattle.msg_wire.specs.Valid.{IsValidEvent}
use Rattle.node_rules.specs.Names.{NodeId, Config, Item, Event}
use Rattle.node_rules.specs.Names.items
use Rattle.node_rules.specs.Nodes.{Node, knowing, with_own}
use Rattle.node_rules.specs.Turns.{Turn}
use Rattle.node_rules.specs.Lives.{Life, life_of}
use Rattle.node_rules.proofs.Kept.{told_valid}
use Rattle.node_rules.proofs.Places.{Sites}
use Rattle.node_rules.proofs.Telling.{with_base}
use Rattle.client_node.specs.States.{ClientState}
use Rattle.client_node.specs.Steps.{client_step}
use Rattle.client_node.specs.Restart.{fit, reset_of, fresh_node, restart_of}
use Rattle.client_node.proofs.Places.{Stores, submits, counts, moves, client_places}
use Rattle.client_node.proofs.Walk.{client_walk}

-- from what a restart of a node leaves, a turn's items lead to what a restart leaves of the turn's node
abbrev Leads : Node ClientState → Turn ClientState → Type 0
Leads n t = fold fit (reset_of n) t.stable ≡ reset_of t.state

-- one item more
one_more : (n u : Node ClientState) (item : Item) (t : Turn ClientState) → Leads n t → fit (reset_of t.state) item ≡ reset_of u
    → fold fit (reset_of n) (t.stable ++ item ∷ []) ≡ reset_of u
one_more n u item t h e = fold-append fit (reset_of n) t.stable (item ∷ []) ∙ (ap (λ (m : Node ClientState). fit m item) h ∙ e)

fits_stored : (n : Node ClientState) (event : Event) (s : Node ClientState) (item : Item) (own : ClientState) → Stores n event s item own
    → fit (reset_of s) item ≡ reset_of (with_own own s)
fits_stored n event s _ _ (submits by body submit room) = cond-true _ _ _ (lt-ltb _ _ room)
fits_stored n event s _ _ (counts from number position comes next room) = let low : s.own.acked < 2 ^ 48 = omega (arith, next, room) in cond-true _ _ _ (lt-ltb _ _ low)
fits_stored n event s _ _ (moves from next row comes home gone next_is row_is) = refl

step_leads : (n : Node ClientState) (event : Event) → IsValidEvent event → Leads n (client_step n event)
step_leads n event valid =
    let sites : Sites client_places (Leads n) n event = record {
      starts = refl;
      restarts = λ e. refl;
      learns = λ t entry told leads. one_more n (with_base (knowing entry t.state.base) t.state) (items.Known entry) t leads (cond-true _ _ _ (told_valid n event t.state entry told valid).1);
      sees = λ t from slot count entry comes leads. leads;
      ticks = λ t e leads. leads;
      asks = λ t to why leads. leads;
      says = λ t to what why leads. leads;
      shows = λ t mark why leads. leads;
      stores = λ t item own why leads. one_more n (with_own own t.state) item t leads (fits_stored n event t.state item own why);
      changes = λ t own why leads. absurd why;
    } in
    client_walk (Leads n) n event sites

-- ---- lives

abbrev client_life : Config → NodeId → List Event → Life ClientState
client_life cfg me = life_of client_step (fresh_node cfg me)

pub restart_items : (cfg : Config) (me : NodeId) (events : List Event) → AllByRecursion IsValidEvent events
    → reset_of (client_life cfg me events).node ≡ restart_of cfg me (client_life cfg me events).stored
restart_items cfg me [] each = refl
restart_items cfg me (event ∷ events) each =
    let life = client_life cfg me events in
    let before : restart_of cfg me life.stored ≡ reset_of life.node = sym (restart_items cfg me events each.1) in
    sym (fold-append fit (fresh_node cfg me) life.stored (client_step life.node event).stable
    ∙ (ap (λ (m : Node ClientState). fold fit m (client_step life.node event).stable) before ∙ step_leads life.node event each.0))
