-- What every kind of node keeps: what holds of its nodes, that it stores and sends what is valid, and that what it stored leads to
-- what a restart leaves.
use Rattle.std.proofs.Common.{◌≡◌, ℕ, true, List, [], ◌∷◌, ◌++◌, length, sym, subst}
use Rattle.std.specs.List.{AllByRecursion, fold}
use Rattle.std.proofs.lemmas.Bool.{ltb-true, lt-ltb}
use Rattle.std.proofs.lemmas.List.Sums.{fold-append}
use Rattle.spec_base.specs.Spelling.{IsValidNode}
use Rattle.quota_table.specs.Entries.{IsValidEntry}
use Rattle.msg_wire.specs.Valid.{IsValidItem, IsValidMessage, IsValidWhat, IsValidEvent}
use Rattle.msg_wire.specs.Steps.{IsValidStep}
use Rattle.node_rules.specs.Names.{NodeId, Entry, Item, What, Event}
use Rattle.node_rules.specs.Names.items
use Rattle.node_rules.specs.Names.whats
use Rattle.node_rules.specs.Nodes.{Node, knowing, seeing, ticking, has_slot, with_own}
use Rattle.node_rules.specs.Sound.{IsBase}
use Rattle.node_rules.specs.Turns.{Turn, message_to, step_of}
use Rattle.node_rules.specs.Lives.{Life, life_of}
use Rattle.node_rules.proofs.Lists.{all_push}
use Rattle.node_rules.proofs.Places.{Comes, IsTold, Asks, asks_on, asks_at_tick, Places, SitesAfter, same_own}
use Rattle.node_rules.proofs.Telling.{with_base, with_entry}
use Rattle.node_rules.proofs.Limits.{node_valid, base_knowing, base_seeing, base_ticking, MayBe, asked_valid}

-- ---- what comes with a valid event

pub comes_valid : {S : Type 0} (n : Node S) (event : Event) (from : NodeId) (what : What) → Comes n event from what → IsValidEvent event
    → IsValidNode from × IsValidWhat what
comes_valid n event from what comes valid =
    let message : IsValidMessage comes.message = subst IsValidEvent comes.same valid in
    (subst IsValidNode comes.by message.from, subst IsValidWhat comes.says message.what)

-- a told entry is valid, and there is a slot for it
pub told_valid : {S : Type 0} (n : Node S) (event : Event) (s : Node S) (entry : Entry) → IsTold n event s entry → IsValidEvent event
    → IsValidEntry entry × (has_slot s.base ≡ true)
told_valid n event s entry told valid =
    let says = (comes_valid n event told.from (whats.Decided (length s.base.known) told.count entry) told.comes valid).1 in
    (says.3, lt-ltb _ _ says.0)

pub asks_valid : {S : Type 0} (n : Node S) (event : Event) (s : Node S) (to : NodeId) → Asks n event s to → IsValidEvent event → IsBase s.base
    → IsValidNode to × IsValidWhat (whats.Learn (length s.base.known))
asks_valid n event s _ (asks_on from slot count entry comes more free) valid is = ((comes_valid n event from _ comes valid).0, ltb-true _ _ free)
asks_valid n event s _ (asks_at_tick to tick whom free) valid is = (subst MayBe whom (asked_valid s.base is), ltb-true _ _ free)

-- ---- what a kind keeps

-- what holds of its nodes; how it takes up an item of its vault; and when a node made of stored items is as a restart would leave another
pub record Keeping (S : Type 0) : Type 1 where
  pub Is : Node S → Type 0
  pub fit : Node S → Item → Node S
  pub Leads : Node S → Node S → Type 0

-- of a turn that began at a node
pub record IsKept {S : Type 0} (k : Keeping S) (n : Node S) (t : Turn S) : Type 0 where
  pub is : k.Is t.state
  pub stable : AllByRecursion IsValidItem t.stable
  pub sends : AllByRecursion IsValidMessage t.sends
  pub leads : (a : Node S) → k.Leads a n → k.Leads (fold k.fit a t.stable) t.state

-- at the places of a kind
pub record KeepsAfter {S : Type 0} (p : Places S) (after : Node S → Entry → S) (k : Keeping S) (n : Node S) (event : Event) : Type 0 where
  pub base : (s : Node S) → k.Is s → IsBase s.base
  pub resets : k.Is n → k.Is (p.reset n) × ((a : Node S) → k.Leads a n → k.Leads a (p.reset n))
  pub learns : (s : Node S) (entry : Entry) → p.Learns n event s entry → k.Is s → IsValidEntry entry × (has_slot s.base ≡ true)
  pub knows : (s : Node S) (entry : Entry) → IsBase (knowing entry s.base) → k.Is s → k.Is (with_entry after entry s)
  pub sees : (s : Node S) (count : ℕ) → IsBase (seeing count s.base) → k.Is s → k.Is (with_base (seeing count s.base) s)
  pub ticks : (s : Node S) → IsBase (ticking s.base) → k.Is s → k.Is (with_base (ticking s.base) s)
  pub says : (s : Node S) (to : NodeId) (what : What) → p.Says n event s to what → k.Is s → IsValidNode to × IsValidWhat what
  pub stores : (s : Node S) (item : Item) (own : S) → p.Stores n event s item own → k.Is s → IsValidItem item × k.Is (with_own own s)
  pub changes : (s : Node S) (own : S) → p.Changes n event s own → k.Is s → k.Is (with_own own s)
  pub leads_known : (a s : Node S) (entry : Entry) → (has_slot s.base ≡ true) × k.Is s → k.Leads a s
      → k.Leads (k.fit a (items.Known entry)) (with_entry after entry s)
  pub leads_seen : (a s : Node S) (count : ℕ) → k.Leads a s → k.Leads a (with_base (seeing count s.base) s)
  pub leads_ticked : (a s : Node S) → k.Leads a s → k.Leads a (with_base (ticking s.base) s)
  pub leads_stored : (a s : Node S) (item : Item) (own : S) → p.Stores n event s item own → k.Is s → k.Leads a s → k.Leads (k.fit a item) (with_own own s)
  pub leads_changed : (a s : Node S) (own : S) → p.Changes n event s own × k.Is s → k.Leads a s → k.Leads a (with_own own s)

abbrev pub Keeps : {S : Type 0} → Places S → Keeping S → Node S → Event → Type 0
Keeps p k n event = KeepsAfter p same_own k n event

module _ {S : Type 0} {after : Node S → Entry → S} (p : Places S) (k : Keeping S) (n : Node S) (event : Event) (keeps : KeepsAfter p after k n event) (valid : IsValidEvent event) where
  -- of the node alone
  pub keeping_node : k.Is n → SitesAfter p after (λ t. k.Is t.state) n event
  keeping_node is = record {
    starts = is;
    restarts = λ e. (keeps.resets is).0;
    learns = λ t entry why is. let fits = keeps.learns t.state entry why is in keeps.knows t.state entry (base_knowing entry t.state.base fits.0 fits.1 (keeps.base t.state is)) is;
    sees = λ t from slot count entry comes is. keeps.sees t.state count (base_seeing count t.state.base (comes_valid n event from _ comes valid).1.2 (keeps.base t.state is)) is;
    ticks = λ t e is. keeps.ticks t.state (base_ticking t.state.base (keeps.base t.state is)) is;
    asks = λ t to why is. is;
    says = λ t to what why is. is;
    shows = λ t mark why is. is;
    stores = λ t item own why is. (keeps.stores t.state item own why is).1;
    changes = λ t own why is. keeps.changes t.state own why is;
  }

  -- one item more, which leads on
  kept_item : (t : Turn S) (item : Item) (after : Node S) → k.Is after → IsValidItem item → ((a : Node S) → k.Leads a t.state → k.Leads (k.fit a item) after)
      → IsKept k n t
      → IsKept k n (record t { state = after; stable = t.stable ++ item ∷ [] })
  kept_item t item after is fits leads kept = record {
    is = is;
    stable = all_push IsValidItem t.stable item kept.stable fits;
    sends = kept.sends;
    leads = λ a so_far. subst (λ (m : Node S). k.Leads m after) (sym (fold-append k.fit a t.stable (item ∷ []))) (leads (fold k.fit a t.stable) (kept.leads a so_far));
  }

  kept_node : (t : Turn S) (after : Node S) → k.Is after → ((a : Node S) → k.Leads a t.state → k.Leads a after) → IsKept k n t
      → IsKept k n (record t { state = after })
  kept_node t after is leads kept = record { is = is; stable = kept.stable; sends = kept.sends; leads = λ a so_far. leads _ (kept.leads a so_far) }

  kept_sent : (t : Turn S) (to : NodeId) (what : What) → IsValidNode to × IsValidWhat what → IsKept k n t
      → IsKept k n (record t { sends = t.sends ++ message_to t what to ∷ [] })
  kept_sent t to what goes kept = record {
    is = kept.is;
    stable = kept.stable;
    sends =
        let base = keeps.base t.state kept.is in
        all_push IsValidMessage t.sends (message_to t what to) kept.sends (record { from = node_valid t.state.base.cfg t.state.base.me base.cfg base.me; to = goes.0; what = goes.1 });
    leads = kept.leads;
  }

  pub keeping : k.Is n → SitesAfter p after (IsKept k n) n event
  keeping is = let node = keeping_node is in record {
    starts = record { is = is; stable = tt; sends = tt; leads = λ a leads. leads };
    restarts = λ e. record { is = node.restarts e; stable = tt; sends = tt; leads = (keeps.resets is).1 };
    learns = λ t entry why kept.
        let fits = keeps.learns t.state entry why kept.is in
        kept_item t (items.Known entry) _ (node.learns t entry why kept.is) fits.0 (λ a leads. keeps.leads_known a t.state entry (fits.1, kept.is) leads) kept;
    sees = λ t from slot count entry comes kept. kept_node t _ (node.sees t from slot count entry comes kept.is) (λ a leads. keeps.leads_seen a t.state count leads) kept;
    ticks = λ t e kept. kept_node t _ (node.ticks t e kept.is) (λ a leads. keeps.leads_ticked a t.state leads) kept;
    asks = λ t to why kept. kept_sent t to (whats.Learn (length t.state.base.known)) (asks_valid n event t.state to why valid (keeps.base t.state kept.is)) kept;
    says = λ t to what why kept. kept_sent t to what (keeps.says t.state to what why kept.is) kept;
    shows = λ t mark why kept. record { is = kept.is; stable = kept.stable; sends = kept.sends; leads = kept.leads };
    stores = λ t item own why kept.
        let fits = keeps.stores t.state item own why kept.is in
        kept_item t item _ fits.1 fits.0 (λ a leads. keeps.leads_stored a t.state item own why kept.is leads) kept;
    changes = λ t own why kept. kept_node t _ (keeps.changes t.state own why kept.is) (λ a leads. keeps.leads_changed a t.state own (why, kept.is) leads) kept;
  }

-- ---- lives

-- of a life: its node is one, and what it stored leads to it
pub record IsLife {S : Type 0} (k : Keeping S) (fresh : Node S) (life : Life S) : Type 0 where
  pub is : k.Is life.node
  pub leads : k.Leads (fold k.fit fresh life.stored) life.node

-- each step from a node that is one keeps
abbrev pub KeepsEach : {S : Type 0} → Keeping S → (Node S → Event → Turn S) → Type 0
KeepsEach {S} k step = (n : Node S) (event : Event) → k.Is n → IsValidEvent event → IsKept k n (step n event)

pub lives : {S : Type 0} (k : Keeping S) (step : Node S → Event → Turn S) (fresh : Node S) (events : List Event) → KeepsEach k step → k.Is fresh
    → k.Leads fresh fresh → AllByRecursion IsValidEvent events
    → IsLife k fresh (life_of step fresh events)
lives k step fresh [] each is leads valid = record { is = is; leads = leads }
lives {S} k step fresh (event ∷ events) each is leads valid =
    let life = lives k step fresh events each is leads valid.1 in
    let kept = each (life_of step fresh events).node event life.is valid.0 in
    record {
      is = kept.is;
      leads =
          subst (λ (m : Node S). k.Leads m (step (life_of step fresh events).node event).state) (sym (fold-append k.fit fresh (life_of step fresh events).stored (step (life_of step fresh events).node event).stable))
          (kept.leads _ life.leads);
    }

-- a step that is kept is valid
pub kept_valid : {S : Type 0} (k : Keeping S) (n : Node S) (t : Turn S) → IsKept k n t → IsValidStep (step_of t)
kept_valid k n t kept = record { stable = kept.stable; sends = kept.sends }
