-- Laws of messages of any kind of node: what is true of each message as it is sent, and stays so, is true of all that a step sends.
use Rattle.std.proofs.Common.{ℕ, length}
use Rattle.std.specs.List.{AllByRecursion}
use Rattle.node_rules.specs.Names.{NodeId, Entry, Item, Message, What, Event}
use Rattle.node_rules.specs.Names.whats
use Rattle.node_rules.specs.Nodes.{Base, Node, knowing, seeing, ticking, with_own}
use Rattle.node_rules.specs.Turns.{Turn, message_to}
use Rattle.node_rules.proofs.Lists.{all_push, all_weaken}
use Rattle.node_rules.proofs.Places.{Asks, Places, SitesAfter}

-- another part of what every node has
abbrev pub with_base : {S : Type 0} → Base → Node S → Node S
with_base base s = record { base = base; own = s.own }

-- a message of a node
abbrev pub message_of : {S : Type 0} → Node S → NodeId → What → Message
message_of s to what = record { from = s.base.me; to = to; what = what }

-- a node with one more entry
abbrev pub with_entry : {S : Type 0} → (Node S → Entry → S) → Entry → Node S → Node S
with_entry after entry s = record { base = knowing entry s.base; own = after s entry }

-- of nodes and messages
pub record Lasts {S : Type 0} (p : Places S) (after : Node S → Entry → S) (P : Node S → Message → Type 0) (n : Node S) (event : Event) : Type 0 where
  pub asks : (s : Node S) (to : NodeId) → Asks n event s to → P s (message_of s to (whats.Learn (length s.base.known)))
  pub says : (s : Node S) (to : NodeId) (what : What) → p.Says n event s to what → P s (message_of s to what)
  pub learns : (s : Node S) (entry : Entry) (m : Message) → p.Learns n event s entry → P s m → P (with_entry after entry s) m
  pub sees : (s : Node S) (count : ℕ) (m : Message) → P s m → P (with_base (seeing count s.base) s) m
  pub ticks : (s : Node S) (m : Message) → P s m → P (with_base (ticking s.base) s) m
  pub stores : (s : Node S) (item : Item) (own : S) (m : Message) → p.Stores n event s item own → P s m → P (with_own own s) m
  pub changes : (s : Node S) (own : S) (m : Message) → p.Changes n event s own → P s m → P (with_own own s) m

abbrev pub Tells : {S : Type 0} → (Node S → Message → Type 0) → Turn S → Type 0
Tells P t = AllByRecursion (P t.state) t.sends

pub telling : {S : Type 0} (p : Places S) (after : Node S → Entry → S) (P : Node S → Message → Type 0) (n : Node S) (event : Event) → Lasts p after P n event
    → SitesAfter p after (Tells P) n event
telling p after P n event lasts = record {
  starts = tt;
  restarts = λ e. tt;
  learns = λ t entry why w. all_weaken (P t.state) (P _) t.sends (λ m. lasts.learns t.state entry m why) w;
  sees = λ t from slot count entry why w. all_weaken (P t.state) (P _) t.sends (lasts.sees t.state count) w;
  ticks = λ t why w. all_weaken (P t.state) (P _) t.sends (lasts.ticks t.state) w;
  asks = λ t to why w. all_push (P t.state) t.sends (message_to t (whats.Learn (length t.state.base.known)) to) w (lasts.asks t.state to why);
  says = λ t to what why w. all_push (P t.state) t.sends (message_to t what to) w (lasts.says t.state to what why);
  shows = λ t mark why w. w;
  stores = λ t item own why w. all_weaken (P t.state) (P _) t.sends (λ m. lasts.stores t.state item own m why) w;
  changes = λ t own why w. all_weaken (P t.state) (P _) t.sends (λ m. lasts.changes t.state own m why) w;
}
