-- The turn of a drain goes from node to node.
use Rattle.std.proofs.Common.{◌≡◌, ℕ, ◌+◌, ◌%◌, ◌<◌, List, length, get_or, Option, Some, Result, sym, ap, ◌∙◌, subst}
use Rattle.std.specs.Prelude.{IfOk}
use Rattle.std.specs.List.{slice_get}
use Rattle.std.specs.Option.{option_map_or}
use Rattle.std.proofs.lemmas.Option.{slice_get_read}
use Rattle.std.proofs.lemmas.Result.{IfOk-weaker}
use Rattle.world.specs.inside.Names.{nodes_of, NodeId, Parts, AreParts, shown_by, PlayerState, happens, ticks_next}
use Rattle.runs.specs.Names.events

-- whose turn it is, by the parts of a player
pub record HasTurn (s : PlayerState) (i : Parts) : Type 0 where
  pub turn : i.turn ≡ s.turn
  pub count : length i.order.items ≡ length (nodes_of s.cfg)
  pub within : s.turn < length (nodes_of s.cfg)
  pub there : (node : NodeId) → node ≡ get_or i.order.items i.turn node → slice_get (nodes_of s.cfg) s.turn ≡ Some node

pub has_turn : (s : PlayerState) (i whole : Parts) → i ≡ whole → AreParts whole → shown_by whole ≡ s → HasTurn s i
has_turn s i whole same are view =
    let known : AreParts i = subst AreParts (sym same) are in
    let shown : shown_by i ≡ s = ap shown_by same ∙ view in
    record {
      turn = ap (λ (k : PlayerState). k.turn) shown;
      count = ap length known.order ∙ ap (λ (k : PlayerState). length (nodes_of k.cfg)) shown;
      within = subst (λ (k : PlayerState). k.turn < length (nodes_of k.cfg)) shown known.turn;
      there = λ node is.
          subst (λ (k : PlayerState). slice_get (nodes_of k.cfg) k.turn ≡ Some node) shown
          (ap (λ (xs : List NodeId). slice_get xs i.turn) (sym known.order)
          ∙ slice_get_read i.order.items (length (nodes_of i.cfg)) i.turn node (sym (ap length known.order)) known.turn is);
    }

abbrev turned : PlayerState → ℕ → PlayerState
turned s turn = record { cfg = s.cfg; past = s.past; settled = s.settled; turn = turn }

-- the node whose turn it is ticks
ticks_is : (s : PlayerState) (node : NodeId) → slice_get (nodes_of s.cfg) s.turn ≡ Some node
    → happens node events.Tick (turned s ((s.turn + 1) % length (nodes_of s.cfg))) ≡ ticks_next s
ticks_is s node there =
    sym (ap (λ (o : Option NodeId). option_map_or (λ n. happens n events.Tick (turned s ((s.turn + 1) % length (nodes_of s.cfg)))) o s) there)

pub ticked : {E : Type 0} → (r : Result PlayerState E) (s t : PlayerState) (node : NodeId) (turn : ℕ) → slice_get (nodes_of s.cfg) s.turn ≡ Some node
    → t ≡ record { cfg = s.cfg; past = s.past; settled = s.settled; turn = turn } → turn ≡ (s.turn + 1) % length (nodes_of s.cfg)
    → IfOk r (λ p. p ≡ happens node events.Tick t) → IfOk r (λ p. p ≡ ticks_next s)
ticked r s t node turn there is next =
    IfOk-weaker r (λ p. p ≡ happens node events.Tick t) (λ p. p ≡ ticks_next s)
    (λ p e. e ∙ ap (happens node events.Tick) (is ∙ ap (turned s) next) ∙ ticks_is s node there)
