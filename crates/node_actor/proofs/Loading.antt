-- The items of a vault's entries, entry after entry.
use Rattle.std.proofs.Common.{◌≡◌, ℕ, zero, suc, ◌+◌, ◌<◌, List, [], ◌∷◌, ◌++◌, length, map, drop, get_or, Bool, true, false, refl, sym, ap, ◌∙◌, subst}
use Rattle.std.proofs.Common.{append_assoc, append-nil, arith}
use Rattle.msg_wire.specs.Items.{items_spelling}
use Rattle.msg_wire.specs.Nodes.{same_node}
use Rattle.msg_wire.specs.Steps.{IsVaultEntry}
use Rattle.msg_wire.specs.Valid.{AreValidItems}
use Rattle.net_model.specs.Names.{NodeId, Item, Event}
use Rattle.net_model.specs.Pasts.{Past}
use Rattle.net_model.specs.Tables.{StepTable, Progress, step_if, progress_of, items_of}
use Rattle.node_actor.specs.Chunks.{Chunks, chunk_of, chunk_if, chunks_of, all_items}
use Rattle.node_actor.specs.Stores.{AreEntries}

-- the chunk of an entry, and what follows it
pub record IsNextChunk (chunks : Chunks) (index : ℕ) (entry : List ℕ) : Type 0 where
  pub items : List Item
  pub split : all_items (drop index chunks) ≡ items ++ all_items (drop (index + 1) chunks)
  pub spelled : entry ≡ items_spelling items
  pub valid : IsVaultEntry items

pub next_chunk : (chunks : Chunks) (index : ℕ) (d : List ℕ) → AreEntries chunks → index < length (map items_spelling chunks)
    → IsNextChunk chunks index (get_or (map items_spelling chunks) index d)
next_chunk [] index d all below = absurd (omega arith)
next_chunk (c ∷ chunks) zero d all below = record { items = c; split = refl; spelled = refl; valid = all.0 }
next_chunk (c ∷ chunks) (suc index) d all below =
    let later = next_chunk chunks index d all.1 (omega arith) in
    let at : suc index + 1 ≡ suc (index + 1) = omega arith in
    record {
      items = later.items;
      split = later.split ∙ ap (λ k. later.items ++ all_items (drop k (c ∷ chunks)))
          (sym at);
      spelled = later.spelled;
      valid = later.valid;
    }

pub next_spelled : (chunks : Chunks) (entries : List (List ℕ)) (index : ℕ) (d : List ℕ) → AreEntries chunks → entries ≡ map items_spelling chunks
    → index < length entries
    → IsNextChunk chunks index (get_or entries index d)
next_spelled chunks entries index d all spelled below =
    subst (λ es. IsNextChunk chunks index (get_or es index d)) (sym spelled) (next_chunk chunks index d all (subst (λ es. index < length es) spelled below))

-- with the items of the next entry behind them
pub read_more : (so_far all : List Item) (chunks : Chunks) (index : ℕ) (items : List Item)
    → all_items (drop index chunks) ≡ items ++ all_items (drop (index + 1) chunks)
    → so_far ++ all_items (drop index chunks) ≡ all → (so_far ++ items) ++ all_items (drop (index + 1) chunks) ≡ all
read_more so_far all chunks index items split so =
    append_assoc so_far items (all_items (drop (index + 1) chunks)) ∙ ap (λ l. so_far ++ l) (sym split) ∙ so

pub valid_append : (xs ys : List Item) → AreValidItems xs → AreValidItems ys → AreValidItems (xs ++ ys)
valid_append [] ys none all = all
valid_append (x ∷ xs) ys front back = (front.0, valid_append xs ys front.1 back)

-- ---- what a node stored is what its vault keeps

all_append : (a b : Chunks) → all_items (a ++ b) ≡ all_items a ++ all_items b
all_append [] b = refl
all_append (x ∷ a) b = ap (λ l. x ++ l) (all_append a b) ∙ sym (append_assoc x (all_items a) (all_items b))

all_chunk : (items : List Item) → all_items (chunk_of items) ≡ items
all_chunk [] = refl
all_chunk (x ∷ items) = append-nil (x ∷ items)

stored_if : {S : Type 0} (own : Bool) (table : StepTable S) (event : Event) (p : Progress S) (chunks : Chunks) → p.stored ≡ all_items chunks
    → (step_if own table event p).stored ≡ all_items (chunks ++ chunk_if own table p.state event)
stored_if true table event p chunks is =
    let new = (table.gives p.state event).stable in
    ap (λ l. l ++ new) is ∙ ap (λ l. all_items chunks ++ l) (sym (all_chunk new)) ∙ sym (all_append chunks (chunk_of new))
stored_if false table event p chunks is = is ∙ ap all_items (sym (append-nil chunks))

pub stored_is : {S : Type 0} (table : StepTable S) (node : NodeId) (past : Past) → items_of table node past ≡ all_items (chunks_of table node past)
stored_is table node [] = refl
stored_is table node (e ∷ past) =
    stored_if (same_node e.node node) table e.event (progress_of table node past) (chunks_of table node past) (stored_is table node past)
