-- Items and marks of one node are among those of all, and those of all are a node's.
use Rattle.std.proofs.Common.{◌≡◌, ◌⊎◌, Bool, true, false, List, [], ◌∷◌, map, Contains, refl, sym, subst, inl, inr, arith, if◌then◌else◌}
use Rattle.std.proofs.lemmas.List.Elements.{Contains-append_left, Contains-append_right, Contains-append_cases}
use Rattle.majority.proofs.Lists.{Contains_cases, Contains_here, Contains_later}
use Rattle.msg_wire.specs.Nodes.{same_node}
use Rattle.net_model.specs.Pasts.{Past, marks_of, marks_at, shown}
use Rattle.runs.specs.Names.{NodeId, Config, Entry, Item, Mark, HistoryEntry}
use Rattle.runs.specs.Kinds.{items_at, step_at}
use Rattle.runs.specs.Known.{known_at}
use Rattle.runs.proofs.SameNodes.{same_node_is, node_itself}
use Rattle.safety_frame.specs.Gathered.{StoredItem, stored_in, all_stored, ToldMark, told_in, all_told}
use Rattle.runs.specs.Marks.{IsPrefix}
use Rattle.safety_frame.proofs.Lists.{begins_itself, begins_on, member_stays}
use Rattle.safety_frame.proofs.Pasts.{own_stored, other_stored, no_items, items_grow, known_grows}
use Rattle.safety_frame.proofs.Inductions.{Gathers}

-- ---- members of what is made of each

pub member_mapped : {A B : Type 0} (f : A → B) (xs : List A) (x : A) → Contains xs x → Contains (map f xs) (f x)
member_mapped f [] x c = absurd (omega (arith, c.1))
member_mapped f (y ∷ xs) x c = elim (Contains_cases y x xs c) [
  | inl same ↦ subst (λ z. Contains (f y ∷ map f xs) (f z)) same (Contains_here (f y) (map f xs))
  | inr later ↦ Contains_later (f y) (f x) (map f xs) (member_mapped f xs x later)
]

pub mapped_member : {A B : Type 0} (f : A → B) (xs : List A) (y : B) → Contains (map f xs) y → (x : A) × Contains xs x × (f x ≡ y)
mapped_member f [] y c = absurd (omega (arith, c.1))
mapped_member f (x ∷ xs) y c = elim (Contains_cases (f x) y (map f xs) c) [
  | inl same ↦ (x, Contains_here x xs, same)
  | inr later ↦ let found = mapped_member f xs y later in (found.0, Contains_later x found.0 xs found.1, found.2)
]

-- ---- items

pub gathers_stored : (cfg : Config) → Gathers cfg (all_stored cfg) (stored_in cfg)
gathers_stored cfg = record { none = refl; more = λ e past. refl }

abbrev stored_item : NodeId → Item → StoredItem
stored_item node item = record { node = node; item = item }

own_item : (cfg : Config) (own : Bool) (node : NodeId) (item : Item) (e : HistoryEntry) (past : Past) → same_node e.node node ≡ own
    → Contains (items_at cfg node (e ∷ past)) item → Contains (items_at cfg node past) item ⊎ Contains (stored_in cfg e past) (stored_item node item)
own_item cfg true node item e past own c =
    let same = same_node_is e.node node own in
    elim (Contains-append_cases _ _ item (subst (λ l. Contains l item) (own_stored cfg node e past own) c)) [
      | inl before ↦ inl before
      | inr now ↦ inr (subst (λ n. Contains (step_at cfg n past e.event).stable item → Contains (stored_in cfg e past) (stored_item n item)) same
          (λ there. member_mapped (stored_item e.node) (step_at cfg e.node past e.event).stable item there) now)
    ]
own_item cfg false node item e past other c = inl (subst (λ l. Contains l item) (other_stored cfg node e past other) c)

pub item_stored : (cfg : Config) (node : NodeId) (item : Item) (past : Past) → Contains (items_at cfg node past) item
    → Contains (all_stored cfg past) (record { node = node; item = item })
item_stored cfg node item [] c = absurd (omega (arith, (subst (λ l. Contains l item) (no_items cfg node) c).1))
item_stored cfg node item (e ∷ past) c =
    elim (own_item cfg (same_node e.node node) node item e past refl c) [
      | inl before ↦ Contains-append_left (all_stored cfg past) (stored_in cfg e past) _ (item_stored cfg node item past before)
      | inr now ↦ Contains-append_right (all_stored cfg past) (stored_in cfg e past) _ now
    ]

pub stored_there : (cfg : Config) (x : StoredItem) (past : Past) → Contains (all_stored cfg past) x → Contains (items_at cfg x.node past) x.item
stored_there cfg x [] c = absurd (omega (arith, c.1))
stored_there cfg x (e ∷ past) c =
    elim (Contains-append_cases (all_stored cfg past) (stored_in cfg e past) x c) [
      | inl before ↦ member_stays (items_at cfg x.node past) (items_at cfg x.node (e ∷ past)) x.item (items_grow cfg x.node e past)
          (stored_there cfg x past before)
      | inr now ↦ subst (λ (y : StoredItem). Contains (items_at cfg y.node (e ∷ past)) y.item) (made_of now).2
          (subst (λ l. Contains l (made_of now).0) (sym (own_stored cfg e.node e past (node_itself e.node)))
          (Contains-append_right (items_at cfg e.node past) (step_at cfg e.node past e.event).stable (made_of now).0 (made_of now).1))
    ]
  where
    made_of : Contains (stored_in cfg e past) x → (item : Item) × Contains (step_at cfg e.node past e.event).stable item × (stored_item e.node item ≡ x)
    made_of now = mapped_member (stored_item e.node) (step_at cfg e.node past e.event).stable x now

-- ---- marks

pub gathers_told : (cfg : Config) → Gathers cfg (all_told cfg) (told_in cfg)
gathers_told cfg = record { none = refl; more = λ e past. refl }

abbrev told_mark : NodeId → List Entry → Mark → ToldMark
told_mark node known mark = record { node = node; known = known; mark = mark }

marks_now : (own : Bool) (shown : List Mark) (mark : Mark) → Contains (if own then shown else []) mark → (own ≡ true) × Contains shown mark
marks_now true shown mark c = (refl, c)
marks_now false shown mark c = absurd (omega (arith, c.1))

-- a node's mark was told with something that the node knew then
pub mark_told : (cfg : Config) (node : NodeId) (mark : Mark) (past : Past) → Contains (marks_of node past) mark
    → (known : List Entry) × Contains (all_told cfg past) (record { node = node; known = known; mark = mark })
mark_told cfg node mark [] c = absurd (omega (arith, c.1))
mark_told cfg node mark (e ∷ past) c =
    elim (Contains-append_cases (marks_of node past) (marks_at node e) mark c) [
      | inl before ↦
          let was = mark_told cfg node mark past before in
          (was.0, Contains-append_left (all_told cfg past) (told_in cfg e past) _ was.1)
      | inr now ↦
          let own = marks_now (same_node e.node node) e.marks mark now in
          let known = known_at cfg e.node (e ∷ past) in
          let there : Contains (told_in cfg e past) (told_mark e.node known mark) = member_mapped (told_mark e.node known) e.marks mark own.1 in (
            known,
            Contains-append_right (all_told cfg past) (told_in cfg e past) _
                (subst (λ n. Contains (told_in cfg e past) (told_mark n known mark)) (same_node_is e.node node own.0) there),
          )
    ]

-- what a node knew as it showed a mark begins what it knows
pub told_known : (cfg : Config) (x : ToldMark) (past : Past) → Contains (all_told cfg past) x → IsPrefix x.known (known_at cfg x.node past)
told_known cfg x [] c = absurd (omega (arith, c.1))
told_known cfg x (e ∷ past) c =
    elim (Contains-append_cases (all_told cfg past) (told_in cfg e past) x c) [
      | inl before ↦ begins_on x.known (known_at cfg x.node past) (known_at cfg x.node (e ∷ past)) (told_known cfg x past before)
          (known_grows cfg x.node e past)
      | inr now ↦ subst (λ (y : ToldMark). IsPrefix y.known (known_at cfg y.node (e ∷ past))) (told_of now).2 (begins_itself (known_at cfg e.node (e ∷ past)))
    ]
  where
    told_of : Contains (told_in cfg e past) x → (mark : Mark) × Contains e.marks mark × (told_mark e.node (known_at cfg e.node (e ∷ past)) mark ≡ x)
    told_of now = mapped_member (told_mark e.node (known_at cfg e.node (e ∷ past))) e.marks x now
