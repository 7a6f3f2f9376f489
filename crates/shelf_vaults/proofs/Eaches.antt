-- Names, one after the other: what is done at one leaves the others as they were.
use Rattle.std.proofs.Common.{◌≡◌, ℕ, zero, suc, ◌+◌, ◌-◌, ◌<◌, ◌≤◌, Bool, true, false, Option, List, [], ◌∷◌, take, drop, length, get_or, Some, sym, ap, ◌∙◌, subst, arith}
use Rattle.std.specs.List.{slice_get}
use Rattle.std.proofs.lemmas.List.{take-take, get_or-take}
use Rattle.std.proofs.lemmas.Option.{slice_get-get_or}
use Rattle.spec_base.specs.declared.node.NodeId.{NodeId}
use Rattle.spec_base.specs.Shelf.{SameBut}
use Rattle.spec_base.specs.Spelling.{node_name}
use Rattle.shelf_vaults.specs.Sights.{Sight, EachWith, AreOut, IsBackAs, IsNameOfNone, HaveOwnNames, count_of}

-- what holds of names of which nothing changed holds still
pub each_stays : {D V : Type 0} → (P : Sight D → Sight D → V → Type 0) (old now new : List ℕ → Sight D) (name : List ℕ) (nodes : List NodeId) (vs : List V)
    → SameBut name now new → IsNameOfNone nodes name → EachWith P old now nodes vs → EachWith P old new nodes vs
each_stays P old now new name [] [] same none each = tt
each_stays P old now new name [] (v ∷ vs) same none each = absurd each
each_stays P old now new name (node ∷ nodes) [] same none each = absurd each
each_stays P old now new name (node ∷ nodes) (v ∷ vs) same none each = (
  subst (λ s. P (old (node_name node)) s v) (sym (same (node_name node) (λ e. none.0 (sym e)))) each.0,
  each_stays P old now new name nodes vs same none.1 each.1,
)

own_rest : (n : ℕ) (nodes : List NodeId) → HaveOwnNames nodes → HaveOwnNames (drop n nodes)
own_rest zero nodes own = own
own_rest (suc n) [] own = tt
own_rest (suc n) (node ∷ nodes) own = own_rest n nodes own.1

drop_there : {X : Type 0} → (xs : List X) (n : ℕ) (x : X) → slice_get xs n ≡ Some x → drop n xs ≡ x ∷ drop (suc n) xs
drop_there [] n x there = absurd (cc)
drop_there (y ∷ ys) zero x there = let same : y ≡ x = cc in ap (λ z. z ∷ ys) same
drop_there (y ∷ ys) (suc n) x there = drop_there ys n x there

-- the name of a node is of none of those behind it
pub none_behind : (nodes : List NodeId) (n : ℕ) (node : NodeId) → slice_get nodes n ≡ Some node → HaveOwnNames nodes
    → IsNameOfNone (drop (suc n) nodes) (node_name node)
none_behind nodes n node at own = (subst HaveOwnNames (drop_there nodes n node at) (own_rest n nodes own)).0

-- one more node before those that are done
pub each_before : {D V : Type 0} → (P : Sight D → Sight D → V → Type 0) (old now new : List ℕ → Sight D) (nodes : List NodeId) (vs : List V)
    (n : ℕ) (node : NodeId) (v : V) → slice_get nodes n ≡ Some node → slice_get vs n ≡ Some v → HaveOwnNames nodes
    → SameBut (node_name node) now new → P (old (node_name node)) (new (node_name node)) v
    → EachWith P old now (drop (suc n) nodes) (drop (suc n) vs) → EachWith P old new (drop n nodes) (drop n vs)
each_before P old now new nodes vs n node v at_node at_v own same here later =
    rw (drop_there nodes n node at_node, drop_there vs n v at_v)
    (here, each_stays P old now new (node_name node) (drop (suc n) nodes) (drop (suc n) vs) same (none_behind nodes n node at_node own) later)

-- other names stand as they were
pub others_before : {D : Type 0} → (old now new : List ℕ → Sight D) (nodes : List NodeId) (n : ℕ) (node : NodeId) → slice_get nodes n ≡ Some node
    → SameBut (node_name node) now new → ((name : List ℕ) → IsNameOfNone (drop (suc n) nodes) name → now name ≡ old name)
    → (name : List ℕ) → IsNameOfNone (drop n nodes) name → new name ≡ old name
others_before old now new nodes n node at same others name none =
    let apart = subst (λ ns. IsNameOfNone ns name) (drop_there nodes n node at) none in
    same name apart.0 ∙ others name apart.1

-- what is left, and what was taken, where the last of the first n + 1 is taken
pub left_after : {V : Type 0} → (all old new : List V) (n m : ℕ) (v : V) → old ≡ take m all → n + 1 ≡ m → m ≤ length all → new ≡ take (m - 1) old
    → Some v ≡ Some (get_or old (m - 1) v) → (new ≡ take n all) × (slice_get all n ≡ Some v)
left_after all old new n m v first next few rest value =
    let at : m - 1 ≡ n = omega (arith, next) in
    let last : v ≡ get_or old (m - 1) v = cc in
    let there : v ≡ get_or all n v =
    last ∙ ap (λ k. get_or old k v) at ∙ ap (λ xs. get_or xs n v) first ∙ get_or-take m all n v (omega (arith, next)) in (
      rest ∙ ap (λ k. take k old) at ∙ ap (take n) first ∙ take-take n m all (omega (arith, next)),
      slice_get-get_or all n v (omega (arith, next, few)) ∙ ap (λ x. Some x) (sym there),
    )

-- a name that was read off the list is of a node of it
pub named_by : (nodes : List NodeId) (n : ℕ) (d : NodeId) (name : List ℕ) → n < length nodes → name ≡ node_name (get_or nodes n d)
    → (node : NodeId) × (slice_get nodes n ≡ Some node) × (name ≡ node_name node)
named_by nodes n d name within spelled = (get_or nodes n d, slice_get-get_or nodes n d within, spelled)

out_at : {D : Type 0} → (old : List ℕ → Sight D) (nodes : List NodeId) (n : ℕ) (node : NodeId) → AreOut old nodes → slice_get nodes n ≡ Some node
    → (old (node_name node)).is_out ≡ true
out_at old [] n node out there = absurd (cc)
out_at old (x ∷ nodes) zero node out there = let same : x ≡ node = cc in subst (λ y. (old (node_name y)).is_out ≡ true) same out.0
out_at old (x ∷ nodes) (suc n) node out there = out_at old nodes n node out.1 there

-- what a name of one of the first nodes tells is what it told, and its disk is out
pub still_out : {D : Type 0} → (old now : List ℕ → Sight D) (nodes : List NodeId) (n : ℕ) (node : NodeId) → slice_get nodes n ≡ Some node
    → HaveOwnNames nodes → ((name : List ℕ) → IsNameOfNone (drop (suc n) nodes) name → now name ≡ old name) → AreOut old nodes
    → (now (node_name node) ≡ old (node_name node)) × ((now (node_name node)).is_out ≡ true)
still_out old now nodes n node there own others out =
    let same = others (node_name node) (none_behind nodes n node there own) in
    (same, ap (λ s. s.is_out) same ∙ out_at old nodes n node out there)

abbrev sight_by : {D : Type 0} → ℕ → ℕ → Bool → ℕ → Option D → Sight D
sight_by faults in_a_row is_out given kept = record { faults = faults; in_a_row = in_a_row; is_out = is_out; given = given; kept = kept }

-- names that tell the same in each part tell the same
pub same_sight : {D : Type 0} → (s t : Sight D) → s.faults ≡ t.faults → s.in_a_row ≡ t.in_a_row → s.is_out ≡ t.is_out → s.given ≡ t.given
    → s.kept ≡ t.kept → s ≡ t
same_sight s t faults row out given kept =
    ap (λ (n : ℕ). sight_by n s.in_a_row s.is_out s.given s.kept) faults ∙ ap (λ (n : ℕ). sight_by t.faults n s.is_out s.given s.kept) row
    ∙ ap (λ (b : Bool). sight_by t.faults t.in_a_row b s.given s.kept) out ∙ ap (λ (n : ℕ). sight_by t.faults t.in_a_row t.is_out n s.kept) given
    ∙ ap (λ (k : Option _). sight_by t.faults t.in_a_row t.is_out t.given k) kept

-- a name's disk is back, by what the call says of the name as it stood, which is as it was
pub back_as : {D : Type 0} → (faults in_a_row : D → ℕ) (old now new : Sight D) (disk gone : D) → now ≡ old → gone ≡ disk → new.is_out ≡ false
    → new.faults ≡ count_of now.faults now.given (faults gone) → new.in_a_row ≡ in_a_row gone → new.kept ≡ Some gone → IsBackAs faults in_a_row old new disk
back_as faults in_a_row old now new disk gone same is shelf count row kept = record {
  on_shelf = shelf;
  count = count ∙ ap (λ s. count_of s.faults s.given (faults gone)) same ∙ ap (λ d. count_of old.faults old.given (faults d)) is;
  row = row ∙ ap in_a_row is;
  kept = kept ∙ ap (λ d. Some d) is;
}
