-- Names in their order: what is done at the next one leaves those before it as they were.
use Rattle.std.proofs.Common.{◌≡◌, ℕ, zero, suc, List, [], ◌∷◌, ◌++◌, take, Some, true, sym, ap, ◌∙◌, subst}
use Rattle.std.specs.List.{AllByRecursion, slice_get}
use Rattle.spec_base.specs.declared.node.NodeId.{NodeId}
use Rattle.spec_base.specs.Shelf.{SameBut}
use Rattle.spec_base.specs.Spelling.{node_name}
use Rattle.shelf_vaults.specs.Sights.{Sight, EachWith, AreOut, IsNameOfNone, HaveOwnNames}
use Rattle.shelf_vaults.proofs.Eaches.{each_stays}

pub take_there : {X : Type 0} → (xs : List X) (n : ℕ) (x : X) → slice_get xs n ≡ Some x → take (suc n) xs ≡ take n xs ++ x ∷ []
take_there [] n x there = absurd (cc)
take_there (y ∷ ys) zero x there = let same : y ≡ x = cc in ap (λ z. z ∷ []) same
take_there (y ∷ ys) (suc n) x there = ap (λ zs. y ∷ zs) (take_there ys n x there)

pub all_take : {X : Type 0} → (P : X → Type 0) (n : ℕ) (xs : List X) → AllByRecursion P xs → AllByRecursion P (take n xs)
all_take P zero xs all = tt
all_take P (suc n) [] all = tt
all_take P (suc n) (x ∷ xs) all = (all.0, all_take P n xs all.1)

pub all_end : {X : Type 0} → (P : X → Type 0) (xs : List X) (x : X) → AllByRecursion P xs → P x → AllByRecursion P (xs ++ x ∷ [])
all_end P [] x all one = (one, tt)
all_end P (y ∷ ys) x all one = (all.0, all_end P ys x all.1 one)

-- a name of none of the nodes is of none of the first of them
pub none_take : (n : ℕ) (nodes : List NodeId) (name : List ℕ) → IsNameOfNone nodes name → IsNameOfNone (take n nodes) name
none_take zero nodes name none = tt
none_take (suc n) [] name none = tt
none_take (suc n) (node ∷ nodes) name none = (none.0, none_take n nodes name none.1)

pub own_take : (n : ℕ) (nodes : List NodeId) → HaveOwnNames nodes → HaveOwnNames (take n nodes)
own_take zero nodes own = tt
own_take (suc n) [] own = tt
own_take (suc n) (node ∷ nodes) own = (none_take n nodes (node_name node) own.0, own_take n nodes own.1)

pub not_at : (nodes : List NodeId) (n : ℕ) (node : NodeId) (name : List ℕ) → slice_get nodes n ≡ Some node → IsNameOfNone nodes name
    → (node_name node ≡ name → ⊥)
not_at [] n node name there none = absurd (cc)
not_at (x ∷ nodes) zero node name there none = let same : x ≡ node = cc in λ e. none.0 (sym e ∙ ap node_name (sym same))
not_at (x ∷ nodes) (suc n) node name there none = not_at nodes n node name there none.1

-- the name of a node is of none of those before it
pub none_before : (nodes : List NodeId) (n : ℕ) (node : NodeId) → slice_get nodes n ≡ Some node → HaveOwnNames nodes
    → IsNameOfNone (take n nodes) (node_name node)
none_before [] n node there own = absurd (cc)
none_before (x ∷ nodes) zero node there own = tt
none_before (x ∷ nodes) (suc n) node there own = (not_at nodes n node (node_name x) there own.0, none_before nodes n node there own.1)

each_end : {D V : Type 0} → (P : Sight D → Sight D → V → Type 0) (old new : List ℕ → Sight D) (nodes : List NodeId) (vs : List V) (node : NodeId) (v : V)
    → EachWith P old new nodes vs → P (old (node_name node)) (new (node_name node)) v → EachWith P old new (nodes ++ node ∷ []) (vs ++ v ∷ [])
each_end P old new [] [] node v each one = (one, tt)
each_end P old new [] (w ∷ vs) node v each one = absurd each
each_end P old new (x ∷ nodes) [] node v each one = absurd each
each_end P old new (x ∷ nodes) (w ∷ vs) node v each one = (each.0, each_end P old new nodes vs node v each.1 one)

-- one more node behind those that are done
pub each_after : {D V : Type 0} → (P : Sight D → Sight D → V → Type 0) (old now new : List ℕ → Sight D) (nodes : List NodeId) (vs : List V)
    (n : ℕ) (node : NodeId) (v : V) → slice_get nodes n ≡ Some node → HaveOwnNames nodes → SameBut (node_name node) now new
    → EachWith P old now (take n nodes) vs → P (old (node_name node)) (new (node_name node)) v → EachWith P old new (take (suc n) nodes) (vs ++ v ∷ [])
each_after P old now new nodes vs n node v there own same each one =
    rw (take_there nodes n node there)
    (each_end P old new (take n nodes) vs node v
    (each_stays P old now new (node_name node) (take n nodes) vs same (none_before nodes n node there own) each) one)

none_end : (nodes : List NodeId) (node : NodeId) (name : List ℕ) → IsNameOfNone (nodes ++ node ∷ []) name
    → IsNameOfNone nodes name × (name ≡ node_name node → ⊥)
none_end [] node name none = (tt, none.0)
none_end (x ∷ nodes) node name none = let later = none_end nodes node name none.1 in ((none.0, later.0), later.1)

pub none_front : (nodes : List NodeId) (n : ℕ) (node : NodeId) (name : List ℕ) → slice_get nodes n ≡ Some node → IsNameOfNone (take (suc n) nodes) name
    → IsNameOfNone (take n nodes) name
none_front nodes n node name there none = (none_end (take n nodes) node name (subst (λ ns. IsNameOfNone ns name) (take_there nodes n node there) none)).0

-- other names stand as they were
pub others_after : {D : Type 0} → (old now new : List ℕ → Sight D) (nodes : List NodeId) (n : ℕ) (node : NodeId) → slice_get nodes n ≡ Some node
    → SameBut (node_name node) now new → ((name : List ℕ) → IsNameOfNone (take n nodes) name → now name ≡ old name)
    → (name : List ℕ) → IsNameOfNone (take (suc n) nodes) name → new name ≡ old name
others_after old now new nodes n node there same others name none =
    let apart = none_end (take n nodes) node name (subst (λ ns. IsNameOfNone ns name) (take_there nodes n node there) none) in
    same name apart.1 ∙ others name apart.0

-- what each does says that its disk is out
pub outs_of : {D V : Type 0} → (P : Sight D → Sight D → V → Type 0) (old new : List ℕ → Sight D) (nodes : List NodeId) (vs : List V)
    → ((s t : Sight D) (v : V) → P s t v → t.is_out ≡ true) → EachWith P old new nodes vs → AreOut new nodes
outs_of P old new [] [] says each = tt
outs_of P old new [] (v ∷ vs) says each = absurd each
outs_of P old new (node ∷ nodes) [] says each = absurd each
outs_of P old new (node ∷ nodes) (v ∷ vs) says each = (says (old (node_name node)) (new (node_name node)) v each.0, outs_of P old new nodes vs says each.1)
