-- Where not all vaults can be had: what stands of the nodes before the one that failed, of that one, and of those behind it.
use Rattle.std.proofs.Common.{◌≡◌, ℕ, zero, suc, List, [], ◌∷◌, ◌++◌, map, take, drop, Option, Some, Result, Ok, Err, OnErr, false, refl, sym, ap, ◌∙◌, subst}
use Rattle.std.specs.Prelude.{Contains}
use Rattle.std.specs.List.{AllByRecursion, slice_get}
use Rattle.std.proofs.lemmas.List.{take-append-drop}
use Rattle.std.proofs.lemmas.Option.{slice_get_within, get_or_from_slice_get}
use Rattle.spec_base.specs.declared.node.NodeId.{NodeId}
use Rattle.spec_base.specs.Spelling.{node_name}
use Rattle.gate_vault.specs.declared.vault.Vault.{Vault}
use Rattle.gate_vault.specs.Vault.{KeepsWithGate, disk_of}
use Rattle.shelf_vaults.specs.declared.errors.ShelfError.{ShelfError}
use Rattle.shelf_vaults.specs.declared.errors.ShelfError.TheVariants as errors
use Rattle.shelf_vaults.specs.Sights.{Sight, EachWith, AreOn, BreaksOff, HasEmptyVault, IsBackAs, IsFaultOf, IsFaultAmong, FailedThere, IsNameOfNone}
use Rattle.shelf_vaults.specs.Sights.{HaveOwnNames}

pub on_err : {T E : Type 0} → (r : Result T E) (P : Type 0) → P → OnErr r P
on_err (Ok x) P holds = tt
on_err (Err e) P holds = holds

pub all_there : {X : Type 0} → (P : X → Type 0) (xs : List X) (n : ℕ) (x : X) → AllByRecursion P xs → slice_get xs n ≡ Some x → P x
all_there P [] n x all there = absurd (cc)
all_there P (y ∷ ys) zero x all there = let same : y ≡ x = cc in subst P same all.0
all_there P (y ∷ ys) (suc n) x all there = all_there P ys n x all.1 there

all_drop : {X : Type 0} → (P : X → Type 0) (n : ℕ) (xs : List X) → AllByRecursion P xs → AllByRecursion P (drop n xs)
all_drop P zero xs all = all
all_drop P (suc n) [] all = tt
all_drop P (suc n) (x ∷ xs) all = all_drop P n xs all.1

-- of those before one, of it, and of those behind it: of all
all_parts : {X : Type 0} → (P : X → Type 0) (xs : List X) (n : ℕ) (x : X) → slice_get xs n ≡ Some x → AllByRecursion P (take n xs) → P x
    → AllByRecursion P (drop (suc n) xs) → AllByRecursion P xs
all_parts P [] n x there before one behind = tt
all_parts P (y ∷ ys) zero x there before one behind = let same : x ≡ y = cc in (subst P same one, behind)
all_parts P (y ∷ ys) (suc n) x there before one behind = (before.0, all_parts P ys n x there before.1 one behind)

pub is_among : {X : Type 0} → (xs : List X) (n : ℕ) (x : X) → slice_get xs n ≡ Some x → Contains xs x
is_among xs n x there = (n, slice_get_within xs n x there, get_or_from_slice_get xs n x x there)

all_same : {D : Type 0} → (nodes : List NodeId) (now : List ℕ → Sight D)
    → AllByRecursion (λ (node : NodeId). now (node_name node) ≡ now (node_name node)) nodes
all_same [] now = tt
all_same (node ∷ nodes) now = (refl, all_same nodes now)

-- nothing was done
pub breaks_at_once : {D : Type 0} → (seen : D → Option (List ℕ)) (nodes : List NodeId) (now : List ℕ → Sight D) → BreaksOff seen nodes now now
breaks_at_once seen nodes now = record { made = 0; empty = tt; others = all_same (drop 1 nodes) now }

-- each later node has a name of its own
apart_from : (x : NodeId) (before later : List NodeId) → IsNameOfNone (before ++ later) (node_name x)
    → AllByRecursion (λ (node : NodeId). node_name node ≡ node_name x → ⊥) later
apart_from x [] [] none = tt
apart_from x [] (node ∷ later) none = ((λ e. none.0 (sym e)), apart_from x [] later none.1)
apart_from x (y ∷ before) later none = apart_from x before later none.1

all_both : {X : Type 0} → (P Q : X → Type 0) (xs : List X) → AllByRecursion P xs → AllByRecursion Q xs → AllByRecursion (λ x. P x × Q x) xs
all_both P Q [] ps qs = tt
all_both P Q (x ∷ xs) ps qs = ((ps.0, qs.0), all_both P Q xs ps.1 qs.1)

all_none : (later : List NodeId) → AllByRecursion (λ (node : NodeId). IsNameOfNone [] (node_name node)) later
all_none [] = tt
all_none (node ∷ later) = (tt, all_none later)

apart_later : (before later : List NodeId) → HaveOwnNames (before ++ later) → AllByRecursion (λ (node : NodeId). IsNameOfNone before (node_name node)) later
apart_later [] later own = all_none later
apart_later (x ∷ before) later own =
    all_both (λ node. node_name node ≡ node_name x → ⊥) (λ node. IsNameOfNone before (node_name node)) later
    (apart_from x before later own.0) (apart_later before later own.1)

-- nothing became of those behind
later_same : {D : Type 0} → (old new : List ℕ → Sight D) (before later : List NodeId)
    → AllByRecursion (λ (node : NodeId). IsNameOfNone before (node_name node)) later
    → ((name : List ℕ) → IsNameOfNone before name → new name ≡ old name) → AllByRecursion
    (λ (node : NodeId). new (node_name node) ≡ old (node_name node)) later
later_same old new before [] apart others = tt
later_same old new before (node ∷ later) apart others = (others (node_name node) apart.0, later_same old new before later apart.1 others)

-- what each does says that its disk is back
ons_of : {D V : Type 0} → (P : Sight D → Sight D → V → Type 0) (old new : List ℕ → Sight D) (nodes : List NodeId) (vs : List V)
    → ((s t : Sight D) (v : V) → P s t v → t.is_out ≡ false) → EachWith P old new nodes vs → AreOn new nodes
ons_of P old new [] [] says each = tt
ons_of P old new [] (v ∷ vs) says each = absurd each
ons_of P old new (node ∷ nodes) [] says each = absurd each
ons_of P old new (node ∷ nodes) (v ∷ vs) says each = (says (old (node_name node)) (new (node_name node)) v each.0, ons_of P old new nodes vs says each.1)

-- the fault is of the node that failed, by what the others left of it
pub fault_among : {D : Type 0} → (faults : D → ℕ) (nodes : List NodeId) (old new : List ℕ → Sight D) (node : NodeId) (s t : Sight D) (e : ShelfError)
    → s ≡ old (node_name node) → t ≡ new (node_name node) → Contains nodes node → IsFaultOf faults node s t e → IsFaultAmong faults nodes old new e
fault_among faults nodes old new node s t (errors.Fault name) at_old at_new there fault =
    let failed : FailedThere faults (old (node_name node)) (new (node_name node)) =
    subst (λ u. FailedThere faults (old (node_name node)) u) at_new (subst (λ u. FailedThere faults u t) at_old fault.1) in
    subst (λ n. Contains nodes n × FailedThere faults (old (node_name n)) (new (node_name n))) (sym fault.0) (there, failed)
fault_among faults nodes old new node s t errors.OutOfMemory at_old at_new there fault = tt

still_on : {D : Type 0} → (old new : List ℕ → Sight D) (nodes : List NodeId)
    → AllByRecursion (λ (node : NodeId). new (node_name node) ≡ old (node_name node)) nodes → AreOn old nodes → AreOn new nodes
still_on old new [] same on = tt
still_on old new (node ∷ nodes) same on = (ap (λ s. s.is_out) same.0 ∙ on.0, still_on old new nodes same.1 on.1)

split_at : {X : Type 0} → (n : ℕ) (xs : List X) → take n xs ++ drop n xs ≡ xs
split_at n xs = take-append-drop n xs

-- what holds of each name and the disk of its vault
pub each_disk : {D : Type 0} → (P : Sight D → Sight D → D → Type 0) (old new : List ℕ → Sight D) (nodes : List NodeId) (vs : List (Vault D))
    → EachWith P old new nodes (map disk_of vs) → EachWith (λ s t v. P s t (disk_of v)) old new nodes vs
each_disk P old new [] [] each = tt
each_disk P old new [] (v ∷ vs) each = absurd each
each_disk P old new (node ∷ nodes) [] each = absurd each
each_disk P old new (node ∷ nodes) (v ∷ vs) each = (each.0, each_disk P old new nodes vs each.1)

-- the disks of those before the one that failed have empty vaults
empties : {D : Type 0} → (faults in_a_row : D → ℕ) (seen : D → Option (List ℕ)) (may_leave : D → List ℕ → Type 0) (old new : List ℕ → Sight D)
    (nodes : List NodeId) (vs : List (Vault D)) → EachWith (λ s t v. IsBackAs faults in_a_row s t (disk_of v)) old new nodes vs
    → AllByRecursion (λ v. KeepsWithGate seen may_leave v []) vs → AllByRecursion (λ (node : NodeId). HasEmptyVault seen (new (node_name node))) nodes
empties faults in_a_row seen may_leave old new [] [] back keeps = tt
empties faults in_a_row seen may_leave old new [] (v ∷ vs) back keeps = absurd back
empties faults in_a_row seen may_leave old new (node ∷ nodes) [] back keeps = absurd back
empties faults in_a_row seen may_leave old new (node ∷ nodes) (v ∷ vs) back keeps = (
  record { disk = disk_of v; kept = back.0.kept; file = keeps.0.file; told = keeps.0.told; stands = keeps.0.stands },
  empties faults in_a_row seen may_leave old new nodes vs back.1 keeps.1,
)

-- all of it: vaults were made up to a node, whose disk failed; the others were given back
pub broken_off : {D : Type 0} → (faults in_a_row : D → ℕ) (seen : D → Option (List ℕ)) (may_leave : D → List ℕ → Type 0) (old new : List ℕ → Sight D)
    (now : List ℕ → Sight D) (nodes : List NodeId) (n : ℕ) (node : NodeId) (vs : List (Vault D)) → slice_get nodes n ≡ Some node → HaveOwnNames nodes
    → AreOn old nodes → (new (node_name node)).is_out ≡ false → ((name : List ℕ) → IsNameOfNone (take (suc n) nodes) name → new name ≡ old name)
    → EachWith (λ s t v. IsBackAs faults in_a_row s t (disk_of v)) now new (take n nodes) vs
    → AllByRecursion (λ v. KeepsWithGate seen may_leave v []) vs → AreOn new nodes × BreaksOff seen nodes old new
broken_off faults in_a_row seen may_leave old new now nodes n node vs there own on here others back keeps =
    let apart = apart_later (take (suc n) nodes) (drop (suc n) nodes) (subst HaveOwnNames (sym (split_at (suc n) nodes)) own) in
    let behind = later_same old new (take (suc n) nodes) (drop (suc n) nodes) apart others in
    let on_behind = still_on old new (drop (suc n) nodes) behind (all_drop (λ (x : NodeId). (old (node_name x)).is_out ≡ false) (suc n) nodes on) in
    let before = ons_of (λ s t v. IsBackAs faults in_a_row s t (disk_of v)) now new (take n nodes) vs (λ s t v back. back.on_shelf) back in (
      all_parts (λ (x : NodeId). (new (node_name x)).is_out ≡ false) nodes n node there before here on_behind,
      record { made = n; empty = empties faults in_a_row seen may_leave now new (take n nodes) vs back keeps; others = behind },
    )
