-- What a shelf tells of each name, and what becomes of it as a vault is made there, or given back.
use Rattle.std.specs.Prelude.{◌≡◌, ◌≢◌, ◌⊎◌, ⊤, ℕ, suc, ◌+◌, ◌-◌, ◌^◌, ◌≤◌, Bool, true, false, min, List, [], ◌∷◌, take, drop, Contains, Option, Some, None, IsSome}
use Rattle.std.specs.List.{AllByRecursion}
use Rattle.spec_base.specs.declared.node.NodeId.{NodeId}
use Rattle.spec_base.specs.Spelling.{node_name}
use Rattle.gate_vault.specs.declared.vault.Vault.{Vault}
use Rattle.gate_vault.specs.File.{StandsWithGate}
use Rattle.gate_vault.specs.Vault.{disk_of, is_broken}
use Rattle.shelf_vaults.specs.declared.errors.ShelfError.{ShelfError}
use Rattle.shelf_vaults.specs.declared.errors.ShelfError.TheVariants as errors

-- what a shelf tells of one name
pub record Sight (D : Type 0) : Type 0 where
  pub faults : ℕ
  pub in_a_row : ℕ
  pub is_out : Bool
  pub given : ℕ
  pub kept : Option D

-- of each name, by the members of the shelf's type
abbrev pub sight : {S D : Type 0} → (S → List ℕ → ℕ) → (S → List ℕ → ℕ) → (S → List ℕ → Bool) → (S → List ℕ → ℕ) → (S → List ℕ → Option D)
    → S → List ℕ → Sight D
sight faults in_a_row is_out given kept shelf name = record {
  faults = faults shelf name;
  in_a_row = in_a_row shelf name;
  is_out = is_out shelf name;
  given = given shelf name;
  kept = kept shelf name;
}

-- a count doesn't fall, but to the end of its type
abbrev pub IsNoFall : ℕ → ℕ → Type 0
IsNoFall old new = (old ≤ new) ⊎ (2 ^ 64 - 1 ≤ new)

-- ---- a disk goes out, as a vault

-- a disk that lies on the shelf tells its bytes; a new one will
abbrev pub TellsBytes : {D : Type 0} → (D → Option (List ℕ)) → Option D → Type 0
TellsBytes seen None = ⊤
TellsBytes seen (Some disk) = IsSome (seen disk)

-- the vault of a name is out: what its disk failed since it was given can be counted
pub record IsOutAs {D : Type 0} (faults : D → ℕ) (old new : Sight D) (vault : Vault D) : Type 0 where
  pub out : new.is_out ≡ true
  pub given : new.given ≤ faults (disk_of vault)
  pub no_fall : IsNoFall old.faults new.faults
  pub whole : is_broken vault ≡ false

-- the disk of a name failed twice, one after the other: its count rose by two or more, or stands at the end of its type, or that of the
-- disk does, which lies there again
pub record FailedThere {D : Type 0} (faults : D → ℕ) (old new : Sight D) : Type 0 where
  pub rose : (old.faults + 2 ≤ new.faults) ⊎ (2 ^ 64 - 1 ≤ new.faults) ⊎ ((disk : D) × (new.kept ≡ Some disk) × (2 ^ 64 - 1 ≤ faults disk))
  pub in_a_row : new.in_a_row ≡ 2

abbrev pub IsFaultOf : {D : Type 0} → (D → ℕ) → NodeId → Sight D → Sight D → ShelfError → Type 0
IsFaultOf faults node old new (errors.Fault name) = (name ≡ node) × FailedThere faults old new
IsFaultOf faults node old new errors.OutOfMemory = ⊤

-- ---- and comes back

-- the count of a name whose disk comes back
abbrev pub count_of : ℕ → ℕ → ℕ → ℕ
count_of counted given now = min (counted + (now - given)) (2 ^ 64 - 1)

pub record IsBackAs {D : Type 0} (faults in_a_row : D → ℕ) (old new : Sight D) (disk : D) : Type 0 where
  pub on_shelf : new.is_out ≡ false
  pub count : new.faults ≡ count_of old.faults old.given (faults disk)
  pub row : new.in_a_row ≡ in_a_row disk
  pub kept : new.kept ≡ Some disk

-- ---- several names

-- it holds of each name and what belongs to it
abbrev pub EachWith : {D : Type 0} {V : Type 0} → (Sight D → Sight D → V → Type 0) → (List ℕ → Sight D) → (List ℕ → Sight D) → List NodeId → List V → Type 0
EachWith P old new [] [] = ⊤
EachWith P old new [] (v ∷ vs) = ⊥
EachWith P old new (node ∷ nodes) [] = ⊥
EachWith P old new (node ∷ nodes) (v ∷ vs) = P (old (node_name node)) (new (node_name node)) v × EachWith P old new nodes vs

-- the disk of each node is out
abbrev pub AreOut : {D : Type 0} → (List ℕ → Sight D) → List NodeId → Type 0
AreOut now nodes = AllByRecursion (λ (node : NodeId). (now (node_name node)).is_out ≡ true) nodes

-- it lies on the shelf
abbrev pub AreOn : {D : Type 0} → (List ℕ → Sight D) → List NodeId → Type 0
AreOn now nodes = AllByRecursion (λ (node : NodeId). (now (node_name node)).is_out ≡ false) nodes

-- the disks that lie there tell their bytes
abbrev pub AllTell : {D : Type 0} → (D → Option (List ℕ)) → (List ℕ → Sight D) → List NodeId → Type 0
AllTell seen now nodes = AllByRecursion (λ (node : NodeId). TellsBytes seen (now (node_name node)).kept) nodes

-- a fault is of one of the nodes
abbrev pub IsFaultAmong : {D : Type 0} → (D → ℕ) → List NodeId → (List ℕ → Sight D) → (List ℕ → Sight D) → ShelfError → Type 0
IsFaultAmong faults nodes old new (errors.Fault name) = Contains nodes name × FailedThere faults (old (node_name name)) (new (node_name name))
IsFaultAmong faults nodes old new errors.OutOfMemory = ⊤

-- the disk that lies there tells the file of an empty vault
pub record HasEmptyVault {D : Type 0} (seen : D → Option (List ℕ)) (now : Sight D) : Type 0 where
  pub disk : D
  pub kept : now.kept ≡ Some disk
  pub file : List ℕ
  pub told : seen disk ≡ Some file
  pub stands : StandsWithGate file []

-- where not all could be had: so many of the nodes have empty vaults, and those behind the next one are as they were
pub record BreaksOff {D : Type 0} (seen : D → Option (List ℕ)) (nodes : List NodeId) (old new : List ℕ → Sight D) : Type 0 where
  pub made : ℕ
  pub empty : AllByRecursion (λ (node : NodeId). HasEmptyVault seen (new (node_name node))) (take made nodes)
  pub others : AllByRecursion (λ (node : NodeId). new (node_name node) ≡ old (node_name node)) (drop (suc made) nodes)

-- a name of none of the nodes
abbrev pub IsNameOfNone : List NodeId → List ℕ → Type 0
IsNameOfNone [] name = ⊤
IsNameOfNone (node ∷ nodes) name = (name ≢ node_name node) × IsNameOfNone nodes name

-- no two of the nodes have one name
abbrev pub HaveOwnNames : List NodeId → Type 0
HaveOwnNames [] = ⊤
HaveOwnNames (node ∷ nodes) = IsNameOfNone nodes (node_name node) × HaveOwnNames nodes
