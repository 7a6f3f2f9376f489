-- What a store keeps, and what its disk tells after an append that failed.
use Rattle.std.proofs.Common.{◌≡◌, inl, inr, ℕ, List, [], ◌∷◌, ◌++◌, Option, Some, map, refl, sym, ap, ◌∙◌, subst}
use Rattle.gate_vault.specs.File.{StandsWithGate}
use Rattle.gate_vault.specs.Put.{TellsBeforeOrAfter}
use Rattle.gate_vault.specs.Vault.{Keeps, KeepsWithGate, disk_of}
use Rattle.gate_vault.specs.declared.vault.Vault.{Vault}
use Rattle.spec_base.specs.declared.disk.Disk.{Ghosts as DiskRules}
use Rattle.msg_wire.specs.Items.{items_spelling}
use Rattle.msg_wire.specs.Steps.{IsVaultEntry}
use Rattle.net_model.specs.Names.{Item}
use Rattle.node_actor.specs.Chunks.{Chunks}
use Rattle.node_actor.specs.declared.store.Store.{Store}
use Rattle.node_actor.specs.declared.store.Store.TheVariants as stores
use Rattle.node_actor.specs.Stores.{AreEntries, KeepsChunks, TellsItems, disk_in}

pub all_entries : (chunks more : Chunks) → AreEntries chunks → AreEntries more → AreEntries (chunks ++ more)
all_entries [] more all rest = rest
all_entries (x ∷ chunks) more all rest = (all.0, all_entries chunks more all.1 rest)

spelled_more : (chunks : Chunks) (items : List Item) → map items_spelling (chunks ++ items ∷ []) ≡ map items_spelling chunks ++ items_spelling items ∷ []
spelled_more [] items = refl
spelled_more (x ∷ chunks) items = ap (λ l. items_spelling x ∷ l) (spelled_more chunks items)

-- the disk tells what was kept before the append, or that and the new entry
pub failed_tells : (seen : Option (List ℕ)) (chunks : Chunks) (items : List Item) → AreEntries chunks → IsVaultEntry items
    → TellsBeforeOrAfter seen (map items_spelling chunks) (items_spelling items) → TellsItems seen
failed_tells seen chunks items all one (file, told, inl before) = record { file = file; chunks = chunks; told = told; stands = before; entries = all }
failed_tells seen chunks items all one (file, told, inr after) =
    record {
      file = file;
      chunks = chunks ++ items ∷ [];
      told = told;
      stands = subst (StandsWithGate file) (sym
          (spelled_more chunks items)) after;
      entries = all_entries chunks (items ∷ []) all (one, tt);
    }

-- a file with the byte of its last gate is one that stands for the same entries
pub gate_keeps : {D : Type 0} (disk : DiskRules D) (vault : Vault D) (entries : List (List ℕ)) → KeepsWithGate disk.seen disk.may_leave vault entries
    → Keeps disk.seen disk.may_leave vault entries
gate_keeps disk vault entries keeps = record {
  file = keeps.file;
  told = keeps.told;
  stands = record { rest = keeps.stands.gate ∷ keeps.stands.rest; split = keeps.stands.split; closed = keeps.stands.closed };
  only = keeps.only;
  short = keeps.short;
  gate = keeps.gate;
}

-- what is kept is told
pub keeps_tells : {D : Type 0} (disk : DiskRules D) (store : Store D) (chunks : Chunks) → KeepsChunks disk store chunks → TellsItems (disk.seen (disk_in store))
keeps_tells disk (stores.Open vault) chunks keeps =
    record { file = keeps.0.file; chunks = chunks; told = keeps.0.told; stands = keeps.0.stands; entries = keeps.1 }
keeps_tells disk (stores.Shut only) chunks keeps = absurd keeps

-- after an append too
pub kept_tells : {D : Type 0} (disk : DiskRules D) (vault : Vault D) (chunks : Chunks) (items : List Item) (entry : List ℕ) → entry ≡ items_spelling items
    → AreEntries chunks → IsVaultEntry items → KeepsWithGate disk.seen disk.may_leave vault (map items_spelling chunks ++ entry ∷ [])
    → TellsItems (disk.seen (disk_of vault))
kept_tells disk vault chunks items entry spelled all one keeps =
    let is = ap (λ e. map items_spelling chunks ++ e ∷ []) spelled ∙ sym (spelled_more chunks items) in
    keeps_tells disk (stores.Open vault) (chunks ++ items ∷ [])
    (subst (KeepsWithGate disk.seen disk.may_leave vault) is keeps, all_entries chunks (items ∷ []) all (one, tt))

-- the file of a store that keeps these entries
pub record IsKeptFile (seen : Option (List ℕ)) (chunks : Chunks) : Type 0 where
  pub file : List ℕ
  pub told : seen ≡ Some file
  pub stands : StandsWithGate file (map items_spelling chunks)
  pub entries : AreEntries chunks

pub kept_file : {D : Type 0} (disk : DiskRules D) (store : Store D) (chunks : Chunks) → KeepsChunks disk store chunks
    → IsKeptFile (disk.seen (disk_in store)) chunks
kept_file disk (stores.Open vault) chunks keeps = record { file = keeps.0.file; told = keeps.0.told; stands = keeps.0.stands; entries = keeps.1 }
kept_file disk (stores.Shut only) chunks keeps = absurd keeps
