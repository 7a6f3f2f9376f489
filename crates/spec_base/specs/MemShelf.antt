-- What a shelf in memory shows of a name.
use Rattle.std.specs.Prelude.{ℕ, Bool, false, List, Option, None, is_none, min, map, filter, nat_eq}
use Rattle.std.specs.Cmp.Lexicographic.{pointwise}
use Rattle.std.specs.Option.{option_map_or}
use Rattle.std.specs.BTreeMap.{get_by_text}
use Rattle.spec_base.specs.MemDisk.{DiskMemory}
use Rattle.spec_base.specs.declared.mem_shelf.DiskFail.{DiskFail}
use Rattle.spec_base.specs.declared.mem_shelf.MemShelf.{MemShelf}
use Rattle.spec_base.specs.declared.mem_shelf.Slot.{Slot}

abbrev pub slot_of : MemShelf → List ℕ → Option Slot
slot_of shelf name = get_by_text shelf.slots name

abbrev pub faults_of : MemShelf → List ℕ → ℕ
faults_of shelf name = option_map_or (λ (slot : Slot). slot.faults) (slot_of shelf name) 0

abbrev pub told_row : MemShelf → List ℕ → ℕ
told_row shelf name = option_map_or (λ (slot : Slot). slot.row) (slot_of shelf name) 0

abbrev pub failures_of : MemShelf → List ℕ → ℕ
failures_of shelf name = min (told_row shelf name) 2

abbrev pub given_of : MemShelf → List ℕ → ℕ
given_of shelf name = option_map_or (λ (slot : Slot). slot.given) (slot_of shelf name) 0

abbrev pub is_out_of : MemShelf → List ℕ → Bool
is_out_of shelf name = option_map_or (λ (slot : Slot). is_none slot.disk) (slot_of shelf name) false

abbrev pub kept_of : MemShelf → List ℕ → Option DiskMemory
kept_of shelf name = option_map_or (λ (slot : Slot). slot.disk) (slot_of shelf name) None

-- the calls that the shelf's disks are to fail
abbrev pub fails_of : MemShelf → List DiskFail
fails_of shelf = shelf.fails.items

-- the numbers of these calls for one name
abbrev pub calls_for : List DiskFail → List ℕ → List ℕ
calls_for fails name = map (λ (fail : DiskFail). fail.call) (filter (λ (fail : DiskFail). pointwise nat_eq fail.name name) fails)
