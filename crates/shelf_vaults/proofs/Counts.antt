-- Counts of faults, as a disk comes back.
use Rattle.std.proofs.Common.{◌≡◌, inl, inr, ℕ, ◌-◌, ◌^◌, ◌≤◌, Some, ◌∙◌, arith}
use Rattle.std.proofs.lemmas.Bool.{cases_lt}
use Rattle.gate_vault.specs.Put.{FailedTwice}
use Rattle.shelf_vaults.specs.Sights.{Sight, IsNoFall, FailedThere, count_of}

-- what is counted then is no less than before
pub counted_more : (old mid given now new : ℕ) → old ≤ mid → new ≡ count_of mid given now → IsNoFall old new
counted_more old mid given now new kept count =
    elim (cases_lt new (2 ^ 64 - 1)) [
      | inl below ↦ inl (omega (arith, below, kept, count))
      | inr above ↦ inr above
    ]

-- a disk that failed twice while it was out is one of a name that did
pub failed_there : {D : Type 0} → (faults : D → ℕ) (old new : Sight D) (mid given row : ℕ) (disk : D) → old.faults ≤ mid
    → new.faults ≡ count_of mid given (faults disk) → new.in_a_row ≡ row → new.kept ≡ Some disk → FailedTwice given (faults disk) row
    → FailedThere faults old new
failed_there faults old new mid given row disk kept count rows back failed = record {
  rose = elim failed.rose [
    | inl twice ↦ elim (cases_lt new.faults (2 ^ 64 - 1)) [
      | inl below ↦ inl (omega (arith, below, kept, count, twice))
      | inr above ↦ inr (inl above)
    ]
    | inr end ↦ inr (inr (disk, back, end))
  ];
  in_a_row = rows ∙ failed.in_a_row;
}
