-- From the clauses of disk calls to what a crash at any moment of several calls leaves.
use Rattle.std.proofs.Common.{◌≡◌, inl, inr, refl, sym, ◌∙◌, subst, ℕ, List, Option, Some, None, IfSome, length, arith}
use Rattle.spec_base.specs.Disk.{Torn, Told}
use Rattle.spec_base.specs.Crash.{Only, Follows, Elapses, LeavesOnly}
use Rattle.spec_base.proofs.MemDiskLemmas.{torn_none}
use Rattle.gate_vault.specs.inside.Writes.{WrittenOver, IsPut}
use Rattle.gate_vault.specs.Put.{IsTornPut}
use Rattle.gate_vault.proofs.Again.{torn_then, torn_written, elapses_then, elapses_widened}

-- a disk that tells its bytes before a call tells them after it
pub told_some : (step : List ℕ → List ℕ → Type 0) (old new : Option (List ℕ)) (file : List ℕ) → Told step old new → old ≡ Some file
    → (after : List ℕ) × (new ≡ Some after) × step file after
told_some step None new file told is = absurd (cc)
told_some step (Some before) None file told is = absurd told
told_some step (Some before) (Some after) file told is =
    let same : before ≡ file = cc in
    (after, refl, subst (λ (f : List ℕ). step f after) same told)

module _ {D : Type 0} (moment : D → ℕ) (left_since : D → ℕ → List ℕ → Type 0) where
  pub leaves_then : (a b c : D) (P Q R : List ℕ → Type 0) → LeavesOnly moment left_since a b P → LeavesOnly moment left_since b c Q
      → ((f : List ℕ) → P f → R f) → ((f : List ℕ) → Q f → R f) → LeavesOnly moment left_since a c R
  leaves_then a b c P Q R first second from_first from_second = record {
    no_earlier = omega (arith, first.no_earlier, second.no_earlier);
    each = λ f left. elim (second.before (moment a) f first.no_earlier left) [
      | inl earlier ↦ from_first f (first.each f earlier)
      | inr now ↦ from_second f now
    ];
    before = λ t f le left. elim (second.before t f (omega (arith, le, first.no_earlier)) left) [
      | inl earlier ↦ elim (first.before t f le earlier) [ inl was ↦ inl was | inr p ↦ inr (from_first f p) ]
      | inr now ↦ inr (from_second f now)
    ];
  }

  pub leaves_widened : (a b : D) (P Q : List ℕ → Type 0) → LeavesOnly moment left_since a b P → ((f : List ℕ) → P f → Q f) → LeavesOnly moment left_since a b Q
  leaves_widened a b P Q leaves wider = record {
    no_earlier = leaves.no_earlier;
    each = λ f left. wider f (leaves.each f left);
    before = λ t f le left. elim (leaves.before t f le left) [ inl was ↦ inl was | inr p ↦ inr (wider f p) ];
  }

  -- no call
  pub leaves_same : (a : D) (P : List ℕ → Type 0) → ((f : List ℕ) → left_since a (moment a) f → P f) → LeavesOnly moment left_since a a P
  leaves_same a P here = record { no_earlier = omega arith; each = here; before = λ t f le left. inl left }

  -- calls over which time went on
  pub leaves_from : (a b : D) (P : List ℕ → Type 0) → Elapses (moment a) (moment b) (left_since a) (left_since b) P
      → ((f : List ℕ) → left_since a (moment a) f → P f) → LeavesOnly moment left_since a b P
  leaves_from a b P time here = record {
    no_earlier = time.no_earlier;
    each = λ f left. elim (time.nothing_else (moment a) f (omega arith) left) [ inl was ↦ here f was | inr p ↦ p ];
    before = λ t f le left. time.nothing_else t f le left;
  }

  -- a write, and then a sync, of a disk of which a crash left only the file
  pub put_leaves : (may_leave : D → List ℕ → Type 0) (only_now : (d : D) (c : List ℕ) → left_since d (moment d) c → may_leave d c) (old mid new : D) (at n : ℕ) (file : List ℕ)
      → Elapses (moment old) (moment mid) (left_since old) (left_since mid) (λ c. (d : List ℕ) × may_leave old d × Torn at n d c)
      → Elapses (moment mid) (moment new) (left_since mid) (left_since new) (may_leave mid)
      → Follows (Torn at n) (may_leave old) (may_leave mid) → Only file (may_leave old) → LeavesOnly moment left_since old new (Torn at n file)
  put_leaves may_leave only_now old mid new at n file write sync crash only =
      let torn : (c : List ℕ) → (d : List ℕ) × may_leave old d × Torn at n d c → Torn at n file c = λ c from. subst (λ (d : List ℕ). Torn at n d c) (only from.0 from.1) from.2 in
      leaves_from old new (Torn at n file)
      (elapses_then _ _ _ _ _ _ _ _ _ write sync torn (λ c left. torn c (crash c left)))
      (λ c left. subst (λ (d : List ℕ). Torn at n file d) (sym (only c (only_now old c left))) (torn_none at n file))

  -- a write alone
  pub write_leaves : (may_leave : D → List ℕ → Type 0) (only_now : (d : D) (c : List ℕ) → left_since d (moment d) c → may_leave d c) (old mid : D) (at n : ℕ) (file : List ℕ)
      → Elapses (moment old) (moment mid) (left_since old) (left_since mid) (λ c. (d : List ℕ) × may_leave old d × Torn at n d c)
      → Only file (may_leave old) → LeavesOnly moment left_since old mid (Torn at n file)
  write_leaves may_leave only_now old mid at n file write only =
      leaves_from old mid (Torn at n file)
      (elapses_widened _ _ _ _ _ _ write (λ c from. subst (λ (d : List ℕ). Torn at n d c) (only from.0 from.1) from.2))
      (λ c left. subst (λ (d : List ℕ). Torn at n file d) (sym (only c (only_now old c left))) (torn_none at n file))

-- the bytes of a disk after a write and a sync that both answered Ok
pub put_done : (at : ℕ) (bytes file : List ℕ) (old mid new : Option (List ℕ)) (outcomes : List ℕ → Type 0) → old ≡ Some file
    → Told (WrittenOver at bytes) old mid → new ≡ mid
    → IfSome mid (λ f. Only f outcomes) → IsPut at bytes file new outcomes
put_done at bytes file old mid new outcomes is written same durable =
    let after = told_some (WrittenOver at bytes) old mid file written is in
    record {
      file = after.0;
      told = same ∙ after.1;
      written = after.2;
      only = subst (λ (o : Option (List ℕ)). IfSome o (λ f. Only f outcomes)) after.1 durable;
    }

-- the bytes of a disk after a write that answered otherwise
pub put_failed : (at n : ℕ) (file : List ℕ) (old mid : Option (List ℕ)) → old ≡ Some file → Told (Torn at n) old mid → IsTornPut at n file mid
put_failed at n file old mid is torn = told_some (Torn at n) old mid file torn is

-- the bytes of a disk after a write that answered Ok, whatever a sync behind it answers
pub put_torn : (at : ℕ) (bytes file : List ℕ) (old mid new : Option (List ℕ)) → old ≡ Some file → Told (WrittenOver at bytes) old mid → new ≡ mid
    → IsTornPut at (length bytes) file new
put_torn at bytes file old mid new is written same =
    let after = told_some (WrittenOver at bytes) old mid file written is in
    (after.0, same ∙ after.1, torn_then at (length bytes) file after.2.0 after.0 after.2.1 (torn_written at bytes after.2.0 after.0 after.2.2))
