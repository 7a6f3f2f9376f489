-- How the writes of a disk in memory change its bytes, and how its moments go on.
use Rattle.std.proofs.Common.{◌≡◌, inl, inr, refl, sym, ap, ◌∙◌, subst, ℕ, ◌+◌, ◌-◌, ◌≤◌, List, [], ◌∷◌, ◌++◌, length, take, drop, replicate, reverse, arith, length-append, length-drop, append-nil}
use Rattle.std.proofs.lemmas.List.{take_all, drop_all, take-append-le, take-replicate, reverse-append, length-replicate}
use Rattle.std.proofs.Math.Seq.{take-append-add}
use Rattle.spec_base.specs.declared.disk_call.DiskCall.{DiskCall}
use Rattle.spec_base.specs.Disk.{Torn}
use Rattle.spec_base.specs.declared.disk_call.DiskCall.TheVariants.{Sync}
use Rattle.spec_base.specs.Crash.{Elapses, Follows, NoneNew}
use Rattle.spec_base.specs.MemDisk.{overwritten, content_of, IsLeft, WasLeft}
use Rattle.std.proofs.lemmas.Bool.{cases_lt}
use Rattle.spec_base.specs.inside.MemDiskLaws.{content_is_left}

-- nothing happened
pub elapses_same : (calls : List DiskCall) → Elapses (length calls) (length calls) (WasLeft calls) (WasLeft calls) (IsLeft calls)
elapses_same calls = record { no_earlier = omega arith; nothing_else = λ t c le left. inl left; keeps = λ t c le left. left }

-- one call more
pub elapses_call : (call : DiskCall) (calls : List DiskCall)
    → Elapses (length calls) (length (call ∷ calls)) (WasLeft calls) (WasLeft (call ∷ calls)) (IsLeft (call ∷ calls))
elapses_call call calls = record {
  no_earlier = omega arith;
  nothing_else = λ t c le left. elim left [ inl now ↦ inr now | inr before ↦ inl before.1 ];
  keeps = λ t c le left. inr (le, left);
}

-- nothing that was written changed
pub torn_none : (at n : ℕ) (file : List ℕ) → Torn at n file file
torn_none at n file = record {
  no_shorter = omega arith;
  before = refl;
  after = take_all (length file - (at + n)) (drop (at + n) file) (omega (arith, length-drop (at + n) file));
}

-- a crash after a sync leaves what it might have left before
pub synced_not_new : (calls : List DiskCall) (c : List ℕ) → c ≡ content_of calls → IsLeft calls c
synced_not_new calls c is = subst (IsLeft calls) (sym is) (content_is_left calls)

pub newest_first : (calls : List DiskCall) (call : DiskCall) → reverse (calls ++ call ∷ []) ≡ call ∷ reverse calls
newest_first calls call = reverse-append calls (call ∷ [])

take_padded : (at size : ℕ) (old : List ℕ) → at ≤ size → take at (old ++ replicate (size - length old) 0) ≡ take at old ++ replicate (at - length old) 0
take_padded at size old le = elim (cases_lt (length old) at) [
  | inl past ↦
      let more = at - length old in
      let split : at ≡ length old + more = omega arith in
      ap (λ (n : ℕ). take n (old ++ replicate (size - length old) 0)) split
      ∙ take-append-add old (replicate (size - length old) 0) more
      ∙ ap (λ (l : List ℕ). old ++ l) (take-replicate more (size - length old) 0 (omega arith))
      ∙ ap (λ (l : List ℕ). l ++ replicate more 0) (sym (take_all at old (omega arith)))
  | inr within ↦
      let none : at - length old ≡ 0 = omega arith in
      take-append-le at old (replicate (size - length old) 0) within
      ∙ sym (append-nil (take at old))
      ∙ ap (λ (n : ℕ). take at old ++ replicate n 0) (sym none)
]

drop_padded : (size : ℕ) (old : List ℕ) → drop size (old ++ replicate (size - length old) 0) ≡ drop size old
drop_padded size old = elim (cases_lt (length old) size) [
  | inl past ↦
      drop_all size (old ++ replicate (size - length old) 0) (omega (arith, length-append old (replicate (size - length old) 0), length-replicate {A = ℕ} (size - length old) 0))
      ∙ sym (drop_all size old (omega arith))
  | inr within ↦
      let none : size - length old ≡ 0 = omega arith in
      ap (λ (n : ℕ). drop size (old ++ replicate n 0)) none ∙ ap (drop size) (append-nil old)
]

-- bytes that are put over the lengthened content
pub put_over : (at : ℕ) (bytes old padded new : List ℕ) → padded ≡ old ++ replicate (at + length bytes - length old) 0
    → new ≡ take at padded ++ bytes ++ drop (at + length bytes) padded → new ≡ overwritten at bytes old
put_over at bytes old padded new pads puts =
    puts
    ∙ ap (λ (l : List ℕ). l ++ bytes ++ drop (at + length bytes) padded) (ap (take at) pads ∙ take_padded at (at + length bytes) old (omega arith))
    ∙ ap (λ (l : List ℕ). take at old ++ replicate (at - length old) 0 ++ bytes ++ l) (ap (drop (at + length bytes)) pads ∙ drop_padded (at + length bytes) old)

-- a write that did nothing
pub follows_same : (old new : List DiskCall) (at n : ℕ) → new ≡ old → Follows (Torn at n) (IsLeft old) (IsLeft new)
follows_same old new at n same c left = (c, subst (λ (calls : List DiskCall). IsLeft calls c) same left, torn_none at n c)

pub elapses_to : (old new : List DiskCall) (call : DiskCall) → new ≡ call ∷ old → Elapses (length old) (length new) (WasLeft old) (WasLeft new) (IsLeft new)
elapses_to old new call is =
    subst (λ (calls : List DiskCall). Elapses (length old) (length calls) (WasLeft old) (WasLeft calls) (IsLeft calls)) (sym is) (elapses_call call old)

pub none_new_to : (old new : List DiskCall) → new ≡ Sync ∷ old → NoneNew (IsLeft old) (IsLeft new)
none_new_to old new is c left =
    let now : IsLeft (Sync ∷ old) c = subst (λ (calls : List DiskCall). IsLeft calls c) is left in
    synced_not_new old c now

-- a call that was put at the end is the newest
pub pushed : (items pushed_items calls : List DiskCall) (call : DiskCall) → reverse items ≡ calls → pushed_items ≡ items ++ call ∷ []
    → reverse pushed_items ≡ call ∷ calls
pushed items pushed_items calls call same is = ap reverse is ∙ newest_first items call ∙ ap (λ (l : List DiskCall). call ∷ l) same
