-- Two calls of a disk, one after the other.
use Rattle.std.proofs.Common.{◌≡◌, inl, inr, sym, ap, ◌∙◌, ℕ, ◌+◌, ◌-◌, ◌≤◌, min, List, ◌++◌, length, take, drop, Option, Some, None, Result, Ok, Err, OnOk, OnErr, arith, append_assoc, length-append, length-drop}
use Rattle.std.proofs.lemmas.List.{take-take, take_at, drop_at, take_all, take_min, length-take}
use Rattle.spec_base.specs.declared.stop.Stop.{Stop}
use Rattle.spec_base.specs.Faults.{RoseByOne}
use Rattle.spec_base.specs.Disk.{Torn, Told, Written}
use Rattle.spec_base.specs.Crash.{Follows, NoneNew, Elapses}
use Rattle.gate_vault.specs.Put.{FailedTwice}

pub failed_twice : (faults_old faults_mid faults_new row_old row_mid row_new : ℕ) → RoseByOne faults_old faults_mid → RoseByOne faults_mid faults_new
    → row_mid ≡ min (row_old + 1) 2 → row_new ≡ min (row_mid + 1) 2 → FailedTwice faults_old faults_new row_new
failed_twice fo fm fn ro rm rn first second row_first row_second = record {
  rose = elim first.rose [
    | inl rose ↦ elim second.rose [ inl again ↦ inl (omega arith) | inr end ↦ inr (omega (arith, second.no_fall)) ]
    | inr end ↦ inr (omega (arith, first.no_fall, second.no_fall))
  ];
  in_a_row = omega arith;
}

-- the same bytes torn twice
pub torn_then : (at n : ℕ) (a b c : List ℕ) → Torn at n a b → Torn at n b c → Torn at n a c
torn_then at n a b c first second = record {
  no_shorter = omega (arith, first.no_shorter, second.no_shorter);
  before =
      let few : min at (length a) ≤ min at (length b) = omega (arith, first.no_shorter) in
      sym (take-take (min at (length a)) (min at (length b)) c few) ∙ ap (take (min at (length a))) second.before
      ∙ take-take (min at (length a)) (min at (length b)) b few ∙ first.before;
  after =
      let few : length a - (at + n) ≤ length b - (at + n) = omega (arith, first.no_shorter) in
      sym (take-take (length a - (at + n)) (length b - (at + n)) (drop (at + n) c) few) ∙ ap (take (length a - (at + n))) second.after ∙ first.after;
}

pub follows_then : (at n : ℕ) (a b c : List ℕ → Type 0) → Follows (Torn at n) a b → Follows (Torn at n) b c → Follows (Torn at n) a c
follows_then at n a b c first second f left =
    let last = second f left in
    let before = first last.0 last.1 in
    (before.0, before.1, torn_then at n before.0 last.0 f before.2 last.2)

pub elapses_then : (before mid now : ℕ) (past between since : ℕ → List ℕ → Type 0) (P Q R : List ℕ → Type 0) → Elapses before mid past between P
    → Elapses mid now between since Q
    → ((c : List ℕ) → P c → R c) → ((c : List ℕ) → Q c → R c) → Elapses before now past since R
elapses_then before mid now past between since P Q R first second from_first from_second = record {
  no_earlier = omega (arith, first.no_earlier, second.no_earlier);
  nothing_else = λ t c le left. elim (second.nothing_else t c (omega (arith, le, first.no_earlier)) left) [
    | inl earlier ↦ elim (first.nothing_else t c le earlier) [ inl was ↦ inl was | inr p ↦ inr (from_first c p) ]
    | inr q ↦ inr (from_second c q)
  ];
  keeps = λ t c le was. second.keeps t c (omega (arith, le, first.no_earlier)) (first.keeps t c le was);
}

-- two calls over which nothing new is left
pub quiet_then : (before mid now : ℕ) (past between since : ℕ → List ℕ → Type 0) (P Q : List ℕ → Type 0) → Elapses before mid past between P → NoneNew P Q
    → Elapses mid now between since Q → Elapses before now past since P
quiet_then before mid now past between since P Q first none_new second =
    elapses_then before mid now past between since P Q P first second (λ c left. left) none_new

pub elapses_widened : (before now : ℕ) (past since : ℕ → List ℕ → Type 0) (P Q : List ℕ → Type 0) → Elapses before now past since P → ((c : List ℕ) → P c → Q c)
    → Elapses before now past since Q
elapses_widened before now past since P Q time wider = record {
  no_earlier = time.no_earlier;
  nothing_else = λ t c le left. elim (time.nothing_else t c le left) [ inl was ↦ inl was | inr p ↦ inr (wider c p) ];
  keeps = time.keeps;
}

pub told_torn_then : (at n : ℕ) (a b c : Option (List ℕ)) → Told (Torn at n) a b → Told (Torn at n) b c → Told (Torn at n) a c
told_torn_then at n None None None first second = tt
told_torn_then at n None None (Some z) first second = absurd second
told_torn_then at n None (Some y) c first second = absurd first
told_torn_then at n (Some x) None c first second = absurd first
told_torn_then at n (Some x) (Some y) None first second = absurd second
told_torn_then at n (Some x) (Some y) (Some z) first second = torn_then at n x y z first second

pub on_err_then : {T : Type 0} (r : Result T Stop) (P Q : Type 0) → (P → Q) → OnErr r P → OnErr r Q
on_err_then (Ok x) P Q f p = tt
on_err_then (Err e) P Q f p = f p

pub on_err_always : {T E : Type 0} (r : Result T E) (P : Type 0) → P → OnErr r P
on_err_always (Ok x) P p = tt
on_err_always (Err e) P p = p

-- a whole write is one of the torn ones
pub torn_written : (at : ℕ) (bytes old new : List ℕ) → Written at bytes old new → Torn at (length bytes) old new
torn_written at bytes old new w = record {
  no_shorter = omega (arith, ap length w.result, length-append front rest, size, length-drop (at + length bytes) old);
  before =
      ap (take (min at (length old))) (w.result ∙ append_assoc (take at old ++ w.gap) bytes rest ∙ append_assoc (take at old) w.gap (bytes ++ rest))
      ∙ take_at (take at old) (w.gap ++ (bytes ++ rest)) (min at (length old)) (length-take at old) ∙ sym (take_min at old);
  after =
      ap (λ (l : List ℕ). take (length old - (at + length bytes)) (drop (at + length bytes) l)) w.result
      ∙ ap (take (length old - (at + length bytes))) (drop_at front rest (at + length bytes) size) ∙ take_all _ rest (omega (arith, length-drop (at + length bytes) old));
}
  where
    rest : List ℕ
    rest = drop (at + length bytes) old

    front : List ℕ
    front = take at old ++ w.gap ++ bytes

    size : length front ≡ at + length bytes
    size = omega (arith, length-append (take at old ++ w.gap) bytes, length-append (take at old) w.gap, length-take at old, w.reaches)

pub on_ok_then : {T : Type 0} (r : Result T Stop) (P Q : Type 0) → (P → Q) → OnOk r P → OnOk r Q
on_ok_then (Ok x) P Q f p = f p
on_ok_then (Err e) P Q f p = tt
