-- What the pieces of a read are together.
use Rattle.std.proofs.Common.{◌≡◌, sym, ap, ◌∙◌, subst, ℕ, ◌+◌, ◌-◌, ◌≤◌, min, List, ◌++◌, length, take, drop, Bool, Option, Some, IfSome, arith, length-drop}
use Rattle.std.proofs.lemmas.List.{drop-drop, take_all, take-take, length-take}
use Rattle.std.proofs.Math.Seq.{take-add}
use Rattle.spec_base.specs.Disk.{GivesPart}
use Rattle.spec_base.specs.Faults.{StaysSound}

-- one piece more, of which only what is needed is kept
pub read_more : (at len count : ℕ) (file bytes piece : List ℕ) → bytes ≡ take (length bytes) (drop at file) → GivesPart (at + length bytes) count piece file
    → (bytes ++ take (min count (len - length bytes)) piece) ≡ take (length bytes + min count (len - length bytes)) (drop at file)
read_more at len count file bytes piece so_far part =
    let kept = min count (len - length bytes) in
    let from = drop (at + length bytes) file in
    let same : take kept piece ≡ take kept from =
    sym (take-take kept count piece (omega arith)) ∙ ap (take kept) part.bytes ∙ take-take kept count from (omega arith) in
    ap (λ (l : List ℕ). l ++ take kept piece) so_far
    ∙ ap (λ (l : List ℕ). take (length bytes) (drop at file) ++ l) (same ∙ ap (take kept) (sym (drop-drop (length bytes) at file)))
    ∙ sym (take-add (length bytes) kept (drop at file))

-- the file ended
pub read_ended : (at len : ℕ) (file bytes : List ℕ) → bytes ≡ take (length bytes) (drop at file) → length bytes ≤ len → length file ≤ at + length bytes
    → bytes ≡ take len (drop at file)
read_ended at len file bytes so_far few end =
    let all : length (drop at file) ≤ length bytes = omega (arith, length-drop at file) in
    so_far ∙ take_all (length bytes) (drop at file) all ∙ sym (take_all len (drop at file) (omega arith))

pub seen_part : (seen was : Option (List ℕ)) (file : List ℕ) (P : List ℕ → Type 0) → IfSome seen P → seen ≡ was → was ≡ Some file → P file
seen_part seen was file P given same is = subst (λ (o : Option (List ℕ)). IfSome o P) (same ∙ is) given

-- the bytes so far and one piece more are the front of what is to be read
pub read_step : (at len count : ℕ) (file bytes piece next : List ℕ) → bytes ≡ take (length bytes) (drop at file)
    → GivesPart (at + length bytes) count piece file
    → next ≡ bytes ++ take (min count (len - length bytes)) piece → next ≡ take (length next) (drop at file)
read_step at len count file bytes piece next so_far part is =
    let more : next ≡ take (length bytes + min count (len - length bytes)) (drop at file) = is ∙ read_more at len count file bytes piece so_far part in
    let there : length bytes + min count (len - length bytes) ≤ length (drop at file) =
    omega (arith, part.there, length-drop at file, length-drop (at + length bytes) file, ap length so_far, length-take (length bytes) (drop at file)) in
    let size : length next ≡ length bytes + min count (len - length bytes) =
    ap length more ∙ length-take (length bytes + min count (len - length bytes)) (drop at file) ∙ omega (arith, there) in
    more ∙ ap (λ (n : ℕ). take n (drop at file)) (sym size)

pub sound_then : (a b c : Bool) (x y z : ℕ) → StaysSound a b x y → StaysSound b c y z → StaysSound a c x z
sound_then a b c x y z first second = record {
  same = second.same ∙ first.same;
  still = λ sound. second.still (first.same ∙ sound) ∙ first.still sound;
}
