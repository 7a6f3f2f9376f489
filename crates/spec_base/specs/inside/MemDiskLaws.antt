-- What the definitions of a disk in memory say of one moment.
use Rattle.std.proofs.Common.{◌≡◌, inl, inr, refl, sym, ap, ◌∙◌, ℕ, ◌+◌, ◌-◌, ◌≤◌, min, List, [], ◌∷◌, ◌++◌, length, take, drop, replicate, arith, length-append, length-drop, append_assoc}
use Rattle.std.proofs.lemmas.List.{take_at, drop_at, take_all, take_min, length-take, length-replicate}
use Rattle.spec_base.specs.declared.disk_call.DiskCall.{DiskCall}
use Rattle.spec_base.specs.declared.disk_call.DiskCall.TheVariants.{Write, Sync}
use Rattle.spec_base.specs.Disk.{Torn}
use Rattle.spec_base.specs.MemDisk.{overwritten, content_of, IsLeft, WasLeft}

-- a write that isn't cut short is one of the torn ones
pub torn_whole : (at : ℕ) (bytes old : List ℕ) → Torn at (length bytes) old (overwritten at bytes old)
torn_whole at bytes old = record {
  no_shorter = omega (arith, length-append front rest, size, length-drop (at + length bytes) old);
  before = joined ∙ take_at (take at old) (zeros ++ (bytes ++ rest)) (min at (length old)) (length-take at old) ∙ sym (take_min at old);
  after = ap (take (length old - (at + length bytes))) (drop_at front rest (at + length bytes) size) ∙ take_all _ rest (omega (arith, length-drop (at + length bytes) old));
}
  where
    rest : List ℕ
    rest = drop (at + length bytes) old

    zeros : List ℕ
    zeros = replicate (at - length old) 0

    front : List ℕ
    front = take at old ++ zeros ++ bytes

    size : length front ≡ at + length bytes
    size = omega (arith, length-append (take at old ++ zeros) bytes, length-append (take at old) zeros, length-take at old, length-replicate {A = ℕ} (at - length old) 0)

    joined : take (min at (length old)) (overwritten at bytes old) ≡ take (min at (length old)) (take at old ++ (zeros ++ (bytes ++ rest)))
    joined = ap (take (min at (length old))) (append_assoc (take at old ++ zeros) bytes rest ∙ append_assoc (take at old) zeros (bytes ++ rest))

-- what a read gives is one of the contents that a crash may leave
pub content_is_left : (calls : List DiskCall) → IsLeft calls (content_of calls)
content_is_left [] = refl
content_is_left (Write at bytes ∷ older) = (content_of older, content_is_left older, torn_whole at bytes (content_of older))
content_is_left (Sync ∷ older) = refl

pub now_was_left : (calls : List DiskCall) (t : ℕ) (c : List ℕ) → IsLeft calls c → WasLeft calls t c
now_was_left [] t c left = left
now_was_left (call ∷ older) t c left = inl left

-- since the last moment there is no other
pub only_last : (calls : List DiskCall) (c : List ℕ) → WasLeft calls (length calls) c → IsLeft calls c
only_last [] c left = left
only_last (call ∷ older) c (inl now) = now
only_last (call ∷ older) c (inr before) = absurd (omega (arith, before.0))

-- failures in a row are told up to 2
pub at_most_two : (row : ℕ) → min row 2 ≤ 2
at_most_two row = omega arith
