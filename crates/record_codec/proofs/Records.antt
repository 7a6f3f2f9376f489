-- Reading a record gives back what was spelled, and nothing else.
use Rattle.std.proofs.Common.{◌≡◌, ℕ, ◌^◌, ◌<◌, ◌≤◌, cond, eqb, List, [], ◌∷◌, ◌++◌, length, take, drop, Result, Ok, Err, refl, sym, ap, subst, ◌∙◌, arith, inl, inr}
use Rattle.std.proofs.lemmas.Bool.{eqb-true, eqb-false}
use Rattle.std.specs.Prelude.{IfOk}
use Rattle.std.proofs.lemmas.List.{take_at}
use Rattle.record_codec.specs.declared.record.Record.{Record}
use Rattle.record_codec.specs.declared.record.Record.TheVariants.{Data, Noop}
use Rattle.record_codec.specs.declared.errors.DecodeError.{DecodeError}
use Rattle.record_codec.specs.declared.errors.DecodeError.TheVariants.{Short, BadTag, BadField, BodyTooLong}
use Rattle.record_codec.specs.Fields.{two, four, eight, sized}
use Rattle.record_codec.specs.Records.{IsValidRecord, record_spelling}
use Rattle.record_codec.specs.Reading.{Reader, byte_at, two_at, four_at, eight_at, field, three_of}
use Rattle.record_codec.specs.Decoding.{Gives, client_at, count_at, len_at, body_at, record_at}
use Rattle.record_codec.proofs.Reading.{IsBytes, bind_ok, ok_is, Took, Took_then, chosen, apart, Takes, Reads, single, twos, fours, eights, bytes_are_numbers, field_takes, field_reads, then_reads, give_reads, announced_takes, announced_reads, three_takes, three_reads}

client_takes : Takes four (λ n. (0 ≤ n) × (n ≤ 5)) client_at
unfolding client_at
client_takes = field_takes Short (λ at n. BadField at) 0 5 four (2 ^ 32) four_at fours

count_takes : Takes eight (λ n. (0 ≤ n) × (n ≤ 2 ^ 48)) count_at
unfolding count_at
count_takes = field_takes Short (λ at n. BadField at) 0 (2 ^ 48) eight (2 ^ 64) eight_at eights

len_takes : Takes two (λ n. (0 ≤ n) × (n ≤ 1024)) len_at
unfolding len_at
len_takes = field_takes Short (λ at. BodyTooLong) 0 1024 two (2 ^ 16) two_at twos

body_takes : Takes sized (λ body. (0 ≤ length body) × (length body ≤ 1024)) body_at
unfolding body_at
body_takes = announced_takes Short len_at two (λ n. (0 ≤ n) × (n ≤ 1024)) len_takes

client_reads : (n : ℕ) → n ≤ 5 → Reads Short n (four n) client_at
unfolding client_at
client_reads n le = field_reads Short (λ at n. BadField at) 0 5 four (2 ^ 32) four_at fours n (omega arith) le (omega arith)

count_reads : (n : ℕ) → n ≤ 2 ^ 48 → Reads Short n (eight n) count_at
unfolding count_at
count_reads n le = field_reads Short (λ at n. BadField at) 0 (2 ^ 48) eight (2 ^ 64) eight_at eights n (omega arith) le (omega arith)

len_reads : (n : ℕ) → n ≤ 1024 → Reads Short n (two n) len_at
unfolding len_at
len_reads n le = field_reads Short (λ at. BodyTooLong) 0 1024 two (2 ^ 16) two_at twos n (omega arith) le (omega arith)

body_reads : (body : List ℕ) → length body ≤ 1024 → Reads Short body (sized body) body_at
unfolding body_at
body_reads body le = announced_reads Short len_at two body (len_reads (length body) le)

tag_takes : Takes single (λ n. (0 ≤ n) × (n ≤ 1)) (λ bytes at. field Short BadTag 0 1 (byte_at bytes at))
tag_takes = field_takes Short (λ at. BadTag) 0 1 single (2 ^ 8) byte_at bytes_are_numbers

tag_reads : (n : ℕ) → n ≤ 1 → Reads Short n (single n) (λ bytes at. field Short BadTag 0 1 (byte_at bytes at))
tag_reads n le = field_reads Short (λ at. BadTag) 0 1 single (2 ^ 8) byte_at bytes_are_numbers n (omega arith) le (omega arith)

-- the fields after the tag
abbrev record_fields : Record → List ℕ
record_fields r = drop 1 (record_spelling r)

abbrev IsData : Record → Type 0
IsData r = IsValidRecord r × (record_spelling r ≡ 1 ∷ record_fields r)

data_takes : Takes record_fields IsData (three_of client_at count_at body_at Data)
data_takes = three_takes client_at count_at body_at Data four (λ n. (0 ≤ n) × (n ≤ 5)) eight (λ n. (0 ≤ n) × (n ≤ 2 ^ 48)) sized (λ body. (0 ≤ length body) × (length body ≤ 1024)) record_fields IsData client_takes count_takes body_takes
    (λ a b c x y z. (refl, ((x.1, y.1, z.1), refl)))

pub record_takes : Takes record_spelling IsValidRecord record_at
unfolding record_at
record_takes = record {
  took = λ bytes at x fits e.
      let t = bind_ok (field Short BadTag 0 1 (byte_at bytes at)) (λ tag. cond (eqb tag.0 0) (Ok (Noop, tag.1)) (three_of client_at count_at body_at Data bytes tag.1)) x e in
      let tag = tag_takes.took bytes at t.0 fits t.1 in
      elim (chosen (eqb t.0.0 0) (Ok (Noop, t.0.1)) (three_of client_at count_at body_at Data bytes t.0.1) (Ok x) t.2) [
        | inl h ↦
            let text : Took bytes at (0 ∷ []) t.0.1 = subst (λ (k : ℕ). Took bytes at (k ∷ []) t.0.1) (eqb-true _ _ h.0) tag.0 in
            subst (λ (y : Record × ℕ). Took bytes at (record_spelling y.0) y.1 × IsValidRecord y.0) (ok_is DecodeError (Noop, t.0.1) x h.1) (text, tt)
        | inr h ↦
            let one_is : t.0.0 ≡ 1 = omega (arith, eqb-false _ _ h.0) in
            let text : Took bytes at (1 ∷ []) t.0.1 = subst (λ (k : ℕ). Took bytes at (k ∷ []) t.0.1) one_is tag.0 in
            let d = data_takes.took bytes t.0.1 x fits h.1 in
            (rw d.1.1 (Took_then bytes at t.0.1 x.1 (1 ∷ []) (record_fields x.0) text d.0), d.1.0)
      ];
}

-- what follows the tag
abbrev after_tag : ℕ → Reader Record DecodeError
after_tag tag bytes at = cond (eqb tag 0) (Ok (Noop, at)) (three_of client_at count_at body_at Data bytes at)

pub record_reads : (r : Record) → IsValidRecord r → Reads Short r (record_spelling r) record_at
unfolding record_at
record_reads Noop valid = then_reads Short (λ bytes at. field Short BadTag 0 1 (byte_at bytes at)) after_tag 0 Noop (0 ∷ []) [] (tag_reads 0 (omega arith)) (give_reads Short Noop)
record_reads (Data client number body) valid =
    then_reads Short (λ bytes at. field Short BadTag 0 1 (byte_at bytes at)) after_tag 1 (Data client number body) (1 ∷ []) (four client ++ eight number ++ sized body) (tag_reads 1 (omega arith))
    (three_reads Short client_at count_at body_at Data client number body (four client) (eight number) (sized body) (client_reads client valid.0) (count_reads number valid.1) (body_reads body valid.2))

-- ---- for decode

pub record_found : (bytes : List ℕ) (result : Result (Record × ℕ) DecodeError) → IsBytes bytes → Gives result (record_at bytes 0)
    → IfOk result (λ r. IsValidRecord r.0 × (take r.1 bytes ≡ record_spelling r.0))
record_found bytes (Ok x) fits e =
    let t = record_takes.took bytes 0 x fits e in
    (t.1, ap (take x.1) t.0.parts ∙ take_at (record_spelling x.0) (drop x.1 bytes) x.1 (omega (arith, t.0.place)))
record_found bytes (Err e) fits h = tt

pub record_only : (bytes : List ℕ) (result : Result (Record × ℕ) DecodeError) → Gives result (record_at bytes 0) → (r : Record) (rest : List ℕ)
    → IsValidRecord r → bytes ≡ record_spelling r ++ rest → Gives result (Ok (r, length (record_spelling r)))
record_only bytes result given r rest valid e =
    let read : record_at bytes 0 ≡ Ok (r, length (record_spelling r)) = (record_reads r valid).again bytes 0 rest e ∙ ap (λ (n : ℕ). Ok (r, n)) (omega arith) in
    subst (Gives result) read given

-- ---- for the laws

pub records_apart : (a b : Record) (x y : List ℕ) → IsValidRecord a → IsValidRecord b → record_spelling a ++ x ≡ record_spelling b ++ y → (a ≡ b) × (x ≡ y)
records_apart a b x y va vb e = apart Short record_at record_spelling a b x y (record_reads a va) (record_reads b vb) e

pub record_cut : (r : Record) (front more : List ℕ) → IsValidRecord r → front ++ more ≡ record_spelling r → 0 < length more → record_at front 0 ≡ Err Short
record_cut r front more valid e some = (record_reads r valid).cut front 0 more e some
