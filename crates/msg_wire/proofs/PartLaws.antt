-- Numbers, records and entries: what is read is spelled so, and what is spelled so is read.
use Rattle.std.proofs.Common.{◌≡◌, ℕ, zero, suc, ◌+◌, ◌-◌, ◌^◌, ◌<◌, ◌≤◌, Bool, true, false, cond, not, ◌&&◌, ◌||◌, eqb, List, [], ◌∷◌, ◌++◌, length, drop, Option, Some, None, Result, Ok, Err, ◌⊎◌, refl, sym, ap, subst, ◌∙◌, append_assoc, arith, inl, inr}
use Rattle.std.specs.List.{list_all, list_any}
use Rattle.std.proofs.lemmas.Bool.{eqb-true, eqb-false}
use Rattle.std.proofs.lemmas.Bool.Decides.{nat_tests}
use Rattle.std.proofs.lemmas.List.{append-nil}
use Rattle.quota_table.specs.Rows.{has_shard, is_row, is_distinct, IsTable}
use Rattle.record_codec.specs.Fields.{two, four, eight, sized}
use Rattle.record_codec.specs.Records.{IsValidRecord, record_spelling}
use Rattle.record_codec.specs.Entries.{rows_spelling, entry_spelling}
use Rattle.quota_table.specs.Entries.{IsWindowNumber, AreRounds, IsValidEntry}
use Rattle.record_codec.specs.Reading.{Reader, ◌>>=◌, byte_at, two_at, four_at, eight_at, two_of, three_of}
use Rattle.record_codec.proofs.Reading.{IsBytes, bind_ok, guard_ok, chosen, ok_is, Took, Took_then, Takes, Reads, single, twos, fours, eights, bytes_are_numbers, field_takes, field_reads, then_reads, give_reads, announced_takes, announced_reads, two_takes, two_reads, three_takes, three_reads}
use Rattle.msg_wire.specs.declared.errors.WireError.{WireError}
use Rattle.msg_wire.specs.declared.errors.WireError.TheVariants.{Short, BadKind, BadField, Trailing, OutOfMemory}
use Rattle.msg_wire.specs.Names.{Row, Entry, Record}
use Rattle.msg_wire.specs.Names.entries
use Rattle.msg_wire.specs.Names.records
use Rattle.msg_wire.specs.Decoding.{byte_in, two_in, four_in, eight_in, kind_in, body_at, record_of, record_at, fresh_at, row_at, rows_at, table_at, entry_of, entry_at, Fails}

-- ---- numbers

abbrev pub IsWithin : ℕ → ℕ → ℕ → Type 0
IsWithin least most n = (least ≤ n) × (n ≤ most)

-- in one byte
pub byte_takes : (least most : ℕ) → Takes single (IsWithin least most) (byte_in least most)
unfolding byte_in
byte_takes least most = field_takes Short (λ at n. BadField at) least most single (2 ^ 8) byte_at bytes_are_numbers

pub byte_reads : (least most n : ℕ) → least ≤ n → n ≤ most → most < 2 ^ 8 → Reads Short n (single n) (byte_in least most)
unfolding byte_in
byte_reads least most n ge le lt = field_reads Short (λ at n. BadField at) least most single (2 ^ 8) byte_at bytes_are_numbers n ge le lt

pub kind_reads : (least most n : ℕ) → least ≤ n → n ≤ most → most < 2 ^ 8 → Reads Short n (single n) (kind_in least most)
unfolding kind_in
kind_reads least most n ge le lt = field_reads Short (λ at n. BadKind at) least most single (2 ^ 8) byte_at bytes_are_numbers n ge le lt

pub kind_takes : (least most : ℕ) → Takes single (IsWithin least most) (kind_in least most)
unfolding kind_in
kind_takes least most = field_takes Short (λ at n. BadKind at) least most single (2 ^ 8) byte_at bytes_are_numbers

-- in two bytes
pub two_takes_in : (least most : ℕ) → Takes two (IsWithin least most) (two_in least most)
unfolding two_in
two_takes_in least most = field_takes Short (λ at n. BadField at) least most two (2 ^ 16) two_at twos

pub two_reads_in : (least most n : ℕ) → least ≤ n → n ≤ most → most < 2 ^ 16 → Reads Short n (two n) (two_in least most)
unfolding two_in
two_reads_in least most n ge le lt = field_reads Short (λ at n. BadField at) least most two (2 ^ 16) two_at twos n ge le lt

-- in four bytes
pub four_takes : (least most : ℕ) → Takes four (IsWithin least most) (four_in least most)
unfolding four_in
four_takes least most = field_takes Short (λ at n. BadField at) least most four (2 ^ 32) four_at fours

pub four_reads : (least most n : ℕ) → least ≤ n → n ≤ most → most < 2 ^ 32 → Reads Short n (four n) (four_in least most)
unfolding four_in
four_reads least most n ge le lt = field_reads Short (λ at n. BadField at) least most four (2 ^ 32) four_at fours n ge le lt

pub window_reads : (n : ℕ) → n ≤ 1000000 → Reads Short n (four n) (four_in 0 1000000)
window_reads n le = four_reads 0 1000000 n (omega arith) le (omega arith)

pub slot_reads : (n : ℕ) → n < 1000000 → Reads Short n (four n) (four_in 0 999999)
slot_reads n lt = four_reads 0 999999 n (omega arith) (omega arith) (omega arith)

pub ballot_reads : (n : ℕ) → n < 2 ^ 31 → Reads Short n (four n) (four_in 0 2147483647)
ballot_reads n lt = four_reads 0 2147483647 n (omega arith) (omega arith) (omega arith)

-- in eight bytes
pub eight_takes : (least most : ℕ) → Takes eight (IsWithin least most) (eight_in least most)
unfolding eight_in
eight_takes least most = field_takes Short (λ at n. BadField at) least most eight (2 ^ 64) eight_at eights

pub eight_reads : (least most n : ℕ) → least ≤ n → n ≤ most → most < 2 ^ 64 → Reads Short n (eight n) (eight_in least most)
unfolding eight_in
eight_reads least most n ge le lt = field_reads Short (λ at n. BadField at) least most eight (2 ^ 64) eight_at eights n ge le lt

pub place_reads : (n : ℕ) → n ≤ 2 ^ 48 → Reads Short n (eight n) (eight_in 0 (2 ^ 48))
place_reads n le = eight_reads 0 (2 ^ 48) n (omega arith) le (omega arith)

-- ---- a choice among readers

pub if_takes : {A E : Type 0} (b : Bool) (spell : A → List ℕ) (Valid : A → Type 0) (r s : Reader A E) → ((b ≡ true) → Takes spell Valid r)
    → ((b ≡ false) → Takes spell Valid s) → Takes spell Valid (λ bytes at. cond b (r bytes at) (s bytes at))
if_takes true spell Valid r s p q = p refl
if_takes false spell Valid r s p q = q refl

pub give_takes : {A E : Type 0} (a : A) (spell : A → List ℕ) (Valid : A → Type 0) → spell a ≡ [] → Valid a → Takes {E = E} spell Valid (λ bytes at. Ok (a, at))
give_takes {A} {E} a spell Valid e valid = record {
  took = λ bytes at x fits h.
      let text : Took bytes at (spell a) at = record { parts = rw e refl; place = rw e (omega arith) } in
      subst (λ (y : A × ℕ). Took bytes at (spell y.0) y.1 × Valid y.0) (ok_is E (a, at) x h) (text, valid);
}

-- behind a tag that says which reader follows
pub tagged_takes : {A E : Type 0} (tag_of : A → ℕ) (spell fields : A → List ℕ) (Valid : A → Type 0) (In : ℕ → Type 0) (t : Reader ℕ E) (k : ℕ → Reader A E)
    → ((a : A) → spell a ≡ tag_of a ∷ fields a) → Takes single In t → ((n : ℕ) → In n → Takes fields (λ a. Valid a × (tag_of a ≡ n)) (k n))
    → Takes spell Valid (λ bytes at. t bytes at >>= λ tag. k tag.0 bytes tag.1)
tagged_takes {A} {E} tag_of spell fields Valid In t k spelled p q = record {
  took = λ bytes at x fits e.
      let tag = bind_ok (t bytes at) (λ tag. k tag.0 bytes tag.1) x e in
      let first = p.took bytes at tag.0 fits tag.1 in
      let rest = (q tag.0.0 first.1).took bytes tag.0.1 x fits tag.2 in
      let front : Took bytes at (single (tag_of x.0)) tag.0.1 = subst (λ (n : ℕ). Took bytes at (single n) tag.0.1) (sym rest.1.1) first.0 in
      (rw (spelled x.0) (Took_then bytes at tag.0.1 x.1 (single (tag_of x.0)) (fields x.0) front rest.0), rest.1.0);
}

-- ---- records

pub body_takes : Takes sized (λ body. IsWithin 0 1024 (length body)) body_at
unfolding body_at
body_takes = announced_takes Short (two_in 0 1024) two (IsWithin 0 1024) (two_takes_in 0 1024)

pub body_reads : (body : List ℕ) → length body ≤ 1024 → Reads Short body (sized body) body_at
unfolding body_at
body_reads body le = announced_reads Short (two_in 0 1024) two body (two_reads_in 0 1024 (length body) (omega arith) le (omega arith))

abbrev record_tag : Record → ℕ
record_tag (records.Data client number body) = 1
record_tag records.Noop = 0

abbrev record_fields : Record → List ℕ
record_fields r = drop 1 (record_spelling r)

record_tagged : (r : Record) → record_spelling r ≡ record_tag r ∷ record_fields r
record_tagged (records.Data client number body) = refl
record_tagged records.Noop = refl

record_of_takes : (tag : ℕ) → IsWithin 0 1 tag → Takes record_fields (λ r. IsValidRecord r × (record_tag r ≡ tag)) (record_of tag)
unfolding record_of
record_of_takes tag in_range =
    if_takes (eqb tag 0) record_fields (λ r. IsValidRecord r × (record_tag r ≡ tag)) _ _
    (λ e. give_takes records.Noop record_fields (λ r. IsValidRecord r × (record_tag r ≡ tag)) refl (tt, sym (eqb-true tag 0 e)))
    (λ e. let one_is : 1 ≡ tag = omega (arith, eqb-false tag 0 e, in_range.1) in
    three_takes (four_in 0 5) (eight_in 0 (2 ^ 48)) body_at records.Data four (IsWithin 0 5) eight (IsWithin 0 (2 ^ 48)) sized (λ body. IsWithin 0 1024 (length body)) record_fields (λ r. IsValidRecord r × (record_tag r ≡ tag)) (four_takes 0 5) (eight_takes 0 (2 ^ 48)) body_takes
    (λ a b c x y z. (refl, ((x.1, y.1, z.1), one_is))))

pub record_takes : Takes record_spelling IsValidRecord record_at
unfolding record_at
record_takes = tagged_takes record_tag record_spelling record_fields IsValidRecord (IsWithin 0 1) (byte_in 0 1) record_of record_tagged (byte_takes 0 1) record_of_takes

record_of_reads : (r : Record) → IsValidRecord r → Reads Short r (record_fields r) (record_of (record_tag r))
unfolding record_of
record_of_reads records.Noop valid = give_reads Short records.Noop
record_of_reads (records.Data client number body) valid =
    three_reads Short (four_in 0 5) (eight_in 0 (2 ^ 48)) body_at records.Data client number body (four client) (eight number) (sized body) (four_reads 0 5 client (omega arith) valid.0 (omega arith)) (place_reads number valid.1) (body_reads body valid.2)

record_tag_in : (r : Record) → record_tag r ≤ 1
record_tag_in (records.Data client number body) = omega arith
record_tag_in records.Noop = omega arith

pub record_reads : (r : Record) → IsValidRecord r → Reads Short r (record_spelling r) record_at
unfolding record_at
record_reads r valid =
    subst (λ (t : List ℕ). Reads Short r t (λ bytes at. byte_in 0 1 bytes at >>= λ tag. record_of tag.0 bytes tag.1)) (sym (record_tagged r))
    (then_reads Short (byte_in 0 1) record_of (record_tag r) r (single (record_tag r)) (record_fields r) (byte_reads 0 1 (record_tag r) (omega arith) (record_tag_in r) (omega arith)) (record_of_reads r valid))
