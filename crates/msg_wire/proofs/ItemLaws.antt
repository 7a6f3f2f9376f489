-- Items: what is read is spelled so, and what is spelled so is read.
use Rattle.std.proofs.Common.{◌≡◌, ℕ, zero, suc, ◌+◌, ◌-◌, ◌^◌, ◌<◌, ◌≤◌, Bool, true, false, cond, eqb, ltb, List, [], ◌∷◌, ◌++◌, length, drop, Result, Ok, Err, ◌⊎◌, inl, inr, refl, sym, ap, subst, ◌∙◌, append_assoc, arith}
use Rattle.std.specs.Prelude.{IfOk}
use Rattle.std.proofs.lemmas.Bool.{eqb-true, eqb-false, ltb-true, ltb-false, le-ltb, lt-ltb}
use Rattle.std.proofs.lemmas.List.{append-nil, drop_all, length-append, length-drop}
use Rattle.record_codec.specs.Fields.{four, eight, sized}
use Rattle.record_codec.specs.Records.{IsValidRecord, record_spelling}
use Rattle.record_codec.specs.Entries.{entry_spelling}
use Rattle.quota_table.specs.Entries.{IsValidEntry}
use Rattle.record_codec.specs.Reading.{Reader, ◌>>=◌, announced, one, two_of, three_of}
use Rattle.record_codec.proofs.Reading.{IsBytes, bind_ok, chosen, done, Took, Takes, Reads, single, drop_past, then_reads, give_reads, announced_takes, announced_reads, one_takes, one_reads, two_takes, two_reads, three_takes, three_reads, apart}
use Rattle.msg_wire.specs.declared.errors.WireError.{WireError}
use Rattle.msg_wire.specs.declared.errors.WireError.TheVariants.{Short}
use Rattle.msg_wire.specs.Names.{Entry, Record, Item}
use Rattle.msg_wire.specs.Names.items
use Rattle.msg_wire.specs.Valid.{IsPlace, IsSlot, IsBallot, IsBody, IsValidItem, AreValidItems}
use Rattle.msg_wire.specs.Items.{tag_of, item_fields, item_spelling, items_spelling}
use Rattle.msg_wire.specs.Decoding.{Gives, Fails, byte_in, four_in, eight_in, kind_in, place_at, slot_at, ballot_at, body_at, record_at, entry_at, output_at, early_tag, late_tag, item_of, item_at, items_from, whole_items}
use Rattle.msg_wire.proofs.PartLaws.{IsWithin, byte_takes, four_takes, eight_takes, kind_takes, byte_reads, kind_reads, place_reads, slot_reads, ballot_reads, if_takes, give_takes, tagged_takes, body_takes, body_reads, record_takes, record_reads}
use Rattle.msg_wire.proofs.EntryLaws.{entry_takes, entry_reads}
use Rattle.msg_wire.proofs.RowLaws.{fails_then}

abbrev output_spelling : List ℕ → List ℕ
output_spelling output = length output ∷ output

output_takes : Takes output_spelling (λ output. IsWithin 0 64 (length output)) output_at
unfolding output_at
output_takes = announced_takes Short (byte_in 0 64) single (IsWithin 0 64) (byte_takes 0 64)

output_reads : (output : List ℕ) → length output ≤ 64 → Reads Short output (output_spelling output) output_at
unfolding output_at
output_reads output le = announced_reads Short (byte_in 0 64) single output (byte_reads 0 64 (length output) (omega arith) le (omega arith))

abbrev IsTagged : ℕ → Item → Type 0
IsTagged tag item = IsValidItem item × (tag_of item ≡ tag)

abbrev S : ℕ → Type 0
S = IsWithin 0 999999

abbrev B : ℕ → Type 0
B = IsWithin 0 2147483647

early_takes : (tag : ℕ) → 1 ≤ tag → tag ≤ 4 → Takes item_fields (IsTagged tag) (early_tag tag)
unfolding early_tag
early_takes tag least most =
    if_takes (eqb tag 1) item_fields (IsTagged tag) _ _
    (λ e. two_takes slot_at ballot_at items.Promised four S four B item_fields (IsTagged tag) (four_takes 0 999999) (four_takes 0 2147483647) (λ a b x y. (refl, ((omega (arith, x.1), omega (arith, y.1)), sym (eqb-true tag 1 e)))))
    (λ n1. if_takes (eqb tag 2) item_fields (IsTagged tag) _ _
    (λ e. three_takes slot_at ballot_at entry_at items.Accepted four S four B entry_spelling IsValidEntry item_fields (IsTagged tag) (four_takes 0 999999) (four_takes 0 2147483647) entry_takes (λ a b c x y z. (refl, ((omega (arith, x.1), omega (arith, y.1), z), sym (eqb-true tag 2 e)))))
    (λ n2. if_takes (eqb tag 3) item_fields (IsTagged tag) _ _
    (λ e. one_takes entry_at items.Known entry_spelling IsValidEntry item_fields (IsTagged tag) entry_takes (λ a x. (refl, (x, sym (eqb-true tag 3 e)))))
    (λ n3. let last : 4 ≡ tag = omega (arith, eqb-false tag 1 n1, eqb-false tag 2 n2, eqb-false tag 3 n3) in
    one_takes record_at items.Taken record_spelling IsValidRecord item_fields (IsTagged tag) record_takes (λ a x. (refl, (x, last))))))

late_takes : (tag : ℕ) → 5 ≤ tag → tag ≤ 9 → Takes item_fields (IsTagged tag) (late_tag tag)
unfolding late_tag
late_takes tag least most =
    if_takes (eqb tag 5) item_fields (IsTagged tag) _ _
    (λ e. one_takes (byte_in 1 64) items.Noops single (IsWithin 1 64) item_fields (IsTagged tag) (byte_takes 1 64) (λ a x. (refl, (x, sym (eqb-true tag 5 e)))))
    (λ n5. if_takes (eqb tag 6) item_fields (IsTagged tag) _ _
    (λ e. one_takes body_at items.Submitted sized (λ body. IsWithin 0 1024 (length body)) item_fields (IsTagged tag) body_takes (λ a x. (refl, (x.1, sym (eqb-true tag 6 e)))))
    (λ n6. if_takes (eqb tag 7) item_fields (IsTagged tag) _ _
    (λ e. give_takes items.Acked item_fields (IsTagged tag) refl (tt, sym (eqb-true tag 7 e)))
    (λ n7. if_takes (eqb tag 8) item_fields (IsTagged tag) _ _
    (λ e. two_takes (byte_in 0 5) place_at items.Moved single (IsWithin 0 5) eight (IsWithin 0 (2 ^ 48)) item_fields (IsTagged tag) (byte_takes 0 5) (eight_takes 0 (2 ^ 48)) (λ a b x y. (refl, ((x.1, y.1), sym (eqb-true tag 8 e)))))
    (λ n8. let last : 9 ≡ tag = omega (arith, eqb-false tag 5 n5, eqb-false tag 6 n6, eqb-false tag 7 n7, eqb-false tag 8 n8) in
    two_takes record_at output_at items.Confirmed record_spelling IsValidRecord output_spelling (λ output. IsWithin 0 64 (length output)) item_fields (IsTagged tag) record_takes output_takes (λ a b x y. (refl, ((x, y.1), last)))))))

item_of_takes : (tag : ℕ) → IsWithin 1 9 tag → Takes item_fields (IsTagged tag) (item_of tag)
unfolding item_of
item_of_takes tag in_range =
    if_takes (ltb tag 5) item_fields (IsTagged tag) (early_tag tag) (late_tag tag)
    (λ e. let below : tag < 5 = ltb-true tag 5 e in early_takes tag in_range.0 (omega arith))
    (λ n. late_takes tag (ltb-false tag 5 n) in_range.1)

pub item_takes : Takes item_spelling IsValidItem item_at
unfolding item_at
item_takes = tagged_takes tag_of item_spelling item_fields IsValidItem (IsWithin 1 9) (kind_in 1 9) item_of (λ item. refl) (kind_takes 1 9) item_of_takes

item_of_reads : (item : Item) → IsValidItem item → Reads Short item (item_fields item) (item_of (tag_of item))
unfolding item_of early_tag late_tag
item_of_reads (items.Promised slot ballot) v = two_reads Short slot_at ballot_at items.Promised slot ballot (four slot) (four ballot) (slot_reads slot v.0) (ballot_reads ballot v.1)
item_of_reads (items.Accepted slot ballot entry) v = three_reads Short slot_at ballot_at entry_at items.Accepted slot ballot entry (four slot) (four ballot) (entry_spelling entry) (slot_reads slot v.0) (ballot_reads ballot v.1) (entry_reads entry v.2)
item_of_reads (items.Known entry) v = one_reads Short entry_at items.Known entry (entry_spelling entry) (entry_reads entry v)
item_of_reads (items.Taken rec) v = one_reads Short record_at items.Taken rec (record_spelling rec) (record_reads rec v)
item_of_reads (items.Noops count) v = one_reads Short (byte_in 1 64) items.Noops count (single count) (byte_reads 1 64 count v.0 v.1 (omega arith))
item_of_reads (items.Submitted body) v = one_reads Short body_at items.Submitted body (sized body) (body_reads body v)
item_of_reads items.Acked v = give_reads Short items.Acked
item_of_reads (items.Moved shard first) v = two_reads Short (byte_in 0 5) place_at items.Moved shard first (single shard) (eight first) (byte_reads 0 5 shard (omega arith) v.0 (omega arith)) (place_reads first v.1)
item_of_reads (items.Confirmed rec output) v = two_reads Short record_at output_at items.Confirmed rec output (record_spelling rec) (output_spelling output) (record_reads rec v.0) (output_reads output v.1)

tag_within : (item : Item) → IsWithin 1 9 (tag_of item)
tag_within (items.Promised slot ballot) = (omega arith, omega arith)
tag_within (items.Accepted slot ballot entry) = (omega arith, omega arith)
tag_within (items.Known entry) = (omega arith, omega arith)
tag_within (items.Taken rec) = (omega arith, omega arith)
tag_within (items.Noops count) = (omega arith, omega arith)
tag_within (items.Submitted body) = (omega arith, omega arith)
tag_within items.Acked = (omega arith, omega arith)
tag_within (items.Moved shard first) = (omega arith, omega arith)
tag_within (items.Confirmed rec output) = (omega arith, omega arith)

pub item_reads : (item : Item) → IsValidItem item → Reads Short item (item_spelling item) item_at
unfolding item_at
item_reads item v =
    let t = tag_within item in
    then_reads Short (kind_in 1 9) item_of (tag_of item) item (single (tag_of item)) (item_fields item) (kind_reads 1 9 (tag_of item) t.0 t.1 (omega arith)) (item_of_reads item v)

-- ---- the loop

-- an item has a byte at least
pub item_advances : (bytes : List ℕ) (at : ℕ) (item : Item) (after : ℕ) → IsBytes bytes → item_at bytes at ≡ Ok (item, after) → at + 1 ≤ after
item_advances bytes at item after fits e =
    let t = item_takes.took bytes at (item, after) fits e in
    omega (arith, t.0.place)

items_step : (total count at : ℕ) (items : List Item) (bytes : List ℕ) → total < length bytes → total ≤ at → at < length bytes
    → items_from (length bytes - total) items bytes at ≡ (item_at bytes at >>= λ item. items_from (length bytes - (total + 1)) (items ++ item.0 ∷ []) bytes item.1)
unfolding items_from
items_step total count at items bytes lt le here =
    let k : length bytes - total ≡ suc (length bytes - (total + 1)) = omega arith in
    let within : ltb at (length bytes) ≡ true = lt-ltb at (length bytes) here in
    rw (k, within) refl

pub items_go_on : (at : ℕ) (items : List Item) (bytes : List ℕ) (item : Item) (after : ℕ) (all : Result (List Item) WireError) → length items ≤ at
    → at < length bytes → item_at bytes at ≡ Ok (item, after) → items_from (length bytes - length items) items bytes at ≡ all
    → items_from (length bytes - length (items ++ item ∷ [])) (items ++ item ∷ []) bytes after ≡ all
items_go_on at items bytes item after all le here h so_far =
    let size : length (items ++ item ∷ []) ≡ length items + 1 = length-append items (item ∷ []) in
    rw size (sym (ap (λ x. x >>= λ i. items_from (length bytes - (length items + 1)) (items ++ i.0 ∷ []) bytes i.1) h) ∙ sym (items_step (length items) 0 at items bytes (omega arith) le here) ∙ so_far)

pub items_fail : (e : WireError) (at : ℕ) (items : List Item) (bytes : List ℕ) (all : Result (List Item) WireError) → length items ≤ at → at < length bytes
    → Fails e (item_at bytes at) → items_from (length bytes - length items) items bytes at ≡ all → Fails e all
items_fail e at items bytes all le here h so_far =
    subst (Fails e) (sym (items_step (length items) 0 at items bytes (omega arith) le here) ∙ so_far) (fails_then e (item_at bytes at) (λ i. items_from (length bytes - (length items + 1)) (items ++ i.0 ∷ []) bytes i.1) h)

items_over : (count at : ℕ) (items : List Item) (bytes : List ℕ) → length bytes ≤ at → items_from count items bytes at ≡ Ok items
unfolding items_from
items_over zero at items bytes le = refl
items_over (suc count) at items bytes le = let past : ltb at (length bytes) ≡ false = le-ltb at (length bytes) le in rw past refl

pub items_done : (at : ℕ) (items : List Item) (bytes : List ℕ) (all : Result (List Item) WireError) → length bytes ≤ at
    → items_from (length bytes - length items) items bytes at ≡ all → all ≡ Ok items
items_done at items bytes all le so_far = sym so_far ∙ items_over (length bytes - length items) at items bytes le

-- ---- all of the bytes

record AreRead (bytes : List ℕ) (at : ℕ) (earlier all : List Item) : Type 0 where
  more : List Item
  text : drop at bytes ≡ items_spelling more
  whole : all ≡ earlier ++ more
  valid : AreValidItems more

same : (a b : List Item) → done WireError a ≡ done WireError b → a ≡ b
same a b e = cc

items_took : (count : ℕ) (earlier : List Item) (bytes : List ℕ) (at : ℕ) (all : List Item) → IsBytes bytes → length bytes ≤ at + count
    → items_from count earlier bytes at ≡ Ok all → AreRead bytes at earlier all
unfolding items_from
items_took zero earlier bytes at all fits enough e =
    subst (AreRead bytes at earlier) (same earlier all e) (record { more = []; text = drop_all at bytes (omega arith); whole = sym (append-nil earlier); valid = tt })
items_took (suc count) earlier bytes at all fits enough e =
    elim (chosen (ltb at (length bytes)) (item_at bytes at >>= λ item. items_from count (earlier ++ item.0 ∷ []) bytes item.1) (Ok earlier) (Ok all) e) [
      | inl h ↦
          let b = bind_ok (item_at bytes at) (λ item. items_from count (earlier ++ item.0 ∷ []) bytes item.1) all h.1 in
          let t = item_takes.took bytes at b.0 fits b.1 in
          let o = items_took count (earlier ++ b.0.0 ∷ []) bytes b.0.1 all fits (omega (arith, t.0.place)) b.2 in
          record {
            more = b.0.0 ∷ o.more;
            text = t.0.parts ∙ ap (λ (rest : List ℕ). item_spelling b.0.0 ++ rest) o.text;
            whole = o.whole ∙ append_assoc earlier (b.0.0 ∷ []) o.more;
            valid = (t.1, o.valid);
          }
      | inr h ↦
          let past : length bytes ≤ at = ltb-false at (length bytes) h.0 in
          subst (AreRead bytes at earlier) (same earlier all h.1) (record { more = []; text = drop_all at bytes past; whole = sym (append-nil earlier); valid = tt })
    ]

items_again : (more earlier : List Item) (count : ℕ) (bytes : List ℕ) (at : ℕ) → AreValidItems more → length bytes ≤ at + count
    → drop at bytes ≡ items_spelling more → items_from count earlier bytes at ≡ Ok (earlier ++ more)
unfolding items_from
items_again [] earlier count bytes at valid enough e =
    let size : length (drop at bytes) ≡ 0 = ap length e in
    items_over count at earlier bytes (omega (arith, size, length-drop at bytes)) ∙ ap (λ (all : List Item). Ok all) (sym (append-nil earlier))
items_again (item ∷ more) earlier zero bytes at valid enough e =
    let size : length (drop at bytes) ≡ suc (length (item_fields item ++ items_spelling more)) = ap length e in
    absurd (omega (arith, size, length-drop at bytes))
items_again (item ∷ more) earlier (suc count) bytes at valid enough e =
    let size : length (drop at bytes) ≡ suc (length (item_fields item ++ items_spelling more)) = ap length e in
    let within : ltb at (length bytes) ≡ true = lt-ltb at (length bytes) (omega (arith, size, length-drop at bytes)) in
    let first = (item_reads item valid.0).again bytes at (items_spelling more) e in
    let rest = items_again more (earlier ++ item ∷ []) count bytes (at + length (item_spelling item)) valid.1 (omega arith) (drop_past bytes at (item_spelling item) (items_spelling more) e) in
    rw (within, first) (rest ∙ ap (λ (all : List Item). Ok all) (append_assoc earlier (item ∷ []) more))

pub items_found : (bytes : List ℕ) (result : Result (List Item) WireError) → IsBytes bytes → Gives result (whole_items bytes)
    → IfOk result (λ all. AreValidItems all × (1 ≤ length all) × (bytes ≡ items_spelling all))
unfolding whole_items
items_found bytes (Ok all) fits e =
    let b = bind_ok (item_at bytes 0) (λ first. items_from (length bytes - 1) (first.0 ∷ []) bytes first.1) all e in
    let t = item_takes.took bytes 0 b.0 fits b.1 in
    let o = items_took (length bytes - 1) (b.0.0 ∷ []) bytes b.0.1 all fits (omega (arith, t.0.place)) b.2 in
    let whole : bytes ≡ items_spelling (b.0.0 ∷ o.more) = t.0.parts ∙ ap (λ (rest : List ℕ). item_spelling b.0.0 ++ rest) o.text in
    subst (λ (is : List Item). AreValidItems is × (1 ≤ length is) × (bytes ≡ items_spelling is)) (sym o.whole) ((t.1, o.valid), omega arith, whole)
items_found bytes (Err e) fits h = tt

pub items_only : (bytes : List ℕ) (result : Result (List Item) WireError) → Gives result (whole_items bytes) → (all : List Item) → AreValidItems all
    → 1 ≤ length all → bytes ≡ items_spelling all → Gives result (Ok all)
unfolding whole_items
items_only bytes result given [] valid some e = absurd (omega arith)
items_only bytes result given (item ∷ more) valid some e =
    let first = (item_reads item valid.0).again bytes 0 (items_spelling more) e in
    let rest = items_again more (item ∷ []) (length bytes - 1) bytes (0 + length (item_spelling item)) valid.1 (omega arith) (drop_past bytes 0 (item_spelling item) (items_spelling more) e) in
    let whole : whole_items bytes ≡ Ok (item ∷ more) = rw first rest in
    subst (Gives result) whole given

-- ---- for the laws

pub items_apart : (a b : Item) (x y : List ℕ) → IsValidItem a → IsValidItem b → item_spelling a ++ x ≡ item_spelling b ++ y → (a ≡ b) × (x ≡ y)
items_apart a b x y va vb e = apart Short item_at item_spelling a b x y (item_reads a va) (item_reads b vb) e

pub entries_apart : (a b : Entry) (x y : List ℕ) → IsValidEntry a → IsValidEntry b → entry_spelling a ++ x ≡ entry_spelling b ++ y → (a ≡ b) × (x ≡ y)
entries_apart a b x y va vb e = apart Short entry_at entry_spelling a b x y (entry_reads a va) (entry_reads b vb) e
