-- Entries: what is read is spelled so, and what is spelled so is read.
use Rattle.std.proofs.Common.{◌≡◌, ℕ, ◌+◌, ◌^◌, ◌<◌, ◌≤◌, Bool, true, false, eqb, List, [], ◌∷◌, ◌++◌, length, drop, refl, sym, ap, subst, ◌∙◌, arith}
use Rattle.std.proofs.lemmas.Bool.{eqb-true, eqb-false}
use Rattle.quota_table.specs.Rows.{IsTable}
use Rattle.record_codec.specs.Fields.{two, four}
use Rattle.record_codec.specs.Entries.{rows_spelling, entry_spelling}
use Rattle.quota_table.specs.Entries.{IsValidEntry}
use Rattle.record_codec.specs.Reading.{◌>>=◌, two_of, three_of}
use Rattle.record_codec.proofs.Reading.{Takes, Reads, single, then_reads, give_reads, two_takes, two_reads, three_takes, three_reads}
use Rattle.msg_wire.specs.declared.errors.WireError.TheVariants.{Short}
use Rattle.msg_wire.specs.Names.{Row, Entry}
use Rattle.msg_wire.specs.Names.entries
use Rattle.msg_wire.specs.Decoding.{byte_in, two_in, four_in, table_at, entry_of, entry_at}
use Rattle.msg_wire.proofs.PartLaws.{IsWithin, byte_takes, two_takes_in, four_takes, byte_reads, two_reads_in, window_reads, if_takes, give_takes, tagged_takes}
use Rattle.msg_wire.proofs.RowLaws.{counted_rows, table_takes, table_reads}

abbrev entry_tag : Entry → ℕ
entry_tag entries.Nothing = 0
entry_tag (entries.Cut window round) = 1
entry_tag (entries.Table after rounds rows) = 2
entry_tag (entries.Remove window shard) = 3

abbrev entry_fields : Entry → List ℕ
entry_fields e = drop 1 (entry_spelling e)

entry_tagged : (e : Entry) → entry_spelling e ≡ entry_tag e ∷ entry_fields e
entry_tagged entries.Nothing = refl
entry_tagged (entries.Cut window round) = refl
entry_tagged (entries.Table after rounds rows) = refl
entry_tagged (entries.Remove window shard) = refl

entry_tag_in : (e : Entry) → entry_tag e ≤ 3
entry_tag_in entries.Nothing = omega arith
entry_tag_in (entries.Cut window round) = omega arith
entry_tag_in (entries.Table after rounds rows) = omega arith
entry_tag_in (entries.Remove window shard) = omega arith

abbrev IsTagged : ℕ → Entry → Type 0
IsTagged tag e = IsValidEntry e × (entry_tag e ≡ tag)

entry_of_takes : (tag : ℕ) → IsWithin 0 3 tag → Takes entry_fields (IsTagged tag) (entry_of tag)
unfolding entry_of
entry_of_takes tag in_range =
    if_takes (eqb tag 0) entry_fields (IsTagged tag) _ _
    (λ e0. give_takes entries.Nothing entry_fields (IsTagged tag) refl (tt, sym (eqb-true tag 0 e0)))
    (λ n0. if_takes (eqb tag 1) entry_fields (IsTagged tag) _ _
    (λ e1. two_takes (four_in 0 1000000) (two_in 0 1023) entries.Cut four (IsWithin 0 1000000) two (IsWithin 0 1023) entry_fields (IsTagged tag) (four_takes 0 1000000) (two_takes_in 0 1023)
    (λ a b x y. (refl, ((x.1, omega (arith, y.1)), sym (eqb-true tag 1 e1)))))
    (λ n1. if_takes (eqb tag 2) entry_fields (IsTagged tag) _ _
    (λ e2. three_takes (four_in 0 1000000) (two_in 1 1024) table_at entries.Table four (IsWithin 0 1000000) two (IsWithin 1 1024) counted_rows IsTable entry_fields (IsTagged tag) (four_takes 0 1000000) (two_takes_in 1 1024) table_takes
    (λ a b c x y z. (refl, ((x.1, y, z), sym (eqb-true tag 2 e2)))))
    (λ n2. let three_is : 3 ≡ tag = omega (arith, eqb-false tag 0 n0, eqb-false tag 1 n1, eqb-false tag 2 n2, in_range.1) in
    two_takes (four_in 0 1000000) (byte_in 0 5) entries.Remove four (IsWithin 0 1000000) single (IsWithin 0 5) entry_fields (IsTagged tag) (four_takes 0 1000000) (byte_takes 0 5)
    (λ a b x y. (refl, ((x.1, y.1), three_is))))))

pub entry_takes : Takes entry_spelling IsValidEntry entry_at
unfolding entry_at
entry_takes = tagged_takes entry_tag entry_spelling entry_fields IsValidEntry (IsWithin 0 3) (byte_in 0 3) entry_of entry_tagged (byte_takes 0 3) entry_of_takes

entry_of_reads : (e : Entry) → IsValidEntry e → Reads Short e (entry_fields e) (entry_of (entry_tag e))
unfolding entry_of
entry_of_reads entries.Nothing valid = give_reads Short entries.Nothing
entry_of_reads (entries.Cut window round) valid = two_reads Short (four_in 0 1000000) (two_in 0 1023) entries.Cut window round (four window) (two round) (window_reads window valid.0) (two_reads_in 0 1023 round (omega arith) (omega (arith, valid.1)) (omega arith))
entry_of_reads (entries.Table after rounds rows) valid = three_reads Short (four_in 0 1000000) (two_in 1 1024) table_at entries.Table after rounds rows (four after) (two rounds) (counted_rows rows) (window_reads after valid.0) (two_reads_in 1 1024 rounds valid.1.0 valid.1.1 (omega arith)) (table_reads rows valid.2)
entry_of_reads (entries.Remove window shard) valid = two_reads Short (four_in 0 1000000) (byte_in 0 5) entries.Remove window shard (four window) (single shard) (window_reads window valid.0) (byte_reads 0 5 shard (omega arith) valid.1 (omega arith))

pub entry_reads : (e : Entry) → IsValidEntry e → Reads Short e (entry_spelling e) entry_at
unfolding entry_at
entry_reads e valid =
    subst (λ (t : List ℕ). Reads Short e t (λ bytes at. byte_in 0 3 bytes at >>= λ tag. entry_of tag.0 bytes tag.1)) (sym (entry_tagged e))
    (then_reads Short (byte_in 0 3) entry_of (entry_tag e) e (single (entry_tag e)) (entry_fields e) (byte_reads 0 3 (entry_tag e) (omega arith) (entry_tag_in e) (omega arith)) (entry_of_reads e valid))
