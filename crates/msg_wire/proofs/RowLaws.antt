-- The rows of a table, read one after the other as a loop does.
use Rattle.std.proofs.Common.{◌≡◌, ℕ, zero, suc, ◌+◌, ◌-◌, ◌^◌, ◌<◌, ◌≤◌, Bool, true, false, cond, not, ◌&&◌, ◌||◌, eqb, List, [], ◌∷◌, ◌++◌, length, Result, Ok, Err, refl, sym, ap, subst, ◌∙◌, append_assoc, arith}
use Rattle.std.specs.List.{list_all}
use Rattle.std.proofs.lemmas.Bool.Decides.{nat_tests}
use Rattle.std.proofs.lemmas.List.{append-nil}
use Rattle.quota_table.specs.Rows.{has_shard, is_row, is_distinct, IsTable}
use Rattle.record_codec.specs.Entries.{rows_spelling}
use Rattle.record_codec.specs.Reading.{Reader, ◌>>=◌}
use Rattle.record_codec.proofs.Reading.{IsBytes, bind_ok, guard_ok, ok_is, Took, Took_then, Takes, Reads, single, then_reads, give_reads, two_takes, two_reads}
use Rattle.msg_wire.specs.declared.errors.WireError.{WireError}
use Rattle.msg_wire.specs.declared.errors.WireError.TheVariants.{Short, BadKind, BadField, Trailing, OutOfMemory}
use Rattle.msg_wire.specs.Names.{Row}
use Rattle.msg_wire.specs.Decoding.{byte_in, fresh_at, row_at, rows_at, table_at, Fails}
use Rattle.msg_wire.proofs.PartLaws.{IsWithin, byte_takes, byte_reads}

-- ---- the loop

pub fails_then : {A B : Type 0} (e : WireError) (r : Result A WireError) (f : A → Result B WireError) → Fails e r → Fails e (r >>= f)
fails_then Short r f h = ap (λ x. x >>= f) h
fails_then (BadKind at) r f h = ap (λ x. x >>= f) h
fails_then (BadField at) r f h = ap (λ x. x >>= f) h
fails_then (Trailing at) r f h = ap (λ x. x >>= f) h
fails_then OutOfMemory r f h = tt

rows_step : (count i : ℕ) (rows : List Row) (bytes : List ℕ) (at : ℕ) → i < count
    → rows_at (count - i) rows bytes at ≡ (row_at rows bytes at >>= λ row. rows_at (count - (i + 1)) (rows ++ row.0 ∷ []) bytes row.1)
unfolding rows_at
rows_step count i rows bytes at lt =
    let k : count - i ≡ suc (count - (i + 1)) = omega arith in
    rw k refl

pub rows_goes_on : (count i : ℕ) (rows : List Row) (bytes : List ℕ) (at : ℕ) (row : Row) (after : ℕ) (total : Result (List Row × ℕ) WireError) → i < count
    → row_at rows bytes at ≡ Ok (row, after) → rows_at (count - i) rows bytes at ≡ total → rows_at (count - (i + 1)) (rows ++ row ∷ []) bytes after ≡ total
rows_goes_on count i rows bytes at row after total lt h so_far =
    sym (ap (λ x. x >>= λ row. rows_at (count - (i + 1)) (rows ++ row.0 ∷ []) bytes row.1) h) ∙ sym (rows_step count i rows bytes at lt) ∙ so_far

pub rows_fail : (e : WireError) (count i : ℕ) (rows : List Row) (bytes : List ℕ) (at : ℕ) (total : Result (List Row × ℕ) WireError) → i < count
    → Fails e (row_at rows bytes at) → rows_at (count - i) rows bytes at ≡ total → Fails e total
rows_fail e count i rows bytes at total lt h so_far =
    subst (Fails e) (sym (rows_step count i rows bytes at lt) ∙ so_far) (fails_then e (row_at rows bytes at) (λ row. rows_at (count - (i + 1)) (rows ++ row.0 ∷ []) bytes row.1) h)

pub rows_done : (count i : ℕ) (rows : List Row) (bytes : List ℕ) (at : ℕ) (total : Result (List Row × ℕ) WireError) → count ≤ i
    → rows_at (count - i) rows bytes at ≡ total → total ≡ Ok (rows, at)
unfolding rows_at
rows_done count i rows bytes at total le so_far =
    let k : count - i ≡ 0 = omega arith in
    let now : rows_at (count - i) rows bytes at ≡ Ok (rows, at) = rw k refl in
    sym so_far ∙ now

-- ---- distinct shards

or_false : (a b : Bool) → (a || b) ≡ false → (a ≡ false) × (b ≡ false)
or_false true b e = absurd cc
or_false false b e = (refl, e)

and_true : (a b : Bool) → (a && b) ≡ true → (a ≡ true) × (b ≡ true)
and_true true b e = (refl, e)
and_true false b e = absurd cc

has_pushed : (s : ℕ) (rows : List Row) (row : Row) → has_shard s rows ≡ false → eqb row.shard s ≡ false → has_shard s (rows ++ row ∷ []) ≡ false
has_pushed s [] row e f = rw f refl
has_pushed s (r ∷ rows) row e f =
    let h = or_false (eqb r.shard s) (has_shard s rows) e in
    rw (h.0) (has_pushed s rows row h.1 f)

not_false : (a : Bool) → not a ≡ true → a ≡ false
not_false true e = absurd cc
not_false false e = refl

eqb_turned : (a b : ℕ) → eqb a b ≡ false → eqb b a ≡ false
eqb_turned a b e = grind (arith, nat_tests)

pub distinct_pushed : (rows : List Row) (row : Row) → is_distinct rows ≡ true → has_shard row.shard rows ≡ false → is_distinct (rows ++ row ∷ []) ≡ true
distinct_pushed [] row e f = refl
distinct_pushed (r ∷ rows) row e f =
    let d = and_true (not (has_shard r.shard rows)) (is_distinct rows) e in
    let h = or_false (eqb r.shard row.shard) (has_shard row.shard rows) f in
    let fresh : has_shard r.shard (rows ++ row ∷ []) ≡ false = has_pushed r.shard rows row (not_false (has_shard r.shard rows) d.0) (eqb_turned r.shard row.shard h.0) in
    rw fresh (distinct_pushed rows row d.1 h.1)

has_middle : (s : ℕ) (rows : List Row) (row : Row) (more : List Row) → has_shard s (rows ++ row ∷ more) ≡ false → eqb row.shard s ≡ false
has_middle s [] row more e = (or_false (eqb row.shard s) (has_shard s more) e).0
has_middle s (r ∷ rows) row more e = has_middle s rows row more (or_false (eqb r.shard s) (has_shard s (rows ++ row ∷ more)) e).1

distinct_fresh : (rows : List Row) (row : Row) (more : List Row) → is_distinct (rows ++ row ∷ more) ≡ true → has_shard row.shard rows ≡ false
distinct_fresh [] row more e = refl
distinct_fresh (r ∷ rows) row more e =
    let d = and_true (not (has_shard r.shard (rows ++ row ∷ more))) (is_distinct (rows ++ row ∷ more)) e in
    let apart : eqb r.shard row.shard ≡ false = eqb_turned row.shard r.shard (has_middle r.shard rows row more (not_false (has_shard r.shard (rows ++ row ∷ more)) d.0)) in
    rw apart (distinct_fresh rows row more d.1)

-- ---- what is read is spelled so

fresh_takes : (earlier : List Row) → Takes single (λ s. (s ≤ 5) × (has_shard s earlier ≡ false)) (fresh_at earlier)
unfolding fresh_at
fresh_takes earlier = record {
  took = λ bytes at x fits e.
      let b = bind_ok (byte_in 0 5 bytes at) (λ shard. cond (has_shard shard.0 earlier) (Err (BadField at)) (Ok shard)) x e in
      let t = (byte_takes 0 5).took bytes at b.0 fits b.1 in
      let g = guard_ok (has_shard b.0.0 earlier) (BadField at) b.0 x b.2 in
      subst (λ (y : ℕ × ℕ). Took bytes at (single y.0) y.1 × ((y.0 ≤ 5) × (has_shard y.0 earlier ≡ false))) g.1 (t.0, (t.1.1, g.0));
}

abbrev row_spelling : Row → List ℕ
row_spelling row = row.shard ∷ row.quota ∷ []

abbrev IsFresh : List Row → Row → Type 0
IsFresh earlier row = (is_row row ≡ true) × (has_shard row.shard earlier ≡ false)

is_a_row : (row : Row) → row.shard ≤ 5 → 1 ≤ row.quota → row.quota ≤ 64 → is_row row ≡ true
is_a_row row a b c = grind (arith, nat_tests)

row_is : (row : Row) → is_row row ≡ true → (row.shard ≤ 5) × (1 ≤ row.quota) × (row.quota ≤ 64)
row_is row e = grind (arith, nat_tests)

row_takes : (earlier : List Row) → Takes row_spelling (IsFresh earlier) (row_at earlier)
unfolding row_at
row_takes earlier =
    two_takes (fresh_at earlier) (byte_in 1 64) (λ shard quota. record { shard = shard; quota = quota }) single (λ s. (s ≤ 5) × (has_shard s earlier ≡ false)) single (IsWithin 1 64) row_spelling (IsFresh earlier) (fresh_takes earlier) (byte_takes 1 64)
    (λ a b x y. (refl, (is_a_row (record { shard = a; quota = b }) x.0 y.0 y.1, x.1)))

record AreRead (bytes : List ℕ) (at : ℕ) (earlier : List Row) (count : ℕ) (x : List Row × ℕ) : Type 0 where
  more : List Row
  text : Took bytes at (rows_spelling more) x.1
  all : x.0 ≡ earlier ++ more
  size : length more ≡ count
  rows : list_all is_row more ≡ true
  distinct : is_distinct x.0 ≡ true

rows_took : (count : ℕ) (earlier : List Row) (bytes : List ℕ) (at : ℕ) (x : List Row × ℕ) → IsBytes bytes → is_distinct earlier ≡ true
    → rows_at count earlier bytes at ≡ Ok x → AreRead bytes at earlier count x
unfolding rows_at
rows_took zero earlier bytes at x fits d e =
    subst (AreRead bytes at earlier 0) (ok_is WireError (earlier, at) x e) (record { more = []; text = record { parts = refl; place = omega arith }; all = sym (append-nil earlier); size = refl; rows = refl; distinct = d })
rows_took (suc count) earlier bytes at x fits d e =
    let r = bind_ok (row_at earlier bytes at) (λ row. rows_at count (earlier ++ row.0 ∷ []) bytes row.1) x e in
    let t = (row_takes earlier).took bytes at r.0 fits r.1 in
    let o = rows_took count (earlier ++ r.0.0 ∷ []) bytes r.0.1 x fits (distinct_pushed earlier r.0.0 d t.1.1) r.2 in
    record {
      more = r.0.0 ∷ o.more;
      text = Took_then bytes at r.0.1 x.1 (row_spelling r.0.0) (rows_spelling o.more) t.0 o.text;
      all = o.all ∙ append_assoc earlier (r.0.0 ∷ []) o.more;
      size = ap suc o.size;
      rows = rw t.1.0 o.rows;
      distinct = o.distinct;
    }

abbrev pub counted_rows : List Row → List ℕ
counted_rows rows = length rows ∷ rows_spelling rows

pub rows_make_a_table : (count : ℕ) (bytes : List ℕ) (at : ℕ) (x : List Row × ℕ) → IsBytes bytes → 1 ≤ count → count ≤ 6 → rows_at count [] bytes at ≡ Ok x
    → IsTable x.0
rows_make_a_table count bytes at x fits some few e =
    let r = rows_took count [] bytes at x fits refl e in
    record {
      some = omega (arith, ap length r.all, r.size);
      few = omega (arith, ap length r.all, r.size);
      within = rw r.all r.rows;
      distinct = r.distinct;
    }

pub table_takes : Takes counted_rows IsTable table_at
unfolding table_at
table_takes = record {
  took = λ bytes at x fits e.
      let n = bind_ok (byte_in 1 6 bytes at) (λ count. rows_at count.0 [] bytes count.1) x e in
      let t = (byte_takes 1 6).took bytes at n.0 fits n.1 in
      let r = rows_took n.0.0 [] bytes n.0.1 x fits refl n.2 in
      let both = Took_then bytes at n.0.1 x.1 (single n.0.0) (rows_spelling r.more) t.0 r.text in
      let counted : Took bytes at (counted_rows r.more) x.1 = subst (λ (k : ℕ). Took bytes at (k ∷ rows_spelling r.more) x.1) (sym r.size) both in
      (subst (λ (rows : List Row). Took bytes at (counted_rows rows) x.1) (sym r.all) counted, rows_make_a_table n.0.0 bytes n.0.1 x fits t.1.0 t.1.1 n.2);
}

-- ---- what is spelled so is read

fresh_reads : (earlier : List Row) (s : ℕ) → s ≤ 5 → has_shard s earlier ≡ false → Reads Short s (single s) (fresh_at earlier)
unfolding fresh_at
fresh_reads earlier s le fresh =
    let p = byte_reads 0 5 s (omega arith) le (omega arith) in
    record {
      again = λ bytes at rest e. rw (p.again bytes at rest e, fresh) refl;
      cut = λ bytes at more e some. rw (p.cut bytes at more e some) refl;
    }

row_reads : (earlier : List Row) (row : Row) → is_row row ≡ true → has_shard row.shard earlier ≡ false → Reads Short row (row_spelling row) (row_at earlier)
unfolding row_at
row_reads earlier row e fresh =
    let b = row_is row e in
    two_reads Short (fresh_at earlier) (byte_in 1 64) (λ shard quota. record { shard = shard; quota = quota }) row.shard row.quota (single row.shard) (single row.quota) (fresh_reads earlier row.shard b.0 fresh) (byte_reads 1 64 row.quota b.1 b.2 (omega arith))

rows_read : (earlier more : List Row) → list_all is_row more ≡ true → is_distinct (earlier ++ more) ≡ true
    → Reads Short (earlier ++ more) (rows_spelling more) (rows_at (length more) earlier)
unfolding rows_at
rows_read earlier [] rows d = subst (λ (all : List Row). Reads Short all [] (rows_at 0 earlier)) (sym (append-nil earlier)) (give_reads Short earlier)
rows_read earlier (row ∷ more) rows d =
    let r = and_true (is_row row) (list_all is_row more) rows in
    let regrouped : (earlier ++ row ∷ []) ++ more ≡ earlier ++ row ∷ more = append_assoc earlier (row ∷ []) more in
    let rest = rows_read (earlier ++ row ∷ []) more r.1 (ap is_distinct regrouped ∙ d) in
    subst (λ (all : List Row). Reads Short all (row_spelling row ++ rows_spelling more) (rows_at (suc (length more)) earlier)) regrouped
    (then_reads Short (row_at earlier) (λ first. rows_at (length more) (earlier ++ first ∷ [])) row ((earlier ++ row ∷ []) ++ more) (row_spelling row) (rows_spelling more) (row_reads earlier row r.0 (distinct_fresh earlier row more d)) rest)

pub table_reads : (rows : List Row) → IsTable rows → Reads Short rows (counted_rows rows) table_at
unfolding table_at
table_reads rows t =
    then_reads Short (byte_in 1 6) (λ count. rows_at count []) (length rows) rows (single (length rows)) (rows_spelling rows) (byte_reads 1 6 (length rows) t.some t.few (omega arith)) (rows_read [] rows t.within t.distinct)
