-- Rows that grow by a column at a time have, at each place, what the columns have there.
use Rattle.std.proofs.Common.{◌≡◌, ℕ, zero, suc, ◌+◌, ◌<◌, List, [], ◌∷◌, ◌++◌, length, map, replicate, get_or, length-append, Option, Some, None, refl, sym, ap, ◌∙◌, subst, arith}
use Rattle.std.specs.List.{AllByRecursion, slice_get}
use Rattle.std.specs.Prelude.{slice_set}
use Rattle.std.specs.Option.{option_map}
use Rattle.std.proofs.lemmas.List.{map-set, length-map}
use Rattle.std.proofs.lemmas.Option.{slice_get-map, slice_get-get_or}
use Rattle.node_links.specs.declared.frame.Frame.{Frame}
use Rattle.node_links.specs.Links.{LinkName, Sending, Receiving}
use Rattle.link_rows.specs.Rows.{entry_at, names_of_outs, names_of_ins, IsGrid, AreLinked, IsUnread, OfEach, with_column, with_columns, other_end}

-- one more entry of a column goes to the row that is next
pub column_more : {X : Type 0} → (rows : List (List X)) (xs : List X) (x : X) (row : List X) → slice_get rows (length xs) ≡ Some row
    → slice_set (with_column rows xs) (length xs) (row ++ x ∷ []) ≡ with_column rows (xs ++ x ∷ [])
column_more [] [] x row e = absurd (cc)
column_more [] (y ∷ ys) x row e = absurd (cc)
column_more (r ∷ rows) [] x row e = let same : r ≡ row = cc in ap (λ (z : List _). (z ++ x ∷ []) ∷ rows) (sym same)
column_more (r ∷ rows) (y ∷ ys) x row e = ap (λ zs. (r ++ y ∷ []) ∷ zs) (column_more rows ys x row e)

-- the row that is next has no entry of the column yet
pub column_next : {X : Type 0} → (rows : List (List X)) (xs : List X) → slice_get (with_column rows xs) (length xs) ≡ slice_get rows (length xs)
column_next [] [] = refl
column_next [] (y ∷ ys) = refl
column_next (r ∷ rows) [] = refl
column_next (r ∷ rows) (y ∷ ys) = column_next rows ys

-- a row that grew, put back in its place
pub put_next : {V X : Type 0} → (f : V → List X) (before now : List V) (row row' : V) (xs : List X) (x : X) (to : ℕ) → length xs ≡ to → to < length now
    → row ≡ get_or now to row → map f now ≡ with_column (map f before) xs → f row' ≡ f row ++ x ∷ []
    → map f (slice_set now to row') ≡ with_column (map f before) (xs ++ x ∷ [])
put_next f before now row row' xs x to size within read column end =
    let there : slice_get now to ≡ Some row = slice_get-get_or now to row within ∙ ap (λ r. Some r) (sym read) in
    let placed : slice_get (with_column (map f before) xs) (length xs) ≡ Some (f row) =
    ap (λ rows. slice_get rows (length xs)) (sym column) ∙ slice_get-map f now (length xs)
    ∙ ap (λ n. option_map f (slice_get now n)) size ∙ ap (option_map f) there in
    map-set f now to row' ∙ ap (slice_set (map f now) to) end
    ∙ ap (λ n. slice_set (map f now) n (f row ++ x ∷ [])) (sym size)
    ∙ ap (λ rows. slice_set rows (length xs) (f row ++ x ∷ [])) column
    ∙ column_more (map f before) xs x (f row) (sym (column_next (map f before) xs) ∙ placed)

pub columns_more : {X : Type 0} → (rows columns : List (List X)) (column : List X)
    → with_columns rows (columns ++ column ∷ []) ≡ with_column (with_columns rows columns) column
columns_more rows [] column = refl
columns_more rows (c ∷ columns) column = columns_more (with_column rows c) columns column

-- ---- what stands at a place

get_front : {X : Type 0} → (xs : List X) (x : X) (j : ℕ) → j < length xs → slice_get (xs ++ x ∷ []) j ≡ slice_get xs j
get_front [] x j below = absurd (omega (arith, below))
get_front (y ∷ ys) x zero below = refl
get_front (y ∷ ys) x (suc j) below = get_front ys x j (omega (arith, below))

get_last : {X : Type 0} → (xs : List X) (x : X) → slice_get (xs ++ x ∷ []) (length xs) ≡ Some x
get_last [] x = refl
get_last (y ∷ ys) x = get_last ys x

-- the grid below the first row
rest_of : {X : Type 0} → (height width : ℕ) (row : List X) (rows : List (List X)) → IsGrid (suc height) width (row ∷ rows) → IsGrid height width rows
rest_of height width row rows grid = record { height_is = omega (arith, grid.height_is); width_is = grid.width_is.1 }

wider : {X : Type 0} → (row : List X) (x : X) (width : ℕ) → length row ≡ width → length (row ++ x ∷ []) ≡ width + 1
wider row x width size = omega (arith, size, length-append row (x ∷ []))

pub each_snoc : {X : Type 0} → (P : X → Type 0) (xs : List X) (x : X) → AllByRecursion P xs → P x → AllByRecursion P (xs ++ x ∷ [])
each_snoc P [] x each one = (one, tt)
each_snoc P (y ∷ ys) x each one = (each.0, each_snoc P ys x each.1 one)

-- all rows of one width, a column as long as there are rows: the rows have one entry more
pub column_widens : {X : Type 0} → (height width : ℕ) (rows : List (List X)) (xs : List X) → length xs ≡ height → IsGrid height width rows
    → IsGrid height (width + 1) (with_column rows xs)
column_widens zero width [] [] size grid = record { height_is = refl; width_is = tt }
column_widens zero width [] (x ∷ xs) size grid = absurd (omega (arith, size))
column_widens zero width (row ∷ rows) xs size grid = absurd (omega (arith, grid.height_is))
column_widens (suc height) width [] xs size grid = absurd (omega (arith, grid.height_is))
column_widens (suc height) width (row ∷ rows) [] size grid = absurd (omega (arith, size))
column_widens (suc height) width (row ∷ rows) (x ∷ xs) size grid =
    let rest = rest_of height width row rows grid in
    let later : IsGrid height (width + 1) (with_column rows xs) = column_widens height width rows xs (omega (arith, size)) rest in
    record { height_is = omega (arith, later.height_is); width_is = (wider row x width grid.width_is.0, later.width_is) }

-- what stood in the rows stands there
pub column_before : {X : Type 0} → (height width : ℕ) (rows : List (List X)) (xs : List X) (i j : ℕ) → length xs ≡ height → IsGrid height width rows → j < width
    → entry_at (with_column rows xs) i j ≡ entry_at rows i j
column_before zero width [] [] i j size grid below = refl
column_before zero width [] (x ∷ xs) i j size grid below = absurd (omega (arith, size))
column_before zero width (row ∷ rows) xs i j size grid below = absurd (omega (arith, grid.height_is))
column_before (suc height) width [] xs i j size grid below = absurd (omega (arith, grid.height_is))
column_before (suc height) width (row ∷ rows) [] i j size grid below = absurd (omega (arith, size))
column_before (suc height) width (row ∷ rows) (x ∷ xs) zero j size grid below = get_front row x j (omega (arith, below, grid.width_is.0))
column_before (suc height) width (row ∷ rows) (x ∷ xs) (suc i) j size grid below =
    column_before height width rows xs i j (omega (arith, size)) (rest_of height width row rows grid) below

-- and behind it the column
pub column_there : {X : Type 0} → (height width : ℕ) (rows : List (List X)) (xs : List X) (i : ℕ) → length xs ≡ height → IsGrid height width rows
    → entry_at (with_column rows xs) i width ≡ slice_get xs i
column_there zero width [] [] i size grid = refl
column_there zero width [] (x ∷ xs) i size grid = absurd (omega (arith, size))
column_there zero width (row ∷ rows) xs i size grid = absurd (omega (arith, grid.height_is))
column_there (suc height) width [] xs i size grid = absurd (omega (arith, grid.height_is))
column_there (suc height) width (row ∷ rows) [] i size grid = absurd (omega (arith, size))
column_there (suc height) width (row ∷ rows) (x ∷ xs) zero size grid =
    let at : width ≡ length row = omega (arith, grid.width_is.0) in ap (slice_get (row ++ x ∷ [])) at ∙ get_last row x
column_there (suc height) width (row ∷ rows) (x ∷ xs) (suc i) size grid =
    column_there height width rows xs i (omega (arith, size)) (rest_of height width row rows grid)

-- what holds of each entry holds of each in rows with a column more
pub column_each : {X : Type 0} → (P : X → Type 0) (rows : List (List X)) (xs : List X) → OfEach P rows → AllByRecursion P xs → OfEach P (with_column rows xs)
column_each P rows [] each more = each
column_each P [] (x ∷ xs) each more = tt
column_each P (row ∷ rows) (x ∷ xs) each more = (each_snoc P row x each.0 more.0, column_each P rows xs each.1 more.1)

pub grid_snoc : {X : Type 0} → (height width : ℕ) (rows : List (List X)) (row : List X) → IsGrid height width rows → length row ≡ width
    → IsGrid (height + 1) width (rows ++ row ∷ [])
grid_snoc height width rows row grid size = record {
  height_is = omega (arith, grid.height_is, length-append rows (row ∷ []));
  width_is = each_snoc (λ (row : List _). length row ≡ width) rows row grid.width_is size;
}

-- ---- column after column

-- columns of one height: the rows are so wide
pub columns_widen : {X : Type 0} → (height width count : ℕ) (rows columns : List (List X)) → IsGrid height width rows → IsGrid count height columns
    → IsGrid height (width + count) (with_columns rows columns)
columns_widen height width zero rows [] grid grid' = let at : width ≡ width + 0 = omega arith in subst (λ n. IsGrid height n rows) at grid
columns_widen height width zero rows (c ∷ columns) grid grid' = absurd (omega (arith, grid'.height_is))
columns_widen height width (suc count) rows [] grid grid' = absurd (omega (arith, grid'.height_is))
columns_widen height width (suc count) rows (c ∷ columns) grid grid' =
    let wide = column_widens height width rows c grid'.width_is.0 grid in
    let later = columns_widen height (width + 1) count (with_column rows c) columns wide (rest_of count height c columns grid') in
    let at : width + 1 + count ≡ width + suc count = omega arith in
    subst (λ n. IsGrid height n (with_columns rows (c ∷ columns))) at later

pub columns_before : {X : Type 0} → (height width count : ℕ) (rows columns : List (List X)) (i j : ℕ) → IsGrid height width rows
    → IsGrid count height columns → j < width → entry_at (with_columns rows columns) i j ≡ entry_at rows i j
columns_before height width count rows [] i j grid grid' below = refl
columns_before height width zero rows (c ∷ columns) i j grid grid' below = absurd (omega (arith, grid'.height_is))
columns_before height width (suc count) rows (c ∷ columns) i j grid grid' below =
    let wide = column_widens height width rows c grid'.width_is.0 grid in
    columns_before height (width + 1) count (with_column rows c) columns i j wide (rest_of count height c columns grid') (omega (arith, below))
    ∙ column_before height width rows c i j grid'.width_is.0 grid below

-- at a place behind the rows stands what the columns have there
pub columns_there : {X : Type 0} → (height width count : ℕ) (rows columns : List (List X)) (i j : ℕ) → IsGrid height width rows
    → IsGrid count height columns → j < count → entry_at (with_columns rows columns) i (width + j) ≡ entry_at columns j i
columns_there height width zero rows columns i j grid grid' below = absurd (omega (arith, below))
columns_there height width (suc count) rows [] i j grid grid' below = absurd (omega (arith, grid'.height_is))
columns_there height width (suc count) rows (c ∷ columns) i zero grid grid' below =
    let wide = column_widens height width rows c grid'.width_is.0 grid in
    let at : width + 0 ≡ width = omega arith in
    ap (entry_at (with_columns rows (c ∷ columns)) i) at
    ∙ columns_before height (width + 1) count (with_column rows c) columns i width wide (rest_of count height c columns grid') (omega arith)
    ∙ column_there height width rows c i grid'.width_is.0 grid
columns_there height width (suc count) rows (c ∷ columns) i (suc j) grid grid' below =
    let wide = column_widens height width rows c grid'.width_is.0 grid in
    let at : width + suc j ≡ width + 1 + j = omega arith in
    ap (entry_at (with_columns rows (c ∷ columns)) i) at
    ∙ columns_there height (width + 1) count (with_column rows c) columns i j wide (rest_of count height c columns grid') (omega (arith, below))

pub columns_each : {X : Type 0} → (P : X → Type 0) (rows columns : List (List X)) → OfEach P rows → OfEach P columns → OfEach P (with_columns rows columns)
columns_each P rows [] each more = each
columns_each P rows (c ∷ columns) each more = columns_each P (with_column rows c) columns (column_each P rows c each more.0) more.1

-- ---- no row has an entry

pub empty_grid : {X : Type 0} → (n : ℕ) → IsGrid {X = X} n 0 (replicate n [])
empty_grid zero = record { height_is = refl; width_is = tt }
empty_grid {X} (suc n) =
    let later : IsGrid {X = X} n 0 (replicate n []) = empty_grid n in
    record { height_is = omega (arith, later.height_is); width_is = (refl, later.width_is) }

pub empty_each : {X : Type 0} → (P : X → Type 0) (n : ℕ) → OfEach P (replicate n [])
empty_each P zero = tt
empty_each P (suc n) = (tt, empty_each P n)

-- ---- rows of links

other_unread : (outs : List Sending) → AllByRecursion IsUnread (map other_end outs)
other_unread [] = tt
other_unread (o ∷ outs) = ((refl, refl), other_unread outs)

others_unread : (rows : List (List Sending)) → OfEach IsUnread (map (map other_end) rows)
others_unread [] = tt
others_unread (row ∷ rows) = (other_unread row, others_unread rows)

widths_map : {X Y : Type 0} → (f : X → Y) (width : ℕ) (rows : List (List X)) → AllByRecursion (λ (row : List X). length row ≡ width) rows
    → AllByRecursion (λ (row : List Y). length row ≡ width) (map (map f) rows)
widths_map f width [] each = tt
widths_map f width (row ∷ rows) each = (length-map row f ∙ each.0, widths_map f width rows each.1)

pub grid_map : {X Y : Type 0} → (f : X → Y) (height width : ℕ) (rows : List (List X)) → IsGrid height width rows → IsGrid height width (map (map f) rows)
grid_map f height width rows grid =
    record { height_is = length-map rows (map f) ∙ grid.height_is; width_is = widths_map f width rows grid.width_is }

entry_map : {X Y : Type 0} → (f : X → Y) (rows : List (List X)) (i j : ℕ) → entry_at (map (map f) rows) i j ≡ option_map f (entry_at rows i j)
entry_map f [] i j = refl
entry_map f (row ∷ rows) zero j = slice_get-map f row j
entry_map f (row ∷ rows) (suc i) j = entry_map f rows i j

same_name : (o : Option Sending) → option_map (λ (i : Receiving). i.link) (option_map other_end o) ≡ option_map (λ (o : Sending). o.link) o
same_name None = refl
same_name (Some o) = refl

abbrev is_end : LinkName → List Frame → List Frame → Receiving
is_end name received waiting = record { link = name; received = received; waiting = waiting }

-- the two ends of a new link
pub fresh_other : (o : Sending) (i : Receiving) → o.link ≡ i.link → i.received ≡ [] → i.waiting ≡ [] → i ≡ other_end o
fresh_other o i link received waiting =
    ap (λ (name : LinkName). is_end name i.received i.waiting) (sym link) ∙ ap (λ (read : List Frame). is_end o.link read i.waiting) received
    ∙ ap (λ (left : List Frame). is_end o.link [] left) waiting

pub map_twice : {X Y Z : Type 0} → (g : Y → Z) (f : X → Y) (xs : List X) → map g (map f xs) ≡ map (λ x. g (f x)) xs
map_twice g f [] = refl
map_twice g f (x ∷ xs) = ap (λ zs. g (f x) ∷ zs) (map_twice g f xs)

-- rows that began empty, and the other ends in their columns: the links of all pairs, on which nothing came
pub linked_rows : (count : ℕ) (outs : List (List Sending)) (ins : List (List Receiving)) → IsGrid count count outs
    → ins ≡ with_columns (replicate count []) (map (map other_end) outs) → AreLinked count (map names_of_outs outs) (map names_of_ins ins)
linked_rows count outs ins grid columns =
    let others : IsGrid count count (map (map other_end) outs) = grid_map other_end count count outs grid in
    let none : IsGrid count 0 (replicate count []) = empty_grid count in
    let wide : IsGrid count (0 + count) ins =
    subst (IsGrid count (0 + count)) (sym columns) (columns_widen count 0 count (replicate count []) (map (map other_end) outs) none others) in
    record {
      outs_are = grid_map (λ (o : Sending). o.link) count count outs grid;
      ins_are = grid_map (λ (i : Receiving). i.link) count count ins (subst (λ n. IsGrid count n ins) (omega arith) wide);
      linked = λ from to within_from within_to.
          let at : 0 + from ≡ from = omega arith in
          let there : entry_at ins to from ≡ entry_at (map (map other_end) outs) from to =
          ap (λ rows. entry_at rows to from) columns ∙ ap (entry_at (with_columns (replicate count []) (map (map other_end) outs)) to) (sym at)
          ∙ columns_there count 0 count (replicate count []) (map (map other_end) outs) to from none others within_from in
          entry_map (λ (i : Receiving). i.link) ins to from ∙ ap (option_map (λ (i : Receiving). i.link)) (there ∙ entry_map other_end outs from to)
          ∙ same_name (entry_at outs from to) ∙ sym (entry_map (λ (o : Sending). o.link) outs from to);
    }

pub unread_rows : (count : ℕ) (outs : List (List Sending)) → OfEach IsUnread (with_columns (replicate count []) (map (map other_end) outs))
unread_rows count outs = columns_each IsUnread (replicate count []) (map (map other_end) outs) (empty_each IsUnread count) (others_unread outs)
