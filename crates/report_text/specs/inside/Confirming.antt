-- What marks confirm, gathered in order: for each position the record that was confirmed first, and whether another was too.
use Rattle.std.specs.Prelude.{ℕ, Bool, true, false, ◌||◌, if◌then◌else◌, List, fold, flat_map, count_by, Option, Some, None}
use Rattle.std.specs.Map.{lookup}
use Rattle.std.specs.BTreeMap.{insert_entry, is_at}
use Rattle.std.specs.Ordering.{nat_cmp}
use Rattle.runs.specs.Names.{Record, Mark}
use Rattle.runs.specs.Names.marks
use Rattle.report_text.specs.Positions.{same_record, log_line}

abbrev pub Confirmed : Type 0
Confirmed = List (ℕ × (Record × Bool))

-- at a position with this so far
abbrev pub with_known : Option (Record × Bool) → Confirmed → ℕ → Record → Confirmed
with_known None confirmed position rec = insert_entry nat_cmp confirmed position (rec, false)
with_known (Some known) confirmed position rec =
    if known.1 || same_record known.0 rec then confirmed else insert_entry nat_cmp confirmed position (known.0, true)

abbrev pub with_confirmed : Confirmed → ℕ → Record → Confirmed
with_confirmed confirmed position rec = with_known (lookup (is_at (nat_cmp position)) confirmed) confirmed position rec

abbrev pub with_mark : Confirmed → Mark → Confirmed
with_mark confirmed (marks.Confirm position rec) = with_confirmed confirmed position rec
with_mark confirmed _ = confirmed

abbrev pub with_marks : Confirmed → List Mark → Confirmed
with_marks confirmed shown = fold with_mark confirmed shown

-- ---- as text

abbrev pub confirmed_lines : Confirmed → List ℕ
confirmed_lines = flat_map (λ e. log_line e.0 e.1.0)

-- how many positions have two records
abbrev pub differing : Confirmed → ℕ
differing = count_by (λ e. e.1.1)
