-- What one consumer's entries show, gathered in order.
use Rattle.std.specs.Prelude.{ℕ, ◌+◌, Bool, false, nat_lt, if◌then◌else◌, List, [], ◌∷◌, ◌++◌, length, fold, flat_map, codes}
use Rattle.std.specs.Option.{option_map_or}
use Rattle.std.specs.Map.{lookup}
use Rattle.std.specs.BTreeMap.{insert_entry, is_at}
use Rattle.std.specs.Ordering.{nat_cmp}
use Rattle.runs.specs.Names.{Config, Record, Mark}
use Rattle.runs.specs.Names.marks
use Rattle.runs.specs.Marks.{confirmations, notices, outputs, after_mark}
use Rattle.runs.specs.Outputs.{shown_after}
use Rattle.report_text.specs.Lines.{counted, ended}
use Rattle.report_text.specs.Consumers.{undone_in, consumer_line, notice_line, out_line, state_line}

-- its marks, and what they say: for each position that was applied the place of the last mark that applied it, the positions
-- rising; how many positions it confirmed, and how many of them it had last applied in an earlier entry; its applied list,
-- and how many records were cut from it; the notices; and the lines of what went out
pub record Consumed : Type 0 where
  pub marks : List Mark
  pub applied_at : List (ℕ × ℕ)
  pub confirmed : ℕ
  pub early : ℕ
  pub log : List Record
  pub undone : ℕ
  pub notices : List ℕ
  pub out_lines : List ℕ

abbrev pub nothing_consumed : Consumed
nothing_consumed = record { marks = []; applied_at = []; confirmed = 0; early = 0; log = []; undone = 0; notices = []; out_lines = [] }

-- a position was last applied before a place
abbrev pub is_applied_before : Consumed → ℕ → ℕ → Bool
is_applied_before c start position = option_map_or (λ at. nat_lt at start) (lookup (is_at (nat_cmp position)) c.applied_at) false

-- of a mark at the end
abbrev pub applied_at_after : Consumed → Mark → List (ℕ × ℕ)
applied_at_after c (marks.Apply position rec) = insert_entry nat_cmp c.applied_at position (length c.marks)
applied_at_after c _ = c.applied_at

abbrev pub early_after : ℕ → Consumed → Mark → ℕ
early_after start c (marks.Confirm position rec) = if is_applied_before c start position then c.early + 1 else c.early
early_after start c _ = c.early

-- one mark more of the consumer of a number, in an entry whose marks begin at a place
abbrev pub with_own_mark : ℕ → ℕ → Consumed → Mark → Consumed
with_own_mark number start c mark = record {
  marks = c.marks ++ mark ∷ [];
  applied_at = applied_at_after c mark;
  confirmed = c.confirmed + length (confirmations (mark ∷ []));
  early = early_after start c mark;
  log = after_mark c.log mark;
  undone = c.undone + undone_in c.log mark;
  notices = c.notices ++ notices (mark ∷ []);
  out_lines = c.out_lines ++ flat_map (out_line number) (outputs (mark ∷ []));
}

-- the marks of one entry more
abbrev pub with_own_marks : ℕ → Consumed → List Mark → Consumed
with_own_marks number c shown = fold (with_own_mark number (length c.marks)) c shown

-- ---- as text

abbrev pub consumed_lines : Config → ℕ → Consumed → List ℕ
consumed_lines cfg number c =
    consumer_line number c.confirmed (length c.log) c.early c.undone (length c.notices)
    ++ flat_map (notice_line number) c.notices
    ++ c.out_lines
    ++ state_line number (shown_after cfg c.log)

-- the counts of a consumer: those of its lists, and the others
abbrev pub list_counts : ℕ → ℕ → ℕ → List ℕ
list_counts number confirmed applied = counted (codes "consumer k") number ++ counted (codes " confirmed ") confirmed ++ counted (codes " applied ") applied

abbrev pub other_counts : ℕ → ℕ → ℕ → List ℕ
other_counts early undone noticed = ended (counted (codes " early ") early ++ counted (codes " undone ") undone ++ counted (codes " notices ") noticed)
