-- The lines of each consumer.
use Rattle.std.specs.Prelude.{ℕ, ◌+◌, ◌-◌, ◌==◌, ◌&&◌, Bool, false, not, if◌then◌else◌, List, [], ◌∷◌, ◌++◌, length, flat_map, codes}
use Rattle.std.specs.List.{range_with_len, list_any}
use Rattle.net_model.specs.Pasts.{Past, marks_of, marks_at}
use Rattle.runs.specs.Names.{NodeId, Config, Record, Mark}
use Rattle.runs.specs.Names.nodes
use Rattle.runs.specs.Names.marks
use Rattle.runs.specs.Marks.{confirmations, notices, outputs, after_mark, applied_by}
use Rattle.runs.specs.Outputs.{shown_after}
use Rattle.report_text.specs.Lines.{counted, ended}

-- ---- early confirmations

abbrev pub is_apply_at : ℕ → Mark → Bool
is_apply_at position (marks.Apply at rec) = at == position
is_apply_at position _ = false

-- a position was applied in earlier steps, and not once more in this one
abbrev pub is_applied_early : List Mark → List Mark → ℕ → Bool
is_applied_early earlier here position = list_any (is_apply_at position) earlier && not (list_any (is_apply_at position) here)

abbrev pub early_in : List Mark → List Mark → Mark → ℕ
early_in earlier here (marks.Confirm position rec) = if is_applied_early earlier here position then 1 else 0
early_in earlier here _ = 0

-- of a step's marks, after those of earlier steps and those of this one so far
abbrev pub early_among : List Mark → List Mark → List Mark → ℕ
early_among earlier here [] = 0
early_among earlier here (mark ∷ later) = early_in earlier here mark + early_among earlier (here ++ mark ∷ []) later

-- how many positions a node confirmed that it had last applied in an earlier step
abbrev pub count_early : NodeId → Past → ℕ
count_early node [] = 0
count_early node (e ∷ past) = count_early node past + early_among (marks_of node past) [] (marks_at node e)

-- ---- undone records

abbrev pub undone_in : List Record → Mark → ℕ
undone_in log (marks.Undo first) = length log - first
undone_in log _ = 0

-- how many records the undos cut from an applied list
abbrev pub count_undone : List Record → List Mark → ℕ
count_undone log [] = 0
count_undone log (mark ∷ later) = undone_in log mark + count_undone (after_mark log mark) later

-- ---- lines

-- a consumer, and what it confirmed, applied, confirmed early, undid and noticed
unfoldable pub consumer_line : ℕ → ℕ → ℕ → ℕ → ℕ → ℕ → List ℕ
consumer_line number confirmed applied early undone noticed =
    ended (counted (codes "consumer k") number ++ counted (codes " confirmed ") confirmed ++ counted (codes " applied ") applied
    ++ counted (codes " early ") early ++ counted (codes " undone ") undone ++ counted (codes " notices ") noticed)

unfoldable pub notice_line : ℕ → ℕ → List ℕ
notice_line number first = ended (counted (codes "notice k") number ++ counted (codes " ") first)

-- what went out ends the line itself
unfoldable pub out_line : ℕ → List ℕ → List ℕ
out_line number bytes = counted (codes "out k") number ++ codes " " ++ bytes

unfoldable pub state_line : ℕ → List ℕ → List ℕ
state_line number text = ended (counted (codes "state k") number ++ codes " " ++ text)

-- of a consumer with these marks
abbrev pub lines_of_marks : Config → ℕ → ℕ → List Mark → List ℕ
lines_of_marks cfg number early shown =
    consumer_line number (length (confirmations shown)) (length (applied_by shown)) early (count_undone [] shown) (length (notices shown))
    ++ flat_map (notice_line number) (notices shown)
    ++ flat_map (out_line number) (outputs shown)
    ++ state_line number (shown_after cfg (applied_by shown))

abbrev pub lines_of_consumer : Config → Past → ℕ → List ℕ
lines_of_consumer cfg past number =
    lines_of_marks cfg number (count_early (nodes.Consumer number) past) (marks_of (nodes.Consumer number) past)

-- of each consumer in order
abbrev pub consumer_lines : Config → Past → List ℕ
consumer_lines cfg past = flat_map (lines_of_consumer cfg past) (range_with_len 0 cfg.consumers)
