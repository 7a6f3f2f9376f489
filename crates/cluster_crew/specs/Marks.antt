-- The counts of a consumer's marks.
use Rattle.std.specs.Prelude.{◌+◌, List, [], ◌∷◌}
use Rattle.view_cell.specs.declared.look.Look.{Look}
use Rattle.net_model.specs.declared.journal.Stamped.{Stamped}
use Rattle.net_model.specs.Names.{Mark}
use Rattle.msg_wire.specs.declared.mark.Mark.TheVariants as marks
use Rattle.cluster_crew.specs.declared.marks.Counts.{Counts}

abbrev pub no_marks : Counts
no_marks = record { ops = 0; epoch = 0 }

-- one more, which tells of a cluster that changed, or doesn't
abbrev pub with_notice : Counts → Counts
with_notice c = record { ops = c.ops + 1; epoch = c.epoch + 1 }

abbrev pub with_other : Counts → Counts
with_other c = record { ops = c.ops + 1; epoch = c.epoch }

abbrev pub with_mark : Counts → Mark → Counts
with_mark c (marks.Notice first) = with_notice c
with_mark c (marks.Apply position rec) = with_other c
with_mark c (marks.Undo first) = with_other c
with_mark c (marks.Confirm position rec) = with_other c
with_mark c (marks.Out bytes) = with_other c
with_mark c (marks.Promise position rec) = with_other c
with_mark c (marks.Ack number position) = with_other c

abbrev pub with_marks : Counts → List Mark → Counts
with_marks c [] = c
with_marks c (m ∷ ms) = with_marks (with_mark c m) ms

-- with the marks of steps
abbrev pub with_steps : Counts → List Stamped → Counts
with_steps c [] = c
with_steps c (x ∷ steps) = with_steps (with_marks c x.entry.marks) steps

-- those that a look tells
abbrev pub counts_in : Look → Counts
counts_in look = record { ops = look.ops; epoch = look.epoch }
