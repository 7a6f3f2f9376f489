-- How what is gathered of a consumer is seen.
use Rattle.std.specs.Prelude.{◌+◌, ◌≤◌, map, length}
use Rattle.report_text.specs.declared.consumers.ConsumerMarks.TheInside.{Inside}
use Rattle.report_text.specs.inside.Consuming.{Consumed}

abbrev pub consumed_of : Inside → Consumed
consumed_of c = record {
  marks = map (λ m. m.now) c.marks.items;
  applied_at = c.applied_at;
  confirmed = c.confirmed;
  early = c.early;
  log = map (λ r. r.now) c.log.items;
  undone = c.undone;
  notices = c.notices.items;
  out_lines = c.out_lines;
}

-- no count is above that of the marks
pub record AreWithinMarks (c : Inside) : Type 0 where
  pub confirmed : c.confirmed ≤ length c.marks.items
  pub early : c.early ≤ length c.marks.items
  pub undone : c.undone + length c.log.items ≤ length c.marks.items
