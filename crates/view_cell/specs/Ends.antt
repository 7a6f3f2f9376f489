-- What contracts see of the two kinds of ends, and of a note.
use Rattle.std.specs.Prelude.{Bool, false, List, [], ◌∷◌, ◌++◌}
use Rattle.logbook.specs.Pages.{Book}
use Rattle.view_cell.specs.declared.look.Look.{Look}

-- of a publisher, and of a note
pub record Showing : Type 0 where
  pub cell : Book  -- which call of `view` it is of
  pub newest : Look  -- what was published last, or the opening look
  pub looks : List Look  -- the opening look, and those that were published, in order

-- of a reader
pub record Watching : Type 0 where
  pub cell : Book
  pub seen : List Look  -- a beginning of the looks that were published, with the opening look
  pub last : Look  -- what its last look gave
  pub met : Bool  -- whether the cell handed something out at its last look
  pub handed : List Look  -- what the cell handed to it, look for look

-- one look more was published
abbrev pub showing_next : Look → Showing → Showing
showing_next next p = record { cell = p.cell; newest = next; looks = p.looks ++ next ∷ [] }

abbrev pub opened_at : Book → Look → Showing
opened_at cell opening = record { cell = cell; newest = opening; looks = opening ∷ [] }

-- a reader that has not looked yet
abbrev pub watching_at : Book → Look → Watching
watching_at cell opening = record { cell = cell; seen = opening ∷ []; last = opening; met = false; handed = [] }
