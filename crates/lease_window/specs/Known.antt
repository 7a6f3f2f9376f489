-- The known entries, and what they agree on.
use Rattle.std.specs.Prelude.{List, [], ◌∷◌, ◌++◌}
use Rattle.quota_table.specs.declared.entry.Entry.{Entry}
use Rattle.fix_ante.specs.Windows.{Window}
use Rattle.cut_core.specs.Agreements.{Agreement}
use Rattle.cut_core.specs.Fold.{fold_of}

-- the first window, and the agreed entries that are known, from slot 0 on
pub record KnownEntries : Type 0 where
  pub first : Window
  pub entries : List Entry

-- nothing but the first window is known
abbrev pub known_from : Window → KnownEntries
known_from first = record { first = first; entries = [] }

-- one entry more is known
abbrev pub with_entry : Entry → KnownEntries → KnownEntries
with_entry entry k = record k { entries = k.entries ++ entry ∷ [] }

-- what the known entries agree on
abbrev pub agreed_of : KnownEntries → Agreement
agreed_of k = fold_of k.first k.entries
