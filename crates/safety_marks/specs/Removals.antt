-- The first positions of the removals that fit, along lists of entries.
use Rattle.std.specs.Prelude.{ℕ, List, [], ◌∷◌, Option, Some, None}
use Rattle.std.specs.List.{cons_option}
use Rattle.cut_core.specs.declared.effects.Effect.{Effect}
use Rattle.cut_core.specs.declared.effects.Effect.TheVariants.{Removed}
use Rattle.cut_core.specs.Agreements.{Agreement, agreement_from}
use Rattle.cut_core.specs.Effects.{effect_of}
use Rattle.cut_core.specs.Fold.{applied}
use Rattle.node_rules.specs.Nodes.{first_window}
use Rattle.runs.specs.Names.{Config, Entry}

abbrev pub first_in : Effect → Option ℕ
first_in (Removed shard first) = Some first
first_in _ = None

-- of entries that follow
abbrev pub firsts_from : Agreement → List Entry → List ℕ
firsts_from a [] = []
firsts_from a (entry ∷ entries) = cons_option (first_in (effect_of a entry)) (firsts_from (applied a entry) entries)

-- of entries from the cluster's first window on
abbrev pub firsts_of : Config → List Entry → List ℕ
firsts_of cfg known = firsts_from (agreement_from (first_window cfg)) known
