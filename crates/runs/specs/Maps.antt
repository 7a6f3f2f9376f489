-- The law of maps: of two known lists, one of which begins the other, the maps agree below the removals between.
use Rattle.std.specs.Prelude.{◌≡◌, ℕ, ◌<◌, List, ◌++◌, length}
use Rattle.cut_core.specs.Agreements.{Agreement}
use Rattle.cut_core.specs.Map.{map_of, mapped}
use Rattle.cut_core.specs.MapsAgree.{IsBelowFirsts}
use Rattle.net_model.specs.Pasts.{Past}
use Rattle.runs.specs.Names.{NodeId, Config, Entry}
use Rattle.runs.specs.Marks.{IsPrefix}
use Rattle.runs.specs.Known.{agreed_after, known_at}

-- a node knows these entries, and maybe more after them: at some moment it knew just these
abbrev pub WasKnown : Config → Past → List Entry → Type 0
WasKnown cfg past entries = (node : NodeId) × IsPrefix entries (known_at cfg node past)

-- the second has the position too, with the same owner
pub record AgreeAt (before after : Agreement) (position : ℕ) : Type 0 where
  pub reached : position < length (map_of after)
  pub same_owner : mapped after position ≡ mapped before position

abbrev pub KnownMapsAgree : Config → Past → Type 0
KnownMapsAgree cfg past =
    (known more : List Entry) (position : ℕ) → WasKnown cfg past (known ++ more) →
    position < length (map_of (agreed_after cfg known)) → IsBelowFirsts (agreed_after cfg known) more position →
    AgreeAt (agreed_after cfg known) (agreed_after cfg (known ++ more)) position
