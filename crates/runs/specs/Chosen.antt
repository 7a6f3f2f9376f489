-- Which entries are chosen, and that what nodes know is chosen.
use Rattle.std.specs.Prelude.{◌≡◌, ℕ, List, slice_get, All, Contains, Some}
use Rattle.majority.specs.Ballots.{IsMajority}
use Rattle.net_model.specs.Pasts.{Past}
use Rattle.runs.specs.Names.{NodeId, Config, Entry}
use Rattle.runs.specs.Names.nodes
use Rattle.runs.specs.Names.items
use Rattle.runs.specs.Kinds.{items_at}
use Rattle.runs.specs.Marks.{IsPrefix}
use Rattle.runs.specs.Known.{known_at}

-- a sequencer accepted the entry at the slot and the ballot
abbrev pub HasAccepted : Config → Past → ℕ → ℕ → Entry → ℕ → Type 0
HasAccepted cfg past slot ballot entry number = Contains (items_at cfg (nodes.Seq number) past) (items.Accepted slot ballot entry)

-- a majority of the sequencers accepted the entry at the slot, at one ballot
abbrev pub IsChosen : Config → Past → ℕ → Entry → Type 0
IsChosen cfg past slot entry = (ballot : ℕ) × (voters : List ℕ) × IsMajority cfg.seqs voters × All (HasAccepted cfg past slot ballot entry) voters

-- each of the entries is chosen at its place, from slot 0 on
abbrev pub AreChosen : Config → Past → List Entry → Type 0
AreChosen cfg past chosen = (slot : ℕ) (entry : Entry) → slice_get chosen slot ≡ Some entry → IsChosen cfg past slot entry

-- ---- the law

-- no slot has two chosen entries
abbrev pub OneIsChosen : Config → Past → Type 0
OneIsChosen cfg past = (slot : ℕ) (entry other : Entry) → IsChosen cfg past slot entry → IsChosen cfg past slot other → entry ≡ other

-- each entry of the list is chosen at its slot, and what any node knows begins it
pub record IsAgreed (cfg : Config) (past : Past) (agreed : List Entry) : Type 0 where
  pub chosen : AreChosen cfg past agreed
  pub begins : (node : NodeId) → IsPrefix (known_at cfg node past) agreed

abbrev pub KnownIsAgreed : Config → Past → Type 0
KnownIsAgreed cfg past = (agreed : List Entry) × IsAgreed cfg past agreed

pub record KnownIsChosen (cfg : Config) (past : Past) : Type 0 where
  pub one_each : OneIsChosen cfg past
  pub one_list : KnownIsAgreed cfg past
