-- The law of agreement: each ballot of a slot has one value, what nodes know is chosen, and cuts are true.
use Rattle.std.specs.Prelude.{◌≡◌, ◌⊎◌, ℕ, Contains}
use Rattle.net_model.specs.Pasts.{Past, sent}
use Rattle.runs.specs.Names.{NodeId, Config, Entry}
use Rattle.runs.specs.Names.whats
use Rattle.runs.specs.Chosen.{HasAccepted, KnownIsChosen}
use Rattle.runs.specs.Cuts.{CutsAreTrue}

-- a sequencer was asked to accept the entry at the slot and the ballot
abbrev pub IsOffered : Past → ℕ → ℕ → Entry → Type 0
IsOffered past slot ballot entry = (from to : NodeId) × Contains (sent past) (record { from = from; to = to; what = whats.Accept slot ballot entry })

-- the entry was accepted at the slot and the ballot, or offered
abbrev pub IsValueAt : Config → Past → ℕ → ℕ → Entry → Type 0
IsValueAt cfg past slot ballot entry = ((number : ℕ) × HasAccepted cfg past slot ballot entry number) ⊎ IsOffered past slot ballot entry

abbrev pub OneValuePerBallot : Config → Past → Type 0
OneValuePerBallot cfg past =
    (slot ballot : ℕ) (value other : Entry) → IsValueAt cfg past slot ballot value → IsValueAt cfg past slot ballot other → value ≡ other

pub record AgreementHolds (cfg : Config) (past : Past) : Type 0 where
  pub one_value : OneValuePerBallot cfg past
  pub known_is_chosen : KnownIsChosen cfg past
  pub cuts_are_true : CutsAreTrue cfg past
