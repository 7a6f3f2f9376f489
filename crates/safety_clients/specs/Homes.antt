-- A client's homes in a run: each once, each left when it was gone, for one that wasn't gone there.
use Rattle.std.specs.Prelude.{◌≡◌, ℕ, ◌≤◌, true, false, List, [], ◌∷◌, ◌++◌, slice_get, Contains, Some}
use Rattle.cut_core.specs.Agreements.{is_gone}
use Rattle.net_model.specs.Pasts.{Past, submissions_of}
use Rattle.runs.specs.Names.{Config, Entry}
use Rattle.runs.specs.Names.nodes
use Rattle.runs.specs.Kinds.{items_at}
use Rattle.runs.specs.Known.{agreed_after, known_at}
use Rattle.runs.specs.Marks.{IsPrefix}
use Rattle.runs.specs.Homes.{Home, homes_at, AreInTurn, GoesWith}
use Rattle.safety_frame.specs.StableItems.{bodies_by, acked_by}

-- the bodies that a client has stored, and how many of its numbers are acknowledged
abbrev pub bodies_at : Config → ℕ → Past → List (List ℕ)
bodies_at cfg client past = bodies_by (items_at cfg (nodes.Client client) past)

abbrev pub acked_at : Config → ℕ → Past → ℕ
acked_at cfg client past = acked_by (items_at cfg (nodes.Client client) past)

-- the bodies are the first of those that were submitted at the client
abbrev pub BodiesAreSubmitted : Config → Past → Type 0
BodiesAreSubmitted cfg past = (client : ℕ) → IsPrefix (bodies_at cfg client past) (submissions_of (nodes.Client client) past)

-- ---- each home once

pub record AreOnce (cfg : Config) (client : ℕ) (past : Past) : Type 0 where
  -- each shard stands once among the homes
  pub once : (i j : ℕ) (home other : Home) → slice_get (homes_at cfg client past) i ≡ Some home → slice_get (homes_at cfg client past) j ≡ Some other
      → home.shard ≡ other.shard → i ≡ j
  -- first numbers don't fall, and none is past what is acknowledged
  pub rise : (earlier later : Home) → AreInTurn cfg client past earlier later → earlier.first ≤ later.first
  pub acked : (home : Home) → Contains (homes_at cfg client past) home → home.first ≤ acked_at cfg client past

abbrev pub HomesAreOnce : Config → Past → Type 0
HomesAreOnce cfg past = (client : ℕ) → AreOnce cfg client past

-- ---- each left when it was gone

-- the entry with which a home goes is known, and with it the next home isn't gone
pub record IsLeftFor (cfg : Config) (client : ℕ) (past : Past) (earlier later : Home) : Type 0 where
  pub before : List Entry
  pub entry : Entry
  pub goes : GoesWith cfg client past earlier.shard before entry
  pub there : is_gone (agreed_after cfg (before ++ entry ∷ [])) later.shard ≡ false

abbrev pub HomesAreLeftWhenGone : Config → Past → Type 0
HomesAreLeftWhenGone cfg past = (client : ℕ) (earlier later : Home) → AreInTurn cfg client past earlier later → IsLeftFor cfg client past earlier later

-- so the entries with which homes go rise along the homes: what knows a home to be gone knows it of each earlier home
abbrev pub HomesGoInTurn : Config → Past → Type 0
HomesGoInTurn cfg past =
    (client : ℕ) (earlier later : Home) (known : List Entry) → AreInTurn cfg client past earlier later
    → IsPrefix known (known_at cfg (nodes.Client client) past)
    → is_gone (agreed_after cfg known) later.shard ≡ true → is_gone (agreed_after cfg known) earlier.shard ≡ true
