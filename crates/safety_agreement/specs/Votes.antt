-- Votes of a run, the sequencers' stored items Accepted: what is cast, promised and chosen at a slot.
use Rattle.std.specs.Prelude.{◌≡◌, ℕ, ◌<◌, ◌%◌, Contains, Option}
use Rattle.majority.specs.Agreement.{Reaches, IsUnvoted, ToldOf, SafeBy}
use Rattle.msg_wire.specs.Nodes.{number_of}
use Rattle.net_model.specs.Pasts.{Past, sent}
use Rattle.seq_node.specs.States.{acceptor_at}
use Rattle.runs.specs.Names.{Config, Entry, Message}
use Rattle.runs.specs.Names.whats
use Rattle.runs.specs.Kinds.{sequencer_after}
use Rattle.runs.specs.Chosen.{HasAccepted}

-- a sequencer's promise at a slot: the greatest ballot of its items (AcceptorIsItems)
abbrev pub bar_at : Config → Past → ℕ → ℕ → Option ℕ
bar_at cfg past slot number = (acceptor_at (sequencer_after cfg number past).own slot).promised

-- the votes at a slot: what each sequencer voted at each ballot
abbrev pub Voted : Config → Past → ℕ → ℕ → ℕ → Entry → Type 0
Voted cfg past slot number ballot entry = HasAccepted cfg past slot ballot entry number

-- the sequencer has no vote at the slot and the ballot
abbrev pub HasNotAccepted : Config → Past → ℕ → ℕ → ℕ → Type 0
HasNotAccepted cfg past slot ballot number = IsUnvoted (Voted cfg past slot number ballot)

-- ---- votes

-- a sequencer has one vote at a slot and a ballot
abbrev pub OneVotePerBallot : Config → Past → Type 0
OneVotePerBallot cfg past =
    (slot ballot number : ℕ) (v w : Entry) → number < cfg.seqs → HasAccepted cfg past slot ballot v number → HasAccepted cfg past slot ballot w number → v ≡ w

-- what anyone voted, or is asked to vote, the ballot's owner voted
pub record OwnersVoted (cfg : Config) (past : Past) : Type 0 where
  pub votes : (slot ballot number : ℕ) (v : Entry) → number < cfg.seqs → HasAccepted cfg past slot ballot v number
      → HasAccepted cfg past slot ballot v (ballot % cfg.seqs)
  pub asked : (m : Message) (slot ballot : ℕ) (v : Entry) → Contains (sent past) m → m.what ≡ whats.Accept slot ballot v
      → HasAccepted cfg past slot ballot v (ballot % cfg.seqs)

-- each message Accepted is a vote of its sender
abbrev pub AcceptedsAreVotes : Config → Past → Type 0
AcceptedsAreVotes cfg past =
    (m : Message) (slot ballot : ℕ) → Contains (sent past) m → m.what ≡ whats.Accepted slot ballot
    → (v : Entry) × HasAccepted cfg past slot ballot v (number_of m.from)

-- ---- promises

-- a Promise binds its sender, and tells truly
pub record PromiseTells (cfg : Config) (past : Past) (slot ballot number : ℕ) (report : Option (ℕ × Entry)) : Type 0 where
  pub barred : Reaches (bar_at cfg past slot number) ballot
  pub tells : ToldOf (Voted cfg past slot number) ballot report

abbrev pub PromisesTell : Config → Past → Type 0
PromisesTell cfg past =
    (m : Message) (slot ballot : ℕ) (report : Option (ℕ × Entry)) → Contains (sent past) m → m.what ≡ whats.Promise slot ballot report
    → PromiseTells cfg past slot ballot (number_of m.from) report

-- ---- safety

-- at each ballot below that of a vote, a majority voted the same, or didn't vote and never will
abbrev pub SafeAtBallot : Config → Past → Type 0
SafeAtBallot cfg past =
    (slot ballot number : ℕ) (v : Entry) → number < cfg.seqs → HasAccepted cfg past slot ballot v number
    → SafeBy cfg.seqs (Voted cfg past slot) (bar_at cfg past slot) ballot v
