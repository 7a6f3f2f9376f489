-- What holds of every sequencer, whatever valid events it took.
use Rattle.std.specs.Prelude.{◌≡◌, ℕ, ◌<◌, ◌≤◌, List, length, Option, Some, None, IsTrue}
use Rattle.std.specs.List.{AllByRecursion}
use Rattle.majority.specs.Acceptors.{AcceptorState}
use Rattle.quota_table.specs.Entries.{IsValidEntry}
use Rattle.msg_wire.specs.Nodes.{number_of, is_sequencer}
use Rattle.msg_wire.specs.Valid.{IsBallot, IsPlace, IsValidReport, IsValidCommand}
use Rattle.node_rules.specs.Names.{Entry, Command}
use Rattle.node_rules.specs.Nodes.{Node}
use Rattle.node_rules.specs.Sound.{IsBase}
use Rattle.seq_node.specs.States.{SlotAttempt, SequencerState}

-- a valid entry, or none
abbrev pub MayBeValid : Option Entry → Type 0
MayBeValid None = Unit {0}
MayBeValid (Some entry) = IsValidEntry entry

-- what an acceptor has accepted is valid
abbrev pub IsAcceptor : AcceptorState Entry → Type 0
IsAcceptor acceptor = IsValidReport acceptor.accepted

-- acceptors of at most as many slots as there are
pub record AreAcceptors (acceptors : List (AcceptorState Entry)) : Type 0 where
  pub each : AllByRecursion IsAcceptor acceptors
  pub few : length acceptors ≤ 1000000

-- one length for each shard
pub record AreReports (lengths : List ℕ) : Type 0 where
  pub each : AllByRecursion IsPlace lengths
  pub six : length lengths ≡ 6

-- at most 16 commands
pub record AreWishes (wishes : List Command) : Type 0 where
  pub each : AllByRecursion IsValidCommand wishes
  pub few : length wishes ≤ 16

-- what it has beside its attempt
pub record IsOwn (s : SequencerState) : Type 0 where
  pub acceptors : AreAcceptors s.acceptors
  pub primaries : AreReports s.primaries
  pub backups : AreReports s.backups
  pub wishes : AreWishes s.wishes
  pub idle : s.idle ≤ 255

-- an attempt of this replica among so many, for the slot that is next, which has an acceptor; its values are valid
pub record IsAttempt (replica seqs next slots : ℕ) (a : SlotAttempt) : Type 0 where
  pub replica_is : a.attempt.replica ≡ replica
  pub seqs_are : a.attempt.n ≡ seqs
  pub slot : a.slot ≡ next
  pub slot_limit : a.slot < 1000000
  pub acceptor : a.slot < slots
  pub ballot : IsBallot a.attempt.ballot
  pub wish : IsValidEntry a.attempt.wish
  pub reported : IsValidReport a.attempt.reported
  pub sending : MayBeValid a.attempt.sending

abbrev pub MayBeAttempt : ℕ → ℕ → ℕ → ℕ → Option SlotAttempt → Type 0
MayBeAttempt replica seqs next slots None = Unit {0}
MayBeAttempt replica seqs next slots (Some a) = IsAttempt replica seqs next slots a

-- what holds of any node that takes a sequencer's steps
pub record IsOrderly (n : Node SequencerState) : Type 0 where
  pub base : IsBase n.base
  pub own : IsOwn n.own
  pub attempt : MayBeAttempt (number_of n.base.me) n.base.cfg.seqs (length n.base.known) (length n.own.acceptors) n.own.attempt

-- and of a sequencer
pub record IsSequencer (n : Node SequencerState) : Type 0 where
  pub orderly : IsOrderly n
  pub kind : IsTrue (is_sequencer n.base.me)
