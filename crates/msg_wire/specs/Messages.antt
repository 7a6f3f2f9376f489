-- The one spelling of each message.
use Rattle.std.specs.Prelude.{ℕ, List, [], ◌∷◌, ◌++◌, Option, Some, None}
use Rattle.record_codec.specs.Fields.{four, eight, sized}
use Rattle.record_codec.specs.Records.{record_spelling}
use Rattle.record_codec.specs.Entries.{entry_spelling}
use Rattle.msg_wire.specs.Names.{Entry, NodeId, Message, What}
use Rattle.msg_wire.specs.Names.nodes
use Rattle.msg_wire.specs.Names.sides
use Rattle.msg_wire.specs.Names.whats

-- the class of a node, and its number
abbrev pub node_spelling : NodeId → List ℕ
node_spelling (nodes.Seq number) = 0 ∷ number ∷ []
node_spelling (nodes.Shard number sides.Primary) = 1 ∷ number ∷ []
node_spelling (nodes.Shard number sides.Backup) = 2 ∷ number ∷ []
node_spelling (nodes.Client number) = 3 ∷ number ∷ []
node_spelling (nodes.Consumer number) = 4 ∷ number ∷ []

-- a flag, and behind a 1 the ballot and the entry that was accepted
abbrev pub report_spelling : Option (ℕ × Entry) → List ℕ
report_spelling None = 0 ∷ []
report_spelling (Some (ballot, entry)) = 1 ∷ four ballot ++ entry_spelling entry

-- the number of each kind of message
abbrev pub kind_of : What → ℕ
kind_of (whats.Append first number body) = 1
kind_of (whats.Ack number position) = 2
kind_of (whats.AskFate first least) = 3
kind_of (whats.Fate next) = 4
kind_of (whats.Replicate local rec) = 5
kind_of (whats.Replicated len) = 6
kind_of (whats.Report len) = 7
kind_of (whats.Fill wanted) = 8
kind_of (whats.Deliver local rec) = 9
kind_of (whats.Fetch local) = 10
kind_of (whats.Prepare slot ballot) = 11
kind_of (whats.Promise slot ballot accepted) = 12
kind_of (whats.Accept slot ballot entry) = 13
kind_of (whats.Accepted slot ballot) = 14
kind_of (whats.Decided slot count entry) = 15
kind_of (whats.Learn slot) = 16

-- the fields of a message, one after the other
abbrev pub fields_of : What → List ℕ
fields_of (whats.Append first number body) = eight first ++ eight number ++ sized body
fields_of (whats.Ack number position) = eight number ++ eight position
fields_of (whats.AskFate first least) = eight first ++ eight least
fields_of (whats.Fate next) = eight next
fields_of (whats.Replicate local rec) = eight local ++ record_spelling rec
fields_of (whats.Replicated len) = eight len
fields_of (whats.Report len) = eight len
fields_of (whats.Fill wanted) = eight wanted
fields_of (whats.Deliver local rec) = eight local ++ record_spelling rec
fields_of (whats.Fetch local) = eight local
fields_of (whats.Prepare slot ballot) = four slot ++ four ballot
fields_of (whats.Promise slot ballot accepted) = four slot ++ four ballot ++ report_spelling accepted
fields_of (whats.Accept slot ballot entry) = four slot ++ four ballot ++ entry_spelling entry
fields_of (whats.Accepted slot ballot) = four slot ++ four ballot
fields_of (whats.Decided slot count entry) = four slot ++ four count ++ entry_spelling entry
fields_of (whats.Learn slot) = four slot

-- version 1, the sender, the receiver, the kind and its fields
abbrev pub message_spelling : Message → List ℕ
message_spelling m = 1 ∷ node_spelling m.from ++ node_spelling m.to ++ kind_of m.what ∷ fields_of m.what
