-- Small clusters, nodes and steps, of which the worked rows of the node crates speak.
use Rattle.std.specs.Prelude.{List, [], ◌∷◌}
use Rattle.node_rules.specs.Names.{NodeId, Config, Row, Record, Message, What, Event, Item, Mark, Step}
use Rattle.node_rules.specs.Names.nodes
use Rattle.node_rules.specs.Names.sides
use Rattle.node_rules.specs.Names.records
use Rattle.node_rules.specs.Names.apps
use Rattle.node_rules.specs.Names.events

-- one sequencer, one shard, one client and one consumer; a window of 2 rounds of one place
abbrev pub single : Config
single = record { seqs = 1; shards = 1; rounds = 2; table = record { shard = 0; quota = 1 } ∷ []; homes = 0 ∷ []; consumers = 1; app = apps.Tally }

-- the rows of two shards with one place each
abbrev pub two_rows : List Row
two_rows = record { shard = 0; quota = 1 } ∷ record { shard = 1; quota = 1 } ∷ []

-- a window of 4 rounds over two shards, with one sequencer or with three
abbrev pub pair : Config
pair = record { seqs = 1; shards = 2; rounds = 4; table = two_rows; homes = 0 ∷ []; consumers = 1; app = apps.Tally }

abbrev pub trio : Config
trio = record pair { seqs = 3 }

abbrev pub q0 : NodeId
q0 = nodes.Seq 0

abbrev pub q1 : NodeId
q1 = nodes.Seq 1

abbrev pub q2 : NodeId
q2 = nodes.Seq 2

abbrev pub s0p : NodeId
s0p = nodes.Shard 0 sides.Primary

abbrev pub s0b : NodeId
s0b = nodes.Shard 0 sides.Backup

abbrev pub s1p : NodeId
s1p = nodes.Shard 1 sides.Primary

abbrev pub s1b : NodeId
s1b = nodes.Shard 1 sides.Backup

abbrev pub c0 : NodeId
c0 = nodes.Client 0

abbrev pub k0 : NodeId
k0 = nodes.Consumer 0

-- client 0's first record, with the digit 5
abbrev pub five : Record
five = records.Data 0 0 (53 ∷ [])

-- its second one, with the digit 7
abbrev pub seven : Record
seven = records.Data 0 1 (55 ∷ [])

-- a message comes
abbrev pub comes : NodeId → NodeId → What → Event
comes from to what = events.Deliver (record { from = from; to = to; what = what })

-- one message from a node to each of several
abbrev pub sent : NodeId → NodeId → What → Message
sent from to what = record { from = from; to = to; what = what }

-- a step that stores, sends and shows this
abbrev pub step : List Item → List Message → List Mark → Step
step stable sends shown = record { stable = stable; sends = sends; marks = shown }

-- a step that does nothing
abbrev pub nothing : Step
nothing = step [] [] []
