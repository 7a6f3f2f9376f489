-- Which messages, items, events, commands, clusters and plans there are: each field in its range.
use Rattle.std.specs.Prelude.{◌≡◌, ◌⊎◌, ℕ, ◌+◌, ◌*◌, ◌≤◌, ◌<◌, ◌^◌, List, [], ◌∷◌, length, Option, Some, None, IsTrue}
use Rattle.std.specs.List.{AllByRecursion}
use Rattle.quota_table.specs.Rows.{IsTable, has_shard}
use Rattle.record_codec.specs.Records.{IsValidRecord}
use Rattle.quota_table.specs.Entries.{IsValidEntry, AreRounds}
use Rattle.spec_base.specs.Spelling.{IsValidNode}
use Rattle.msg_wire.specs.Names.{Row, Entry, NodeId, Message, What, Item, Event, Command, Config, Plan, PlanLine}
use Rattle.msg_wire.specs.Names.nodes
use Rattle.msg_wire.specs.Names.whats
use Rattle.msg_wire.specs.Names.items
use Rattle.msg_wire.specs.Names.events
use Rattle.msg_wire.specs.Names.commands
use Rattle.msg_wire.specs.Names.plan_lines

-- the place of an entry in the agreed list
abbrev pub IsSlot : ℕ → Type 0
IsSlot slot = slot < 1000000

-- the number of an attempt
abbrev pub IsBallot : ℕ → Type 0
IsBallot ballot = ballot < 2 ^ 31

-- a local, a client's number, a length or a position
abbrev pub IsPlace : ℕ → Type 0
IsPlace n = n ≤ 2 ^ 48

-- the bytes of a body
abbrev pub IsBody : List ℕ → Type 0
IsBody body = length body ≤ 1024

-- what a promise reports as accepted
abbrev pub IsValidReport : Option (ℕ × Entry) → Type 0
IsValidReport None = Unit {0}
IsValidReport (Some (ballot, entry)) = IsBallot ballot × IsValidEntry entry

abbrev pub IsValidWhat : What → Type 0
IsValidWhat (whats.Append first number body) = IsPlace first × IsPlace number × IsBody body
IsValidWhat (whats.Ack number position) = IsPlace number × IsPlace position
IsValidWhat (whats.AskFate first least) = IsPlace first × IsPlace least
IsValidWhat (whats.Fate next) = IsPlace next
IsValidWhat (whats.Replicate local rec) = IsPlace local × IsValidRecord rec
IsValidWhat (whats.Replicated len) = IsPlace len
IsValidWhat (whats.Report len) = IsPlace len
IsValidWhat (whats.Fill wanted) = IsPlace wanted
IsValidWhat (whats.Deliver local rec) = IsPlace local × IsValidRecord rec
IsValidWhat (whats.Fetch local) = IsPlace local
IsValidWhat (whats.Prepare slot ballot) = IsSlot slot × IsBallot ballot
IsValidWhat (whats.Promise slot ballot accepted) = IsSlot slot × IsBallot ballot × IsValidReport accepted
IsValidWhat (whats.Accept slot ballot entry) = IsSlot slot × IsBallot ballot × IsValidEntry entry
IsValidWhat (whats.Accepted slot ballot) = IsSlot slot × IsBallot ballot
IsValidWhat (whats.Decided slot count entry) = IsSlot slot × (1 ≤ count) × (count ≤ 1000000) × IsValidEntry entry
IsValidWhat (whats.Learn slot) = IsSlot slot

pub record IsValidMessage (m : Message) : Type 0 where
  pub from : IsValidNode m.from
  pub to : IsValidNode m.to
  pub what : IsValidWhat m.what

abbrev pub IsValidItem : Item → Type 0
IsValidItem (items.Promised slot ballot) = IsSlot slot × IsBallot ballot
IsValidItem (items.Accepted slot ballot entry) = IsSlot slot × IsBallot ballot × IsValidEntry entry
IsValidItem (items.Known entry) = IsValidEntry entry
IsValidItem (items.Taken rec) = IsValidRecord rec
IsValidItem (items.Noops count) = (1 ≤ count) × (count ≤ 64)
IsValidItem (items.Submitted body) = IsBody body
IsValidItem items.Acked = Unit {0}
IsValidItem (items.Moved shard first) = (shard ≤ 5) × IsPlace first
IsValidItem (items.Confirmed rec output) = IsValidRecord rec × (length output ≤ 64)

abbrev pub AreValidItems : List Item → Type 0
AreValidItems = AllByRecursion IsValidItem

abbrev pub IsValidCommand : Command → Type 0
IsValidCommand (commands.Table rounds rows) = AreRounds rounds × IsTable rows
IsValidCommand (commands.Remove shard) = shard ≤ 5

abbrev pub IsValidEvent : Event → Type 0
IsValidEvent (events.Submit by body) = (by ≤ 7) × IsBody body
IsValidEvent (events.Deliver message) = IsValidMessage message
IsValidEvent events.Tick = Unit {0}
IsValidEvent events.Restart = Unit {0}
IsValidEvent (events.Command command) = IsValidCommand command

-- ---- clusters

-- a table whose shards have nodes
pub record IsTableOf (shards : ℕ) (rows : List Row) : Type 0 where
  pub table : IsTable rows
  pub have_nodes : AllByRecursion (λ (r : Row). r.shard < shards) rows

-- what the head of a script spells
pub record IsValidConfig (c : Config) : Type 0 where
  pub seqs : (c.seqs ≡ 1) ⊎ (c.seqs ≡ 3) ⊎ (c.seqs ≡ 5)
  pub some_shard : 1 ≤ c.shards
  pub most_shards : c.shards ≤ 6
  pub rounds : AreRounds c.rounds
  pub rows : IsTableOf c.shards c.table
  pub some_client : 1 ≤ length c.homes
  pub most_clients : length c.homes ≤ 6
  pub homes : AllByRecursion (λ home. IsTrue (has_shard home c.table)) c.homes
  pub some_consumer : 1 ≤ c.consumers
  pub most_consumers : c.consumers ≤ 4

-- a node that the cluster has
abbrev pub IsNodeOf : Config → NodeId → Type 0
IsNodeOf c (nodes.Seq number) = number < c.seqs
IsNodeOf c (nodes.Shard number side) = number < c.shards
IsNodeOf c (nodes.Client number) = number < length c.homes
IsNodeOf c (nodes.Consumer number) = number < c.consumers

-- how many nodes the cluster has
abbrev pub node_count : Config → ℕ
node_count c = c.seqs + 2 * c.shards + length c.homes + c.consumers

-- a sequencer that the cluster has
abbrev pub IsSequencerOf : Config → NodeId → Type 0
IsSequencerOf c (nodes.Seq number) = number < c.seqs
IsSequencerOf c (nodes.Shard number side) = ⊥
IsSequencerOf c (nodes.Client number) = ⊥
IsSequencerOf c (nodes.Consumer number) = ⊥

-- a command whose shards have nodes
abbrev pub IsCommandOf : Config → Command → Type 0
IsCommandOf c (commands.Table rounds rows) = AreRounds rounds × IsTableOf c.shards rows
IsCommandOf c (commands.Remove shard) = shard < c.shards

-- ---- plans

-- a byte that stands in a text
abbrev pub IsPrintable : ℕ → Type 0
IsPrintable byte = (0x20 ≤ byte) × (byte ≤ 0x7e)

abbrev pub IsValidLine : Plan → PlanLine → Type 0
IsValidLine p (plan_lines.Submit by body) = (by < length p.submitters) × IsBody body × AllByRecursion IsPrintable body
IsValidLine p (plan_lines.Episode turns) = (1 ≤ turns) × (turns ≤ 2000)
IsValidLine p (plan_lines.Restart node) = IsNodeOf p.cfg node
IsValidLine p (plan_lines.Command node command) = IsSequencerOf p.cfg node × IsCommandOf p.cfg command

-- how many entries a line may bring, at a number of nodes
abbrev pub line_entries : ℕ → PlanLine → ℕ
line_entries nodes (plan_lines.Submit by body) = 0
line_entries nodes (plan_lines.Episode turns) = nodes * turns
line_entries nodes (plan_lines.Restart node) = 1
line_entries nodes (plan_lines.Command node command) = 1

abbrev pub lines_entries : ℕ → List PlanLine → ℕ
lines_entries nodes [] = 0
lines_entries nodes (line ∷ lines) = line_entries nodes line + lines_entries nodes lines

-- what the text of a plan spells
pub record IsValidPlan (p : Plan) : Type 0 where
  pub cfg : IsValidConfig p.cfg
  pub most_readers : length p.readers ≤ 8
  pub readers : AllByRecursion (λ consumer. consumer < p.cfg.consumers) p.readers
  pub most_submitters : length p.submitters ≤ 8
  pub submitters : AllByRecursion (λ client. client < length p.cfg.homes) p.submitters
  pub percent : p.lose + p.repeat + p.late + p.cut ≤ 100
  pub limit : p.limit ≤ 200000
  pub settle : p.settle ≤ 10000
  pub lines : AllByRecursion (IsValidLine p) p.lines
  pub entries : p.limit + lines_entries (node_count p.cfg) p.lines ≤ 200000
