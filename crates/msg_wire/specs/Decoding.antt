-- Reading a message or items: what stands at a place and where it ends, or the first fault from the left.
use Rattle.std.specs.Prelude.{◌≡◌, ℕ, zero, suc, ◌+◌, ◌-◌, ◌^◌, ◌==◌, nat_lt, if◌then◌else◌, List, [], ◌∷◌, ◌++◌, length, Option, Some, None, Result, Ok, Err}
use Rattle.quota_table.specs.Rows.{has_shard}
use Rattle.record_codec.specs.Reading.{Reader, ◌>>=◌, byte_at, two_at, four_at, eight_at, field, announced, one, two_of, three_of}
use Rattle.msg_wire.specs.declared.errors.WireError.{WireError}
use Rattle.msg_wire.specs.declared.errors.WireError.TheVariants.{Short, BadKind, BadField, Trailing, OutOfMemory}
use Rattle.msg_wire.specs.Names.{Side, Row, Entry, Record, NodeId, Message, What, Item}
use Rattle.msg_wire.specs.Names.nodes
use Rattle.msg_wire.specs.Names.sides
use Rattle.msg_wire.specs.Names.entries
use Rattle.msg_wire.specs.Names.records
use Rattle.msg_wire.specs.Names.whats
use Rattle.msg_wire.specs.Names.items

-- ---- numbers in their ranges

unfoldable pub byte_in : ℕ → ℕ → Reader ℕ WireError
byte_in least most bytes at = field Short (λ _. BadField at) least most (byte_at bytes at)

unfoldable pub two_in : ℕ → ℕ → Reader ℕ WireError
two_in least most bytes at = field Short (λ _. BadField at) least most (two_at bytes at)

unfoldable pub four_in : ℕ → ℕ → Reader ℕ WireError
four_in least most bytes at = field Short (λ _. BadField at) least most (four_at bytes at)

unfoldable pub eight_in : ℕ → ℕ → Reader ℕ WireError
eight_in least most bytes at = field Short (λ _. BadField at) least most (eight_at bytes at)

-- a version, a kind or a tag
unfoldable pub kind_in : ℕ → ℕ → Reader ℕ WireError
kind_in least most bytes at = field Short (λ _. BadKind at) least most (byte_at bytes at)

-- a local, a client's number, a length or a position
abbrev pub place_at : Reader ℕ WireError
place_at = eight_in 0 (2 ^ 48)

abbrev pub slot_at : Reader ℕ WireError
slot_at = four_in 0 999999

abbrev pub ballot_at : Reader ℕ WireError
ballot_at = four_in 0 2147483647

abbrev pub window_at : Reader ℕ WireError
window_at = four_in 0 1000000

-- ---- records and entries

unfoldable pub body_at : Reader (List ℕ) WireError
body_at = announced Short (two_in 0 1024)

unfoldable pub record_of : ℕ → Reader Record WireError
record_of tag bytes at = if tag == 0 then Ok (records.Noop, at) else three_of (four_in 0 5) (eight_in 0 (2 ^ 48)) body_at records.Data bytes at

unfoldable pub record_at : Reader Record WireError
record_at bytes at = do
  tag ← byte_in 0 1 bytes at
  record_of tag.0 bytes tag.1

-- a shard that no earlier row has
unfoldable pub fresh_at : List Row → Reader ℕ WireError
fresh_at earlier bytes at = do
  shard ← byte_in 0 5 bytes at
  if has_shard shard.0 earlier then Err (BadField at) else Ok shard

unfoldable pub row_at : List Row → Reader Row WireError
row_at earlier = two_of (fresh_at earlier) (byte_in 1 64) (λ shard quota. record { shard = shard; quota = quota })

-- so many rows, after the earlier ones
unfoldable pub rows_at : ℕ → List Row → Reader (List Row) WireError
rows_at zero earlier bytes at = Ok (earlier, at)
rows_at (suc count) earlier bytes at = do
  row ← row_at earlier bytes at
  rows_at count (earlier ++ row.0 ∷ []) bytes row.1

unfoldable pub table_at : Reader (List Row) WireError
table_at bytes at = do
  count ← byte_in 1 6 bytes at
  rows_at count.0 [] bytes count.1

unfoldable pub entry_of : ℕ → Reader Entry WireError
entry_of tag bytes at =
    if tag == 0 then Ok (entries.Nothing, at)
    else if tag == 1 then two_of window_at (two_in 0 1023) entries.Cut bytes at
    else if tag == 2 then three_of window_at (two_in 1 1024) table_at entries.Table bytes at
    else two_of window_at (byte_in 0 5) entries.Remove bytes at

unfoldable pub entry_at : Reader Entry WireError
entry_at bytes at = do
  tag ← byte_in 0 3 bytes at
  entry_of tag.0 bytes tag.1

-- a ballot, and the entry that was voted at it
unfoldable pub vote_at : Reader (ℕ × Entry) WireError
vote_at = two_of ballot_at entry_at (λ ballot entry. (ballot, entry))

-- ---- messages

unfoldable pub report_of : ℕ → Reader (Option (ℕ × Entry)) WireError
report_of flag bytes at = if flag == 0 then Ok (None, at) else two_of ballot_at entry_at (λ ballot entry. Some (ballot, entry)) bytes at

unfoldable pub report_at : Reader (Option (ℕ × Entry)) WireError
report_at bytes at = do
  flag ← byte_in 0 1 bytes at
  report_of flag.0 bytes flag.1

unfoldable pub node_of : ℕ → Reader NodeId WireError
node_of class bytes at =
    if class == 0 then one (byte_in 0 4) nodes.Seq bytes at
    else if class == 1 then one (byte_in 0 5) (λ number. nodes.Shard number sides.Primary) bytes at
    else if class == 2 then one (byte_in 0 5) (λ number. nodes.Shard number sides.Backup) bytes at
    else if class == 3 then one (byte_in 0 5) nodes.Client bytes at
    else one (byte_in 0 3) nodes.Consumer bytes at

unfoldable pub node_at : Reader NodeId WireError
node_at bytes at = do
  class ← byte_in 0 4 bytes at
  node_of class.0 bytes class.1

-- kinds 1 to 4, between clients and replicas
unfoldable pub client_kind : ℕ → Reader What WireError
client_kind kind bytes at =
    if kind == 1 then three_of place_at place_at body_at whats.Append bytes at
    else if kind == 2 then two_of place_at place_at whats.Ack bytes at
    else if kind == 3 then two_of place_at place_at whats.AskFate bytes at
    else one place_at whats.Fate bytes at

-- kinds 5 to 10, to and from replicas
unfoldable pub replica_kind : ℕ → Reader What WireError
replica_kind kind bytes at =
    if kind == 5 then two_of place_at record_at whats.Replicate bytes at
    else if kind == 6 then one place_at whats.Replicated bytes at
    else if kind == 7 then one place_at whats.Report bytes at
    else if kind == 8 then one place_at whats.Fill bytes at
    else if kind == 9 then two_of place_at record_at whats.Deliver bytes at
    else one place_at whats.Fetch bytes at

-- kinds 11 to 16, to and from sequencers
unfoldable pub sequencer_kind : ℕ → Reader What WireError
sequencer_kind kind bytes at =
    if kind == 11 then two_of slot_at ballot_at whats.Prepare bytes at
    else if kind == 12 then three_of slot_at ballot_at report_at whats.Promise bytes at
    else if kind == 13 then three_of slot_at ballot_at entry_at whats.Accept bytes at
    else if kind == 14 then two_of slot_at ballot_at whats.Accepted bytes at
    else if kind == 15 then three_of slot_at (four_in 1 1000000) entry_at whats.Decided bytes at
    else one slot_at whats.Learn bytes at

unfoldable pub what_of : ℕ → Reader What WireError
what_of kind bytes at =
    if nat_lt kind 5 then client_kind kind bytes at
    else if nat_lt kind 11 then replica_kind kind bytes at
    else sequencer_kind kind bytes at

unfoldable pub what_at : Reader What WireError
what_at bytes at = do
  kind ← kind_in 1 16 bytes at
  what_of kind.0 bytes kind.1

unfoldable pub letter_at : Reader Message WireError
letter_at = three_of node_at node_at what_at (λ from to what. record { from = from; to = to; what = what })

unfoldable pub message_at : Reader Message WireError
message_at bytes at = do
  version ← kind_in 1 1 bytes at
  letter_at bytes version.1

-- all of the bytes
unfoldable pub whole_message : List ℕ → Result Message WireError
whole_message bytes = do
  message ← message_at bytes 0
  if nat_lt message.1 (length bytes) then Err (Trailing message.1) else Ok message.0

-- ---- items

unfoldable pub output_at : Reader (List ℕ) WireError
output_at = announced Short (byte_in 0 64)

-- tags 1 to 4
unfoldable pub early_tag : ℕ → Reader Item WireError
early_tag tag bytes at =
    if tag == 1 then two_of slot_at ballot_at items.Promised bytes at
    else if tag == 2 then three_of slot_at ballot_at entry_at items.Accepted bytes at
    else if tag == 3 then one entry_at items.Known bytes at
    else one record_at items.Taken bytes at

-- tags 5 to 9
unfoldable pub late_tag : ℕ → Reader Item WireError
late_tag tag bytes at =
    if tag == 5 then one (byte_in 1 64) items.Noops bytes at
    else if tag == 6 then one body_at items.Submitted bytes at
    else if tag == 7 then Ok (items.Acked, at)
    else if tag == 8 then two_of (byte_in 0 5) place_at items.Moved bytes at
    else two_of record_at output_at items.Confirmed bytes at

unfoldable pub item_of : ℕ → Reader Item WireError
item_of tag bytes at = if nat_lt tag 5 then early_tag tag bytes at else late_tag tag bytes at

unfoldable pub item_at : Reader Item WireError
item_at bytes at = do
  tag ← kind_in 1 9 bytes at
  item_of tag.0 bytes tag.1

-- the items from a place to the end, at most so many, after the earlier ones
unfoldable pub items_from : ℕ → List Item → List ℕ → ℕ → Result (List Item) WireError
items_from zero earlier bytes at = Ok earlier
items_from (suc count) earlier bytes at = if nat_lt at (length bytes) then (item_at bytes at >>= λ item. items_from count (earlier ++ item.0 ∷ []) bytes item.1) else Ok earlier

-- all of the bytes: an item, and then no more items than there are bytes
unfoldable pub whole_items : List ℕ → Result (List Item) WireError
whole_items bytes = do
  first ← item_at bytes 0
  items_from (length bytes - 1) (first.0 ∷ []) bytes first.1

-- ---- what a function answered

-- it is what reading gives, unless memory ran out
abbrev pub Fails : {A : Type 0} → WireError → Result A WireError → Type 0
Fails OutOfMemory reading = Unit {0}
Fails e reading = reading ≡ Err e

abbrev pub Gives : {A : Type 0} → Result A WireError → Result A WireError → Type 0
Gives (Ok x) reading = reading ≡ Ok x
Gives (Err e) reading = Fails e reading
