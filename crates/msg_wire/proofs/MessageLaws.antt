-- Messages: what is read is spelled so, and what is spelled so is read.
use Rattle.std.proofs.Common.{◌≡◌, ℕ, ◌+◌, ◌^◌, ◌<◌, ◌≤◌, Bool, true, false, cond, eqb, ltb, List, [], ◌∷◌, ◌++◌, length, drop, Option, Some, None, Result, Ok, Err, refl, sym, ap, subst, ◌∙◌, append_assoc, arith}
use Rattle.std.specs.Prelude.{IfOk}
use Rattle.std.proofs.lemmas.Bool.{eqb-true, eqb-false, ltb-true, ltb-false, le-ltb}
use Rattle.std.proofs.lemmas.List.{append-nil, drop_all}
use Rattle.record_codec.specs.Fields.{four, eight, sized}
use Rattle.record_codec.specs.Records.{IsValidRecord, record_spelling}
use Rattle.record_codec.specs.Entries.{entry_spelling}
use Rattle.quota_table.specs.Entries.{IsValidEntry}
use Rattle.record_codec.specs.Reading.{Reader, ◌>>=◌, one, two_of, three_of}
use Rattle.record_codec.proofs.Reading.{IsBytes, bind_ok, guard_ok, Took, Takes, Reads, single, then_reads, give_reads, one_takes, one_reads, two_takes, two_reads, three_takes, three_reads, apart}
use Rattle.spec_base.specs.Spelling.{IsValidNode}
use Rattle.msg_wire.specs.declared.errors.WireError.{WireError}
use Rattle.msg_wire.specs.declared.errors.WireError.TheVariants.{Short, Trailing}
use Rattle.msg_wire.specs.Names.{Entry, Record, NodeId, Message, What}
use Rattle.msg_wire.specs.Names.nodes
use Rattle.msg_wire.specs.Names.sides
use Rattle.msg_wire.specs.Names.whats
use Rattle.msg_wire.specs.Valid.{IsPlace, IsSlot, IsBallot, IsBody, IsValidReport, IsValidWhat, IsValidMessage}
use Rattle.msg_wire.specs.Messages.{node_spelling, report_spelling, kind_of, fields_of, message_spelling}
use Rattle.msg_wire.specs.Decoding.{Gives, byte_in, four_in, eight_in, kind_in, place_at, slot_at, ballot_at, body_at, record_at, entry_at, report_of, report_at, node_of, node_at, client_kind, replica_kind, sequencer_kind, what_of, what_at, letter_at, message_at, whole_message}
use Rattle.msg_wire.proofs.PartLaws.{IsWithin, byte_takes, four_takes, eight_takes, kind_takes, byte_reads, four_reads, kind_reads, place_reads, slot_reads, ballot_reads, if_takes, give_takes, tagged_takes, body_takes, body_reads, record_takes, record_reads}
use Rattle.msg_wire.proofs.EntryLaws.{entry_takes, entry_reads}

-- ---- nodes

abbrev class_of : NodeId → ℕ
class_of (nodes.Seq number) = 0
class_of (nodes.Shard number sides.Primary) = 1
class_of (nodes.Shard number sides.Backup) = 2
class_of (nodes.Client number) = 3
class_of (nodes.Consumer number) = 4

abbrev number_of : NodeId → List ℕ
number_of node = drop 1 (node_spelling node)

node_tagged : (n : NodeId) → node_spelling n ≡ class_of n ∷ number_of n
node_tagged (nodes.Seq number) = refl
node_tagged (nodes.Shard number sides.Primary) = refl
node_tagged (nodes.Shard number sides.Backup) = refl
node_tagged (nodes.Client number) = refl
node_tagged (nodes.Consumer number) = refl

class_in : (n : NodeId) → class_of n ≤ 4
class_in (nodes.Seq number) = omega arith
class_in (nodes.Shard number sides.Primary) = omega arith
class_in (nodes.Shard number sides.Backup) = omega arith
class_in (nodes.Client number) = omega arith
class_in (nodes.Consumer number) = omega arith

abbrev IsOfClass : ℕ → NodeId → Type 0
IsOfClass class n = IsValidNode n × (class_of n ≡ class)

node_of_takes : (class : ℕ) → IsWithin 0 4 class → Takes number_of (IsOfClass class) (node_of class)
unfolding node_of
node_of_takes class in_range =
    if_takes (eqb class 0) number_of (IsOfClass class) _ _
    (λ e. one_takes (byte_in 0 4) nodes.Seq single (IsWithin 0 4) number_of (IsOfClass class) (byte_takes 0 4) (λ a x. (refl, (x.1, sym (eqb-true class 0 e)))))
    (λ n0. if_takes (eqb class 1) number_of (IsOfClass class) _ _
    (λ e. one_takes (byte_in 0 5) (λ number. nodes.Shard number sides.Primary) single (IsWithin 0 5) number_of (IsOfClass class) (byte_takes 0 5) (λ a x. (refl, (x.1, sym (eqb-true class 1 e)))))
    (λ n1. if_takes (eqb class 2) number_of (IsOfClass class) _ _
    (λ e. one_takes (byte_in 0 5) (λ number. nodes.Shard number sides.Backup) single (IsWithin 0 5) number_of (IsOfClass class) (byte_takes 0 5) (λ a x. (refl, (x.1, sym (eqb-true class 2 e)))))
    (λ n2. if_takes (eqb class 3) number_of (IsOfClass class) _ _
    (λ e. one_takes (byte_in 0 5) nodes.Client single (IsWithin 0 5) number_of (IsOfClass class) (byte_takes 0 5) (λ a x. (refl, (x.1, sym (eqb-true class 3 e)))))
    (λ n3. let four_is : 4 ≡ class = omega (arith, eqb-false class 0 n0, eqb-false class 1 n1, eqb-false class 2 n2, eqb-false class 3 n3, in_range.1) in
    one_takes (byte_in 0 3) nodes.Consumer single (IsWithin 0 3) number_of (IsOfClass class) (byte_takes 0 3) (λ a x. (refl, (x.1, four_is)))))))

node_takes : Takes node_spelling IsValidNode node_at
unfolding node_at
node_takes = tagged_takes class_of node_spelling number_of IsValidNode (IsWithin 0 4) (byte_in 0 4) node_of node_tagged (byte_takes 0 4) node_of_takes

node_of_reads : (n : NodeId) → IsValidNode n → Reads Short n (number_of n) (node_of (class_of n))
unfolding node_of
node_of_reads (nodes.Seq number) valid = one_reads Short (byte_in 0 4) nodes.Seq number (single number) (byte_reads 0 4 number (omega arith) valid (omega arith))
node_of_reads (nodes.Shard number sides.Primary) valid = one_reads Short (byte_in 0 5) (λ n. nodes.Shard n sides.Primary) number (single number) (byte_reads 0 5 number (omega arith) valid (omega arith))
node_of_reads (nodes.Shard number sides.Backup) valid = one_reads Short (byte_in 0 5) (λ n. nodes.Shard n sides.Backup) number (single number) (byte_reads 0 5 number (omega arith) valid (omega arith))
node_of_reads (nodes.Client number) valid = one_reads Short (byte_in 0 5) nodes.Client number (single number) (byte_reads 0 5 number (omega arith) valid (omega arith))
node_of_reads (nodes.Consumer number) valid = one_reads Short (byte_in 0 3) nodes.Consumer number (single number) (byte_reads 0 3 number (omega arith) valid (omega arith))

node_reads : (n : NodeId) → IsValidNode n → Reads Short n (node_spelling n) node_at
unfolding node_at
node_reads n valid =
    subst (λ (t : List ℕ). Reads Short n t (λ bytes at. byte_in 0 4 bytes at >>= λ class. node_of class.0 bytes class.1)) (sym (node_tagged n))
    (then_reads Short (byte_in 0 4) node_of (class_of n) n (single (class_of n)) (number_of n) (byte_reads 0 4 (class_of n) (omega arith) (class_in n) (omega arith)) (node_of_reads n valid))

-- ---- reports

abbrev flag_of : Option (ℕ × Entry) → ℕ
flag_of None = 0
flag_of (Some r) = 1

abbrev report_fields : Option (ℕ × Entry) → List ℕ
report_fields r = drop 1 (report_spelling r)

report_tagged : (r : Option (ℕ × Entry)) → report_spelling r ≡ flag_of r ∷ report_fields r
report_tagged None = refl
report_tagged (Some (ballot, entry)) = refl

abbrev IsFlagged : ℕ → Option (ℕ × Entry) → Type 0
IsFlagged flag r = IsValidReport r × (flag_of r ≡ flag)

report_of_takes : (flag : ℕ) → IsWithin 0 1 flag → Takes report_fields (IsFlagged flag) (report_of flag)
unfolding report_of
report_of_takes flag in_range =
    if_takes (eqb flag 0) report_fields (IsFlagged flag) _ _
    (λ e. give_takes None report_fields (IsFlagged flag) refl (tt, sym (eqb-true flag 0 e)))
    (λ n0. let one_is : 1 ≡ flag = omega (arith, eqb-false flag 0 n0, in_range.1) in
    two_takes (four_in 0 2147483647) entry_at (λ ballot entry. Some (ballot, entry)) four (IsWithin 0 2147483647) entry_spelling IsValidEntry report_fields (IsFlagged flag) (four_takes 0 2147483647) entry_takes
    (λ a b x y. (refl, ((omega (arith, x.1), y), one_is))))

report_takes : Takes report_spelling IsValidReport report_at
unfolding report_at
report_takes = tagged_takes flag_of report_spelling report_fields IsValidReport (IsWithin 0 1) (byte_in 0 1) report_of report_tagged (byte_takes 0 1) report_of_takes

report_of_reads : (r : Option (ℕ × Entry)) → IsValidReport r → Reads Short r (report_fields r) (report_of (flag_of r))
unfolding report_of
report_of_reads None valid = give_reads Short None
report_of_reads (Some (ballot, entry)) valid = two_reads Short (four_in 0 2147483647) entry_at (λ b e. Some (b, e)) ballot entry (four ballot) (entry_spelling entry) (ballot_reads ballot valid.0) (entry_reads entry valid.1)

flag_in : (r : Option (ℕ × Entry)) → flag_of r ≤ 1
flag_in None = omega arith
flag_in (Some r) = omega arith

report_reads : (r : Option (ℕ × Entry)) → IsValidReport r → Reads Short r (report_spelling r) report_at
unfolding report_at
report_reads r valid =
    subst (λ (t : List ℕ). Reads Short r t (λ bytes at. byte_in 0 1 bytes at >>= λ flag. report_of flag.0 bytes flag.1)) (sym (report_tagged r))
    (then_reads Short (byte_in 0 1) report_of (flag_of r) r (single (flag_of r)) (report_fields r) (byte_reads 0 1 (flag_of r) (omega arith) (flag_in r) (omega arith)) (report_of_reads r valid))

-- ---- kinds

abbrev IsOfKind : ℕ → What → Type 0
IsOfKind kind w = IsValidWhat w × (kind_of w ≡ kind)

abbrev P : ℕ → Type 0
P = IsWithin 0 (2 ^ 48)

places : Takes eight P (eight_in 0 (2 ^ 48))
places = eight_takes 0 (2 ^ 48)

abbrev S : ℕ → Type 0
S = IsWithin 0 999999

slots : Takes four S (four_in 0 999999)
slots = four_takes 0 999999

abbrev B : ℕ → Type 0
B = IsWithin 0 2147483647

ballots : Takes four B (four_in 0 2147483647)
ballots = four_takes 0 2147483647

client_takes : (kind : ℕ) → 1 ≤ kind → kind ≤ 4 → Takes fields_of (IsOfKind kind) (client_kind kind)
unfolding client_kind
client_takes kind least most =
    if_takes (eqb kind 1) fields_of (IsOfKind kind) _ _
    (λ e. three_takes place_at place_at body_at whats.Append eight P eight P sized (λ body. IsWithin 0 1024 (length body)) fields_of (IsOfKind kind) places places body_takes (λ a b c x y z. (refl, ((x.1, y.1, z.1), sym (eqb-true kind 1 e)))))
    (λ n1. if_takes (eqb kind 2) fields_of (IsOfKind kind) _ _
    (λ e. two_takes place_at place_at whats.Ack eight P eight P fields_of (IsOfKind kind) places places (λ a b x y. (refl, ((x.1, y.1), sym (eqb-true kind 2 e)))))
    (λ n2. if_takes (eqb kind 3) fields_of (IsOfKind kind) _ _
    (λ e. two_takes place_at place_at whats.AskFate eight P eight P fields_of (IsOfKind kind) places places (λ a b x y. (refl, ((x.1, y.1), sym (eqb-true kind 3 e)))))
    (λ n3. let last : 4 ≡ kind = omega (arith, eqb-false kind 1 n1, eqb-false kind 2 n2, eqb-false kind 3 n3) in
    one_takes place_at whats.Fate eight P fields_of (IsOfKind kind) places (λ a x. (refl, (x.1, last))))))

replica_takes : (kind : ℕ) → 5 ≤ kind → kind ≤ 10 → Takes fields_of (IsOfKind kind) (replica_kind kind)
unfolding replica_kind
replica_takes kind least most =
    if_takes (eqb kind 5) fields_of (IsOfKind kind) _ _
    (λ e. two_takes place_at record_at whats.Replicate eight P record_spelling IsValidRecord fields_of (IsOfKind kind) places record_takes (λ a b x y. (refl, ((x.1, y), sym (eqb-true kind 5 e)))))
    (λ n5. if_takes (eqb kind 6) fields_of (IsOfKind kind) _ _
    (λ e. one_takes place_at whats.Replicated eight P fields_of (IsOfKind kind) places (λ a x. (refl, (x.1, sym (eqb-true kind 6 e)))))
    (λ n6. if_takes (eqb kind 7) fields_of (IsOfKind kind) _ _
    (λ e. one_takes place_at whats.Report eight P fields_of (IsOfKind kind) places (λ a x. (refl, (x.1, sym (eqb-true kind 7 e)))))
    (λ n7. if_takes (eqb kind 8) fields_of (IsOfKind kind) _ _
    (λ e. one_takes place_at whats.Fill eight P fields_of (IsOfKind kind) places (λ a x. (refl, (x.1, sym (eqb-true kind 8 e)))))
    (λ n8. if_takes (eqb kind 9) fields_of (IsOfKind kind) _ _
    (λ e. two_takes place_at record_at whats.Deliver eight P record_spelling IsValidRecord fields_of (IsOfKind kind) places record_takes (λ a b x y. (refl, ((x.1, y), sym (eqb-true kind 9 e)))))
    (λ n9. let last : 10 ≡ kind = omega (arith, eqb-false kind 5 n5, eqb-false kind 6 n6, eqb-false kind 7 n7, eqb-false kind 8 n8, eqb-false kind 9 n9) in
    one_takes place_at whats.Fetch eight P fields_of (IsOfKind kind) places (λ a x. (refl, (x.1, last))))))))

sequencer_takes : (kind : ℕ) → 11 ≤ kind → kind ≤ 16 → Takes fields_of (IsOfKind kind) (sequencer_kind kind)
unfolding sequencer_kind
sequencer_takes kind least most =
    if_takes (eqb kind 11) fields_of (IsOfKind kind) _ _
    (λ e. two_takes slot_at ballot_at whats.Prepare four S four B fields_of (IsOfKind kind) slots ballots (λ a b x y. (refl, ((omega (arith, x.1), omega (arith, y.1)), sym (eqb-true kind 11 e)))))
    (λ n11. if_takes (eqb kind 12) fields_of (IsOfKind kind) _ _
    (λ e. three_takes slot_at ballot_at report_at whats.Promise four S four B report_spelling IsValidReport fields_of (IsOfKind kind) slots ballots report_takes (λ a b c x y z. (refl, ((omega (arith, x.1), omega (arith, y.1), z), sym (eqb-true kind 12 e)))))
    (λ n12. if_takes (eqb kind 13) fields_of (IsOfKind kind) _ _
    (λ e. three_takes slot_at ballot_at entry_at whats.Accept four S four B entry_spelling IsValidEntry fields_of (IsOfKind kind) slots ballots entry_takes (λ a b c x y z. (refl, ((omega (arith, x.1), omega (arith, y.1), z), sym (eqb-true kind 13 e)))))
    (λ n13. if_takes (eqb kind 14) fields_of (IsOfKind kind) _ _
    (λ e. two_takes slot_at ballot_at whats.Accepted four S four B fields_of (IsOfKind kind) slots ballots (λ a b x y. (refl, ((omega (arith, x.1), omega (arith, y.1)), sym (eqb-true kind 14 e)))))
    (λ n14. if_takes (eqb kind 15) fields_of (IsOfKind kind) _ _
    (λ e. three_takes slot_at (four_in 1 1000000) entry_at whats.Decided four S four (IsWithin 1 1000000) entry_spelling IsValidEntry fields_of (IsOfKind kind) slots (four_takes 1 1000000) entry_takes (λ a b c x y z. (refl, ((omega (arith, x.1), y.0, y.1, z), sym (eqb-true kind 15 e)))))
    (λ n15. let last : 16 ≡ kind = omega (arith, eqb-false kind 11 n11, eqb-false kind 12 n12, eqb-false kind 13 n13, eqb-false kind 14 n14, eqb-false kind 15 n15) in
    one_takes slot_at whats.Learn four S fields_of (IsOfKind kind) slots (λ a x. (refl, (omega (arith, x.1), last))))))))

what_of_takes : (kind : ℕ) → IsWithin 1 16 kind → Takes fields_of (IsOfKind kind) (what_of kind)
unfolding what_of
what_of_takes kind in_range =
    if_takes (ltb kind 5) fields_of (IsOfKind kind) (client_kind kind) _
    (λ e. let below : kind < 5 = ltb-true kind 5 e in client_takes kind in_range.0 (omega arith))
    (λ n. if_takes (ltb kind 11) fields_of (IsOfKind kind) (replica_kind kind) (sequencer_kind kind)
    (λ e. let above : 5 ≤ kind = ltb-false kind 5 n in let below : kind < 11 = ltb-true kind 11 e in replica_takes kind above (omega arith))
    (λ m. sequencer_takes kind (ltb-false kind 11 m) in_range.1))

abbrev what_spelling : What → List ℕ
what_spelling w = kind_of w ∷ fields_of w

what_takes : Takes what_spelling IsValidWhat what_at
unfolding what_at
what_takes = tagged_takes kind_of what_spelling fields_of IsValidWhat (IsWithin 1 16) (kind_in 1 16) what_of (λ w. refl) (kind_takes 1 16) what_of_takes

what_of_reads : (w : What) → IsValidWhat w → Reads Short w (fields_of w) (what_of (kind_of w))
unfolding what_of client_kind replica_kind sequencer_kind
what_of_reads (whats.Append first number body) v = three_reads Short place_at place_at body_at whats.Append first number body (eight first) (eight number) (sized body) (place_reads first v.0) (place_reads number v.1) (body_reads body v.2)
what_of_reads (whats.Ack number position) v = two_reads Short place_at place_at whats.Ack number position (eight number) (eight position) (place_reads number v.0) (place_reads position v.1)
what_of_reads (whats.AskFate first least) v = two_reads Short place_at place_at whats.AskFate first least (eight first) (eight least) (place_reads first v.0) (place_reads least v.1)
what_of_reads (whats.Fate next) v = one_reads Short place_at whats.Fate next (eight next) (place_reads next v)
what_of_reads (whats.Replicate local rec) v = two_reads Short place_at record_at whats.Replicate local rec (eight local) (record_spelling rec) (place_reads local v.0) (record_reads rec v.1)
what_of_reads (whats.Replicated len) v = one_reads Short place_at whats.Replicated len (eight len) (place_reads len v)
what_of_reads (whats.Report len) v = one_reads Short place_at whats.Report len (eight len) (place_reads len v)
what_of_reads (whats.Fill wanted) v = one_reads Short place_at whats.Fill wanted (eight wanted) (place_reads wanted v)
what_of_reads (whats.Deliver local rec) v = two_reads Short place_at record_at whats.Deliver local rec (eight local) (record_spelling rec) (place_reads local v.0) (record_reads rec v.1)
what_of_reads (whats.Fetch local) v = one_reads Short place_at whats.Fetch local (eight local) (place_reads local v)
what_of_reads (whats.Prepare slot ballot) v = two_reads Short slot_at ballot_at whats.Prepare slot ballot (four slot) (four ballot) (slot_reads slot v.0) (ballot_reads ballot v.1)
what_of_reads (whats.Promise slot ballot accepted) v = three_reads Short slot_at ballot_at report_at whats.Promise slot ballot accepted (four slot) (four ballot) (report_spelling accepted) (slot_reads slot v.0) (ballot_reads ballot v.1) (report_reads accepted v.2)
what_of_reads (whats.Accept slot ballot entry) v = three_reads Short slot_at ballot_at entry_at whats.Accept slot ballot entry (four slot) (four ballot) (entry_spelling entry) (slot_reads slot v.0) (ballot_reads ballot v.1) (entry_reads entry v.2)
what_of_reads (whats.Accepted slot ballot) v = two_reads Short slot_at ballot_at whats.Accepted slot ballot (four slot) (four ballot) (slot_reads slot v.0) (ballot_reads ballot v.1)
what_of_reads (whats.Decided slot count entry) v = three_reads Short slot_at (four_in 1 1000000) entry_at whats.Decided slot count entry (four slot) (four count) (entry_spelling entry) (slot_reads slot v.0) (four_reads 1 1000000 count v.1 v.2 (omega arith)) (entry_reads entry v.3)
what_of_reads (whats.Learn slot) v = one_reads Short slot_at whats.Learn slot (four slot) (slot_reads slot v)

kind_within : (w : What) → IsWithin 1 16 (kind_of w)
kind_within (whats.Append first number body) = (omega arith, omega arith)
kind_within (whats.Ack number position) = (omega arith, omega arith)
kind_within (whats.AskFate first least) = (omega arith, omega arith)
kind_within (whats.Fate next) = (omega arith, omega arith)
kind_within (whats.Replicate local rec) = (omega arith, omega arith)
kind_within (whats.Replicated len) = (omega arith, omega arith)
kind_within (whats.Report len) = (omega arith, omega arith)
kind_within (whats.Fill wanted) = (omega arith, omega arith)
kind_within (whats.Deliver local rec) = (omega arith, omega arith)
kind_within (whats.Fetch local) = (omega arith, omega arith)
kind_within (whats.Prepare slot ballot) = (omega arith, omega arith)
kind_within (whats.Promise slot ballot accepted) = (omega arith, omega arith)
kind_within (whats.Accept slot ballot entry) = (omega arith, omega arith)
kind_within (whats.Accepted slot ballot) = (omega arith, omega arith)
kind_within (whats.Decided slot count entry) = (omega arith, omega arith)
kind_within (whats.Learn slot) = (omega arith, omega arith)

what_reads : (w : What) → IsValidWhat w → Reads Short w (what_spelling w) what_at
unfolding what_at
what_reads w v =
    let k = kind_within w in
    then_reads Short (kind_in 1 16) what_of (kind_of w) w (single (kind_of w)) (fields_of w) (kind_reads 1 16 (kind_of w) k.0 k.1 (omega arith)) (what_of_reads w v)

-- ---- messages

-- a message without its version
abbrev letter : Message → List ℕ
letter m = node_spelling m.from ++ node_spelling m.to ++ what_spelling m.what

letter_takes : (n : ℕ) → IsWithin 1 1 n → Takes letter (λ m. IsValidMessage m × (1 ≡ n)) letter_at
unfolding letter_at
letter_takes n in_range =
    let one_is : 1 ≡ n = omega (arith, in_range.0, in_range.1) in
    three_takes node_at node_at what_at (λ from to what. record { from = from; to = to; what = what }) node_spelling IsValidNode node_spelling IsValidNode what_spelling IsValidWhat letter (λ m. IsValidMessage m × (1 ≡ n)) node_takes node_takes what_takes
    (λ a b c x y z. (refl, (record { from = x; to = y; what = z }, one_is)))

pub message_takes : Takes message_spelling IsValidMessage message_at
unfolding message_at
message_takes = tagged_takes (λ m. 1) message_spelling letter IsValidMessage (IsWithin 1 1) (kind_in 1 1) (λ version. letter_at) (λ m. refl) (kind_takes 1 1) letter_takes

pub message_reads : (m : Message) → IsValidMessage m → Reads Short m (message_spelling m) message_at
unfolding message_at letter_at
message_reads m v =
    then_reads Short (kind_in 1 1) (λ version. letter_at) 1 m (single 1) (letter m) (kind_reads 1 1 1 (omega arith) (omega arith) (omega arith))
    (three_reads Short node_at node_at what_at (λ from to what. record { from = from; to = to; what = what }) m.from m.to m.what (node_spelling m.from) (node_spelling m.to) (what_spelling m.what) (node_reads m.from v.from) (node_reads m.to v.to) (what_reads m.what v.what))

-- ---- for decode

pub message_found : (bytes : List ℕ) (result : Result Message WireError) → IsBytes bytes → Gives result (whole_message bytes)
    → IfOk result (λ m. IsValidMessage m × (bytes ≡ message_spelling m))
unfolding whole_message
message_found bytes (Ok m) fits e =
    let b = bind_ok (message_at bytes 0) (λ x. cond (ltb x.1 (length bytes)) (Err (Trailing x.1)) (Ok x.0)) m e in
    let g = guard_ok (ltb b.0.1 (length bytes)) (Trailing b.0.1) b.0.0 m b.2 in
    let t = message_takes.took bytes 0 b.0 fits b.1 in
    let over : drop b.0.1 bytes ≡ [] = drop_all b.0.1 bytes (ltb-false b.0.1 (length bytes) g.0) in
    let whole : bytes ≡ message_spelling b.0.0 = t.0.parts ∙ ap (λ (rest : List ℕ). message_spelling b.0.0 ++ rest) over ∙ append-nil (message_spelling b.0.0) in
    subst (λ (y : Message). IsValidMessage y × (bytes ≡ message_spelling y)) g.1 (t.1, whole)
message_found bytes (Err e) fits h = tt

pub message_only : (bytes : List ℕ) (result : Result Message WireError) → Gives result (whole_message bytes) → (m : Message) → IsValidMessage m
    → bytes ≡ message_spelling m → Gives result (Ok m)
unfolding whole_message
message_only bytes result given m valid e =
    let read = (message_reads m valid).again bytes 0 [] (e ∙ sym (append-nil (message_spelling m))) in
    let ended : ltb (0 + length (message_spelling m)) (length bytes) ≡ false = le-ltb _ _ (omega (arith, ap length e)) in
    let whole : whole_message bytes ≡ Ok m = rw (read, ended) refl in
    subst (Gives result) whole given

-- ---- for the laws

pub messages_apart : (a b : Message) (x y : List ℕ) → IsValidMessage a → IsValidMessage b → message_spelling a ++ x ≡ message_spelling b ++ y
    → (a ≡ b) × (x ≡ y)
messages_apart a b x y va vb e = apart Short message_at message_spelling a b x y (message_reads a va) (message_reads b vb) e

pub message_cut : (m : Message) (front more : List ℕ) → IsValidMessage m → front ++ more ≡ message_spelling m → 0 < length more
    → whole_message front ≡ Err Short
unfolding whole_message
message_cut m front more valid e some = rw ((message_reads m valid).cut front 0 more e some) refl
