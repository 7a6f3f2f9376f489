-- What follows of a valid cluster and of a base that is one: names of nodes, how far positions reach, and that its changes keep it.
use Rattle.std.proofs.Common.{◌≡◌, ◌⊎◌, ℕ, zero, suc, ◌+◌, ◌%◌, ◌<◌, ◌≤◌, ◌^◌, true, nat_lt, List, [], ◌∷◌, length, map, Option, Some, None, arith, length-append}
use Rattle.std.specs.List.{AllByRecursion, range_with_len}
use Rattle.std.proofs.lemmas.Bool.Decides.{nat_tests}
use Rattle.std.proofs.lemmas.Option.{slice_get_within}
use Rattle.cut_core.specs.Fold.{HasValidTable}
use Rattle.cut_core.specs.Map.{covered_locals, placed}
use Rattle.cut_core.specs.Soundness.{IsSound}
use Rattle.cut_core.proofs.Sound.{IsSound_fold_of}
use Rattle.cut_core.proofs.AgreeingLemmas.{slots_applied_all}
use Rattle.cut_core.proofs.Dense.{slice_get_index_of}
use Rattle.cut_core.proofs.Finding.{count_of_le}
use Rattle.cut_core.proofs.Reach.{covered_reach}
use Rattle.quota_table.specs.Entries.{IsValidEntry}
use Rattle.spec_base.specs.Spelling.{IsValidNode}
use Rattle.msg_wire.specs.Valid.{IsValidConfig, IsNodeOf}
use Rattle.msg_wire.specs.Nodes.{is_sequencer, number_of, sequencers_of, consumers_of}
use Rattle.node_rules.specs.Names.{NodeId, Config, Entry}
use Rattle.node_rules.specs.Names.nodes
use Rattle.node_rules.specs.Names.entries
use Rattle.node_rules.specs.Nodes.{Base, agreed_by, fresh_base, reset_base, has_slot, knowing, seeing, ticking, asked_by}
use Rattle.node_rules.specs.Sound.{IsBase}
use Rattle.node_rules.proofs.Lists.{on_test, all_push}

-- ---- a cluster's nodes

pub seqs_within : (n : ℕ) → (n ≡ 1) ⊎ (n ≡ 3) ⊎ (n ≡ 5) → (1 ≤ n) × (n ≤ 5)
seqs_within n h = grind arith

pub node_valid : (c : Config) (node : NodeId) → IsValidConfig c → IsNodeOf c node → IsValidNode node
node_valid c (nodes.Seq n) valid is =
    let below : n < c.seqs = is in
    let few = (seqs_within c.seqs valid.seqs).1 in
    omega arith
node_valid c (nodes.Shard n side) valid is =
    let below : n < c.shards = is in
    let few : c.shards ≤ 6 = valid.most_shards in
    omega arith
node_valid c (nodes.Client n) valid is =
    let below : n < length c.homes = is in
    let few : length c.homes ≤ 6 = valid.most_clients in
    omega arith
node_valid c (nodes.Consumer n) valid is =
    let below : n < c.consumers = is in
    let few : c.consumers ≤ 4 = valid.most_consumers in
    omega arith

-- whom a tick asks
one_of_few : (n seqs : ℕ) → 1 ≤ seqs → seqs ≤ 5 → n % seqs ≤ 4
one_of_few n seqs some few = let below : n % seqs < seqs = omega arith in omega arith

-- what holds of a node that may be asked
abbrev pub MayBe : Option NodeId → Type 0
MayBe None = Unit {0}
MayBe (Some node) = IsValidNode node

pub asked_valid : (b : Base) → IsBase b → MayBe (asked_by b)
asked_valid b h =
    let within = seqs_within b.cfg.seqs h.cfg.seqs in
    on_test MayBe (is_sequencer b.me) _ _
    (λ _. on_test MayBe (nat_lt 1 b.cfg.seqs) _ None (λ _. one_of_few (number_of b.me + 1) b.cfg.seqs within.0 within.1) (λ _. tt))
    (λ _. one_of_few b.ticks b.cfg.seqs within.0 within.1)

-- ---- bases

slot_below : (n : ℕ) → nat_lt n 1000000 ≡ true → n < 1000000
slot_below n h = grind (arith, nat_tests)

pub base_knowing : (entry : Entry) (b : Base) → IsValidEntry entry → has_slot b ≡ true → IsBase b → IsBase (knowing entry b)
base_knowing entry b valid slot h =
    let below : length b.known < 1000000 = slot_below (length b.known) slot in
    record {
      cfg = h.cfg;
      me = h.me;
      entries = all_push IsValidEntry b.known entry h.entries valid;
      few = omega (arith, length-append b.known (entry ∷ []));
      seen = h.seen;
      ticks = h.ticks;
    }

pub base_seeing : (count : ℕ) (b : Base) → count ≤ 1000000 → IsBase b → IsBase (seeing count b)
base_seeing count b few h =
    let seen : b.seen ≤ 1000000 = h.seen in
    record { cfg = h.cfg; me = h.me; entries = h.entries; few = h.few; seen = omega arith; ticks = h.ticks }

pub base_ticking : (b : Base) → IsBase b → IsBase (ticking b)
base_ticking b h = record { cfg = h.cfg; me = h.me; entries = h.entries; few = h.few; seen = h.seen; ticks = omega arith }

-- ---- names

-- a number is that of a shard
pub number_limit : (node : NodeId) → IsValidNode node → number_of node ≤ 5
number_limit (nodes.Seq number) is = omega arith
number_limit (nodes.Shard number side) is = is
number_limit (nodes.Client number) is = is
number_limit (nodes.Consumer number) is = omega arith

valid_range : (make : ℕ → NodeId) (from count limit : ℕ) → ((number : ℕ) → number < limit → IsValidNode (make number)) → from + count ≤ limit
    → AllByRecursion IsValidNode (map make (range_with_len from count))
valid_range make from zero limit each fits = tt
valid_range make from (suc count) limit each fits = (each from (omega arith), valid_range make (from + 1) count limit each (omega arith))

pub valid_sequencers : (c : Config) → IsValidConfig c → AllByRecursion IsValidNode (sequencers_of c)
valid_sequencers c is = valid_range nodes.Seq 0 c.seqs 5 (λ number below. omega arith) (omega (arith, (seqs_within c.seqs is.seqs).1))

pub valid_consumers : (c : Config) → IsValidConfig c → AllByRecursion IsValidNode (consumers_of c)
valid_consumers c is = valid_range nodes.Consumer 0 c.consumers 4 (λ number below. omega arith) (omega (arith, is.most_consumers))

-- ---- what is agreed

foldable : (entry : Entry) → IsValidEntry entry → HasValidTable entry
foldable entries.Nothing valid = tt
foldable (entries.Cut window round) valid = tt
foldable (entries.Table after rounds rows) valid = (valid.1.0, valid.1.1, valid.2)
foldable (entries.Remove window shard) valid = tt

pub all_foldable : (known : List Entry) → AllByRecursion IsValidEntry known → AllByRecursion HasValidTable known
all_foldable [] valid = tt
all_foldable (entry ∷ known) valid = (foldable entry valid.0, all_foldable known valid.1)

pub agreed_sound : (b : Base) → IsBase b → IsSound (agreed_by b)
agreed_sound b is = IsSound_fold_of b.cfg.rounds b.cfg.table b.known is.cfg.rounds.0 is.cfg.rounds.1 is.cfg.rows.table is.few (all_foldable b.known is.entries)

-- at most 2^48 positions are covered
pub covered_limit : (b : Base) → IsBase b → length (agreed_by b).covered ≤ 2 ^ 48
covered_limit b is =
    let slots : (agreed_by b).slots ≡ 0 + length b.known = slots_applied_all _ b.known in
    covered_reach (agreed_by b) (agreed_sound b is) (omega (arith, slots, is.few))

-- and so many locals of a shard
pub locals_limit : (b : Base) (shard : ℕ) → IsBase b → covered_locals (agreed_by b) shard ≤ 2 ^ 48
locals_limit b shard is = omega (arith, count_of_le shard (agreed_by b).covered, covered_limit b is)

-- a covered local has a position below
pub placed_limit : (b : Base) (shard local p : ℕ) → IsBase b → placed (agreed_by b) shard local ≡ Some p → p ≤ 2 ^ 48
placed_limit b shard local p is e =
    omega (arith, slice_get_within (agreed_by b).covered p _ (slice_get_index_of (agreed_by b).covered shard local p e), covered_limit b is)

-- a restart leaves a base
pub base_reset : (b : Base) → IsBase b → IsBase (reset_base b)
base_reset b is = record { cfg = is.cfg; me = is.me; entries = is.entries; few = is.few; seen = omega arith; ticks = omega arith }

-- a node that knows nothing has one
pub base_fresh : (cfg : Config) (me : NodeId) → IsValidConfig cfg → IsNodeOf cfg me → IsBase (fresh_base cfg me)
base_fresh cfg me valid here = record { cfg = valid; me = here; entries = tt; few = omega arith; seen = omega arith; ticks = omega arith }
