-- The owners of the map: their shards are 0 to 5, and their locals are within the limits.
use Rattle.std.proofs.Common.{◌≡◌, ℕ, ◌+◌, ◌<◌, ◌≤◌, ◌^◌, true, nat_lt, List, [], ◌∷◌, length, Some, refl, arith}
use Rattle.std.specs.List.{AllByRecursion, list_all}
use Rattle.std.proofs.lemmas.Bool.{and_parts, ltb-true}
use Rattle.quota_table.specs.Rows.{is_row}
use Rattle.consumer_node.specs.inside.Names.{IsValidEntry, Owner, Agreement, agreement_from, map_of, mapped, located, IsValidConfig, Base, first_window, agreed_by}
use Rattle.consumer_node.specs.inside.Names.{IsBase}
use Rattle.cut_core.specs.Fold.{applied, applied_all, HasValidTable}
use Rattle.cut_core.specs.Soundness.{IsSound}
use Rattle.cut_core.proofs.Sound.{IsSound_applied}
use Rattle.cut_core.proofs.Kept.{IsSound_first}
use Rattle.cut_core.proofs.Finding.{dense_below, count_of_le}
use Rattle.cut_core.proofs.GoneEnds.{IsEnded, IsEnded_applied}
use Rattle.cut_core.proofs.Consistent.{IsConsistent_sound}
use Rattle.cut_core.proofs.AgreeingLemmas.{slots_applied_all}
use Rattle.node_rules.specs.Names.{Config, NodeId, Row, Entry}
use Rattle.node_rules.specs.Names.entries
use Rattle.node_rules.specs.Names.nodes
use Rattle.node_rules.proofs.Lists.{all_at, all_weaken}
use Rattle.node_rules.proofs.Within.{HaveNodes, HasNodes, some_sequencer}
use Rattle.node_rules.proofs.WithinAgreed.{AgreesWithin, agreed_within, map_within}

abbrev pub IsSmall : Owner → Type 0
IsSmall o = o.shard < 6

-- ---- entries

-- a cluster whose shards are all the shards that there can be
abbrev six : Config → Config
six c = record c { shards = 6 }

rows_small : (c : Config) (rows : List Row) → list_all is_row rows ≡ true → HaveNodes (six c) rows
rows_small c [] valid = tt
rows_small c (r ∷ rows) valid =
    let parts = and_parts (is_row r) (list_all is_row rows) valid in
    (ltb-true r.shard 6 (and_parts (nat_lt r.shard 6) _ parts.0).0, rows_small c rows parts.1)

entry_good : (c : Config) (entry : Entry) → IsValidEntry entry → HasValidTable entry × HasNodes (six c) entry
entry_good c (entries.Table after rounds rows) valid = ((valid.1.0, valid.1.1, valid.2), rows_small c rows valid.2.within)
entry_good c _ valid = (tt, tt)

-- ---- what is agreed

-- what holds of what a base's entries agree on
pub record IsAgreement (a : Agreement) : Type 0 where
  pub sound : IsSound a
  pub ended : IsEnded a
  pub covered : AllByRecursion IsSmall a.covered
  pub small : AllByRecursion IsSmall (map_of a)
  pub slots : a.slots ≤ 1000000

sound_all : (a : Agreement) (known : List Entry) → IsSound a × IsEnded a → a.slots + length known ≤ 1000000 → AllByRecursion HasValidTable known
    → IsSound (applied_all a known) × IsEnded (applied_all a known)
sound_all a [] is few valid = is
sound_all a (entry ∷ known) is few valid =
    sound_all (applied a entry) known (IsSound_applied a entry is.0 (omega arith) valid.0, IsEnded_applied a entry is.0 is.1) (omega arith) valid.1

-- every window's rows and every owner are of shards that such a cluster has
small_by : (b : Base) → IsBase b → AgreesWithin (six b.cfg) (agreed_by b)
small_by b is =
    let valid : IsValidConfig (six b.cfg) = record {
      seqs = is.cfg.seqs;
      some_shard = omega arith;
      most_shards = omega arith;
      rounds = is.cfg.rounds;
      rows = record { table = is.cfg.rows.table; have_nodes = rows_small b.cfg b.cfg.table is.cfg.rows.table.within };
      some_client = is.cfg.some_client;
      most_clients = is.cfg.most_clients;
      homes = is.cfg.homes;
      some_consumer = is.cfg.some_consumer;
      most_consumers = is.cfg.most_consumers;
    } in
    agreed_within {P = λ (me : NodeId) (own : Unit {0}). Unit {0}}
    (record { base = record { cfg = six b.cfg; me = nodes.Seq 0; known = b.known; seen = 0; ticks = 0 }; own = tt }) valid
    (record {
      cfg = refl;
      me = some_sequencer b.cfg is.cfg;
      known = all_weaken IsValidEntry (HasNodes (six b.cfg)) b.known (λ entry good. (entry_good b.cfg entry good).1) is.entries;
      own = tt;
    })

pub agreement_by : (b : Base) → IsBase b → IsAgreement (agreed_by b)
agreement_by b is =
    let small = small_by b is in
    let valid = all_weaken IsValidEntry HasValidTable b.known (λ entry good. (entry_good b.cfg entry good).0) is.entries in
    let all = sound_all (agreement_from (first_window b.cfg)) b.known
    (IsSound_first b.cfg.rounds b.cfg.table is.cfg.rounds.0 is.cfg.rounds.1 is.cfg.rows.table, tt) (omega (arith, is.few)) valid in
    record {
      sound = all.0;
      ended = all.1;
      covered = small.covered;
      small = map_within (six b.cfg) (agreed_by b) small;
      slots = omega (arith, slots_applied_all (agreement_from (first_window b.cfg)) b.known, is.few);
    }

-- ---- the owners of positions

pub owner_small : (a : Agreement) (p : ℕ) (o : Owner) → IsAgreement a → mapped a p ≡ Some o → o.shard < 6
owner_small a p o is e = all_at IsSmall (map_of a) p o is.small e

pub located_small : (a : Agreement) (p : ℕ) (o : Owner) → IsAgreement a → located a p ≡ Some o → o.shard < 6
located_small a p o is e = all_at IsSmall a.covered p o is.covered e

-- the map reaches no further than this, and so does a local
pub map_reach : (a : Agreement) → IsAgreement a → length (map_of a) < 2 ^ 39
map_reach a is =
    let fits = (IsConsistent_sound a is.sound is.ended).fits in
    omega (arith, fits, is.slots)

pub owner_low : (a : Agreement) (p : ℕ) (o : Owner) → IsAgreement a → mapped a p ≡ Some o → o.local < 2 ^ 39
owner_low a p o is e =
    let dense = (IsConsistent_sound a is.sound is.ended).dense o.shard in
    let below = dense_below (map_of a) o.shard o.local p dense e in
    omega (arith, below, count_of_le o.shard (map_of a), map_reach a is)
