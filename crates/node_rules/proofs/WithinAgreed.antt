-- What entries agree on names shards that have nodes, where the entries do.
use Rattle.std.proofs.Common.{ℕ, zero, suc, ◌+◌, ◌-◌, ◌*◌, ◌<◌, ◌==◌, List, [], ◌∷◌, ◌++◌, Option, Some, None, sym, subst}
use Rattle.std.specs.List.{AllByRecursion}
use Rattle.fix_ante.specs.declared.spots.Spot.{Spot}
use Rattle.fix_ante.specs.declared.spots.Owner.{Owner}
use Rattle.fix_ante.specs.Windows.{Window, rows_of, spots_from, spots_without, start_after}
use Rattle.fix_ante.specs.Layout.{owners_from, round_of, rounds_from}
use Rattle.cut_core.specs.declared.effects.Reason.{Reason}
use Rattle.cut_core.specs.Agreements.{Agreement, agreement_from, is_last_round}
use Rattle.cut_core.specs.Fold.{with_round, open_granted, after_entry, unless_void, applied, applied_all, fold_of}
use Rattle.cut_core.specs.Map.{rest_of, granted_layout, map_of}
use Rattle.cut_core.specs.Reasons.{fault_of}
use Rattle.msg_wire.specs.Valid.{IsValidConfig}
use Rattle.node_rules.specs.Names.{NodeId, Config, Row, Entry}
use Rattle.node_rules.specs.Names.entries
use Rattle.node_rules.specs.Nodes.{Node, first_window, agreed_by}
use Rattle.node_rules.proofs.Lists.{on_test, all_append}
use Rattle.node_rules.proofs.Within.{HaveNodes, HasNodes, IsWithin}

-- ---- rows, owners and windows

abbrev pub SpotsHaveNodes : Config → List Spot → Type 0
SpotsHaveNodes c = AllByRecursion (λ (s : Spot). s.shard < c.shards)

abbrev pub OwnersHaveNodes : Config → List Owner → Type 0
OwnersHaveNodes c = AllByRecursion (λ (o : Owner). o.shard < c.shards)

spots_of_rows : (c : Config) (start : ℕ → ℕ) (rows : List Row) → HaveNodes c rows → SpotsHaveNodes c (spots_from start rows)
spots_of_rows c start [] all = tt
spots_of_rows c start (r ∷ rows) all = (all.0, spots_of_rows c start rows all.1)

pub rows_of_spots : (c : Config) (spots : List Spot) → SpotsHaveNodes c spots → HaveNodes c (rows_of spots)
rows_of_spots c [] all = tt
rows_of_spots c (s ∷ spots) all = (all.0, rows_of_spots c spots all.1)

fewer_spots : (c : Config) (spots : List Spot) (covered shard : ℕ) → SpotsHaveNodes c spots → SpotsHaveNodes c (spots_without spots covered shard)
fewer_spots c [] covered shard all = tt
fewer_spots c (s ∷ spots) covered shard all =
    on_test (SpotsHaveNodes c) (s.shard == shard) _ _ (λ _. fewer_spots c spots covered shard all.1) (λ _. (all.0, fewer_spots c spots covered shard all.1))

owners_of_shard : (c : Config) (shard local count : ℕ) → shard < c.shards → OwnersHaveNodes c (owners_from shard local count)
owners_of_shard c shard local zero below = tt
owners_of_shard c shard local (suc count) below = (below, owners_of_shard c shard (suc local) count below)

owners_of_round : (c : Config) (spots : List Spot) (round : ℕ) → SpotsHaveNodes c spots → OwnersHaveNodes c (round_of spots round)
owners_of_round c [] round all = tt
owners_of_round c (s ∷ spots) round all =
    all_append (λ (o : Owner). o.shard < c.shards) (owners_from s.shard (s.start + round * s.quota) s.quota) (round_of spots round)
    (owners_of_shard c s.shard (s.start + round * s.quota) s.quota all.0) (owners_of_round c spots round all.1)

owners_of_rounds : (c : Config) (spots : List Spot) (round count : ℕ) → SpotsHaveNodes c spots → OwnersHaveNodes c (rounds_from spots round count)
owners_of_rounds c spots round zero all = tt
owners_of_rounds c spots round (suc count) all =
    all_append (λ (o : Owner). o.shard < c.shards) (round_of spots round) (rounds_from spots (suc round) count)
    (owners_of_round c spots round all) (owners_of_rounds c spots (suc round) count all)

-- ---- agreements

abbrev pub MayBeGranted : Config → Option Window → Type 0
MayBeGranted c None = Unit {0}
MayBeGranted c (Some window) = SpotsHaveNodes c window.spots

-- the rows of its windows and the owners of its positions are shards that have nodes
pub record AgreesWithin (c : Config) (a : Agreement) : Type 0 where
  pub current : SpotsHaveNodes c a.current.spots
  pub granted : MayBeGranted c a.granted
  pub covered : OwnersHaveNodes c a.covered

with_round_within : (c : Config) (a : Agreement) → AgreesWithin c a → AgreesWithin c (with_round a)
with_round_within c a is = record {
  current = is.current;
  granted = is.granted;
  covered = all_append (λ (o : Owner). o.shard < c.shards) a.covered (round_of a.current.spots a.rounds) is.covered (owners_of_round c a.current.spots a.rounds is.current);
}

open_within : (c : Config) (a : Agreement) (granted : Option Window) → MayBeGranted c granted → AgreesWithin c a → AgreesWithin c (open_granted a granted)
open_within c a None has is = is
open_within c a (Some window) has is = record { current = has; granted = tt; covered = is.covered }

entry_within : (c : Config) (a : Agreement) (entry : Entry) → HasNodes c entry → AgreesWithin c a → AgreesWithin c (after_entry a entry)
entry_within c a entries.Nothing has is = is
entry_within c a (entries.Cut window round) has is =
    on_test (AgreesWithin c) (is_last_round a) _ _ (λ _. open_within c (with_round a) a.granted is.granted (with_round_within c a is)) (λ _. with_round_within c a is)
entry_within c a (entries.Table after rounds rows) has is =
    record { current = is.current; granted = spots_of_rows c (start_after a.current.spots a.current.rounds) rows has; covered = is.covered }
entry_within c a (entries.Remove window shard) has is =
    record { current = fewer_spots c a.current.spots a.rounds shard is.current; granted = tt; covered = is.covered }

unless_within : (c : Config) (fault : Option Reason) (before after : Agreement) → AgreesWithin c before → AgreesWithin c after
    → AgreesWithin c (unless_void fault before after)
unless_within c None before after one other = other
unless_within c (Some reason) before after one other = one

applied_within : (c : Config) (a : Agreement) (entry : Entry) → HasNodes c entry → AgreesWithin c a → AgreesWithin c (applied a entry)
applied_within c a entry has is =
    let done = unless_within c (fault_of a entry) a (after_entry a entry) is (entry_within c a entry has is) in
    record { current = done.current; granted = done.granted; covered = done.covered }

applied_all_within : (c : Config) (a : Agreement) (known : List Entry) → AllByRecursion (HasNodes c) known → AgreesWithin c a
    → AgreesWithin c (applied_all a known)
applied_all_within c a [] all is = is
applied_all_within c a (entry ∷ known) all is = applied_all_within c (applied a entry) known all.1 (applied_within c a entry all.0 is)

agrees_within : (c : Config) (known : List Entry) → IsValidConfig c → AllByRecursion (HasNodes c) known → AgreesWithin c (fold_of (first_window c) known)
agrees_within c known valid all =
    applied_all_within c (agreement_from (first_window c)) known all (record { current = spots_of_rows c (λ _. 0) c.table valid.rows.have_nodes; granted = tt; covered = tt })

-- what a node's known entries agree on
pub agreed_within : {c : Config} {S : Type 0} {P : NodeId → S → Type 0} (s : Node S) → IsValidConfig c → IsWithin c S P s → AgreesWithin c (agreed_by s.base)
agreed_within {c} s valid is = subst (λ (d : Config). AgreesWithin c (fold_of (first_window d) s.base.known)) (sym is.cfg) (agrees_within c s.base.known valid is.known)

-- ---- who has a position

granted_owners : (c : Config) (granted : Option Window) → MayBeGranted c granted → OwnersHaveNodes c (granted_layout granted)
granted_owners c None has = tt
granted_owners c (Some window) has = owners_of_rounds c window.spots 0 window.rounds has

pub map_within : (c : Config) (a : Agreement) → AgreesWithin c a → OwnersHaveNodes c (map_of a)
map_within c a is =
    let within : Owner → Type 0 = λ (o : Owner). o.shard < c.shards in
    all_append within a.covered (rest_of a ++ granted_layout a.granted) is.covered
    (all_append within (rest_of a) (granted_layout a.granted)
    (owners_of_rounds c a.current.spots a.rounds (a.current.rounds - a.rounds) is.current)
    (granted_owners c a.granted is.granted))
