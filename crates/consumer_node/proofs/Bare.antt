-- What the stored items give of a consumer: all but what is held and applied, and the ends of the shards, which follow from the known entries.
use Rattle.std.proofs.Common.{◌≡◌, ℕ, zero, suc, ◌<◌, true, List, [], ◌∷◌, length, map, Option, Some, None, refl, sym, ap, ◌∙◌, arith}
use Rattle.std.specs.Prelude.{slice_set}
use Rattle.std.specs.List.{fold}
use Rattle.std.specs.Option.{option_map_or}
use Rattle.std.proofs.lemmas.Bool.{cond-true}
use Rattle.std.proofs.lemmas.List.{length-map, ext_get_or}
use Rattle.consumer_node.specs.inside.Names.{Owner, Gone, count_of, located, gone_end, LaneState, fresh_lane, after_put, put_answer, closed, emptied, lane_of}
use Rattle.consumer_node.specs.inside.Names.{with_record, with_floor, without_records, Meaning, ConsumerState, with_confirmed, close, fit, closed_by, reset_of}
use Rattle.consumer_node.specs.inside.Names.{IsConsumer}
use Rattle.record_codec.specs.declared.record.Record.{Record}
use Rattle.node_rules.specs.Names.{Entry}
use Rattle.node_rules.specs.Names.items
use Rattle.node_rules.specs.Nodes.{Node, reset_base, agreed_by, has_slot, knowing, with_own}
use Rattle.consumer_node.proofs.Lanes.{put_one}
use Rattle.consumer_node.proofs.Closings.{lane_mapped, ended, length_closed, lane_at_end}
use Rattle.consumer_node.proofs.Owners.{agreement_by}

-- a lane of which only the floor is known
abbrev pub bare_lane : LaneState → LaneState
bare_lane lane = record { floor = lane.floor; end = None; held = [] }

abbrev pub bare_lanes : List LaneState → List LaneState
bare_lanes lanes = map bare_lane lanes

abbrev pub bare_own : {A : Type 0} → ConsumerState A → ConsumerState A
bare_own s = record s { lanes = bare_lanes s.lanes; pending = [] }

abbrev pub bare_of : {A : Type 0} → Node (ConsumerState A) → Node (ConsumerState A)
bare_of n = record { base = reset_base n.base; own = bare_own n.own }

-- ---- what leaves it as it is

-- a lane with the same floor
bare_set : (lanes : List LaneState) (shard : ℕ) (lane : LaneState) → lane.floor ≡ (lane_of lanes shard).floor
    → bare_lanes (slice_set lanes shard lane) ≡ bare_lanes lanes
bare_set [] shard lane same = refl
bare_set (x ∷ xs) zero lane same = ap (λ n. record { floor = n; end = None; held = [] } ∷ bare_lanes xs) same
bare_set (x ∷ xs) (suc shard) lane same = ap (λ (rest : List LaneState). bare_lane x ∷ rest) (bare_set xs shard lane same)

-- a record that is held
pub bare_put : (lanes : List LaneState) (shard local : ℕ) (rec : Record) → bare_lanes (with_record lanes shard local rec) ≡ bare_lanes lanes
bare_put lanes shard local rec =
    let lane = lane_of lanes shard in
    bare_set lanes shard (after_put (put_answer lane local) lane local rec) (put_one lane local rec).floor

-- shards that are closed
pub bare_closed : (gs : List Gone) (lanes : List LaneState) → bare_lanes (fold close lanes gs) ≡ bare_lanes lanes
bare_closed [] lanes = refl
bare_closed (g ∷ gs) lanes = bare_closed gs (close lanes g) ∙ bare_set lanes g.shard (closed (lane_of lanes g.shard) g.end) refl

-- a restart
pub bare_without : (lanes : List LaneState) → bare_lanes (without_records lanes) ≡ bare_lanes lanes
bare_without [] = refl
bare_without (x ∷ xs) = ap (λ (rest : List LaneState). bare_lane x ∷ rest) (bare_without xs)

-- ---- what an item leaves

bare_floor : (lanes : List LaneState) (shard : ℕ) → bare_lanes (with_floor lanes shard) ≡ with_floor (bare_lanes lanes) shard
bare_floor [] shard = refl
bare_floor (x ∷ xs) zero = refl
bare_floor (x ∷ xs) (suc shard) = ap (λ (rest : List LaneState). bare_lane x ∷ rest) (bare_floor xs shard)

-- with other lanes
abbrev pub with_bare : {A : Type 0} → Node (ConsumerState A) → ConsumerState A → List LaneState → Node (ConsumerState A)
with_bare n s lanes = record { base = reset_base n.base; own = record s { lanes = lanes; pending = [] } }

-- an entry that is known
pub fits_known : {A : Type 0} (app : Meaning A) (n : Node (ConsumerState A)) (entry : Entry) → has_slot n.base ≡ true
    → fit app (bare_of n) (items.Known entry) ≡ bare_of (record n { base = knowing entry n.base })
fits_known app n entry slot = cond-true (has_slot n.base) _ (bare_of n) slot

-- a record that is confirmed
pub fits_confirmed : {A : Type 0} (app : Meaning A) (n : Node (ConsumerState A)) (rec : Record) (output : List ℕ) (o : Owner)
    → located (agreed_by n.base) n.own.confirmed ≡ Some o
    → fit app (bare_of n) (items.Confirmed rec output) ≡ bare_of (record n { own = with_confirmed app rec o n.own })
fits_confirmed app n rec output o here =
    ap (λ (found : Option Owner). option_map_or (λ u. with_own (with_confirmed app rec u (bare_own n.own)) (bare_of n)) found (bare_of n)) here
    ∙ ap (with_bare n (with_confirmed app rec o n.own)) (sym (bare_floor n.own.lanes o.shard))

-- ---- what is stored gives what a restart leaves

-- a lane of which only the floor is known, where it ends at its end
ended_bare : (end : Option ℕ) (lane : LaneState) → lane.end ≡ end → ended end (bare_lane lane) ≡ emptied lane
ended_bare None lane is = ap (λ (end : Option ℕ). record { floor = lane.floor; end = end; held = [] }) (sym is)
ended_bare (Some at) lane is = ap (λ (end : Option ℕ). record { floor = lane.floor; end = end; held = [] }) (sym is)

closed_lane : {A : Type 0} (n : Node (ConsumerState A)) (shard : ℕ) → IsConsumer n → shard < 6
    → lane_of (fold close (bare_lanes n.own.lanes) (agreed_by n.base).gone) shard ≡ lane_of (without_records n.own.lanes) shard
closed_lane n shard is small =
    let a = agreed_by n.base in
    let lanes = n.own.lanes in
    lane_at_end (λ k. count_of k a.covered) a.gone (bare_lanes lanes) shard (agreement_by n.base is.base).ended (omega (arith, small, is.own.shards, length-map lanes bare_lane))
    ∙ (ap (ended (gone_end a shard)) (lane_mapped bare_lane lanes shard refl)
    ∙ (ended_bare (gone_end a shard) (lane_of lanes shard) (is.own.ends shard small) ∙ sym (lane_mapped emptied lanes shard refl)))

pub closed_bare : {A : Type 0} (n : Node (ConsumerState A)) → IsConsumer n → closed_by (bare_of n) ≡ reset_of n
closed_bare n is =
    let gone = (agreed_by n.base).gone in
    let bare = bare_lanes n.own.lanes in
    let size : length (fold close bare gone) ≡ 6 = length_closed gone bare ∙ (length-map n.own.lanes bare_lane ∙ is.own.shards) in
    let lanes : fold close bare gone ≡ without_records n.own.lanes =
    ext_get_or fresh_lane (fold close bare gone) (without_records n.own.lanes) (size ∙ sym (length-map n.own.lanes emptied ∙ is.own.shards))
    (λ shard below. closed_lane n shard is (omega (arith, below, size))) in
    ap (with_bare n n.own) lanes
