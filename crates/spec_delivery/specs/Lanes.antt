-- The held records of one shard, between its floor and its reach or end.
use Rattle.std.specs.Prelude.{ℕ, ◌+◌, ◌≤◌, ◌<◌, Bool, true, false, ◌||◌, nat_lt, nat_le, Option, Some, None, is_some, List, [], filter, if◌then◌else◌}
use Rattle.std.specs.List.{AllByRecursion}
use Rattle.std.specs.Ordering.{nat_cmp, eq_by_cmp}
use Rattle.std.specs.BTreeMap.{insert_entry}
use Rattle.std.specs.Map.{lookup, remove_entry}
use Rattle.record_codec.specs.declared.record.Record.{Record}
use Rattle.spec_delivery.specs.declared.put.Put.{Put}
use Rattle.spec_delivery.specs.declared.put.Put.TheVariants.{Old, Far, Again, Kept}

-- the records of one shard: how many of its locals are confirmed, its end once it is gone,
-- and each record that is held with its local, in the order of the locals
pub record LaneState : Type 0 where
  pub floor : ℕ
  pub end : Option ℕ
  pub held : List (ℕ × Record)

-- nothing confirmed, not gone, nothing held
abbrev pub fresh_lane : LaneState
fresh_lane = record { floor = 0; end = None; held = [] }

-- the record that is held at a local
abbrev pub held_at : LaneState → ℕ → Option Record
held_at lane local = lookup (eq_by_cmp nat_cmp local) lane.held

-- at or past the end, where there is one
abbrev pub is_past_end : Option ℕ → ℕ → Bool
is_past_end None local = false
is_past_end (Some end) local = nat_le end local

-- before the end, where there is one
abbrev pub IsBeforeEnd : Option ℕ → ℕ → Type 0
IsBeforeEnd None local = Unit {0}
IsBeforeEnd (Some end) local = local < end

-- a local at the floor or less than 640 past it, and before the end, where there is one
abbrev pub IsInReach : LaneState → ℕ → Type 0
IsInReach lane local = (lane.floor ≤ local) × (local < lane.floor + 640) × IsBeforeEnd lane.end local

-- each record that is held is in reach
abbrev pub HoldsInReach : LaneState → Type 0
HoldsInReach lane = AllByRecursion (λ e. IsInReach lane e.0) lane.held

-- what becomes of a record that is put at a local
abbrev pub put_answer : LaneState → ℕ → Put
put_answer lane local =
    if nat_lt local lane.floor then Old
    else if nat_le (lane.floor + 640) local || is_past_end lane.end local then Far
    else if is_some (held_at lane local) then Again
    else Kept

-- the record would be held from now on
abbrev pub is_kept : Put → Bool
is_kept Kept = true
is_kept Old = false
is_kept Far = false
is_kept Again = false

-- the lane then: only a record that is kept changes it
abbrev pub after_put : Put → LaneState → ℕ → Record → LaneState
after_put Kept lane local rec =
    record { floor = lane.floor; end = lane.end; held = insert_entry nat_cmp lane.held local rec }
after_put _ lane local rec = lane

-- one more local is confirmed, and its record is dropped: nothing is held below the floor
abbrev pub raised : LaneState → LaneState
raised lane =
    record { floor = lane.floor + 1; end = lane.end; held = remove_entry (eq_by_cmp nat_cmp lane.floor) lane.held }

-- the shard ends there, and what is at or past the end is dropped
abbrev pub closed : LaneState → ℕ → LaneState
closed lane end =
    record { floor = lane.floor; end = Some end; held = filter (λ e. nat_lt e.0 end) lane.held }

-- nothing is held any more
abbrev pub emptied : LaneState → LaneState
emptied lane = record { floor = lane.floor; end = lane.end; held = [] }
