-- The records of one shard, where one is put, the oldest goes, the shard ends, or all are dropped.
use Rattle.std.proofs.Common.{◌≡◌, ℕ, ◌+◌, ◌<◌, false, nat_lt, filter, Option, Some, None, refl, sym, subst}
use Rattle.std.specs.Prelude.{nat_le, ◌||◌, is_some}
use Rattle.std.specs.Map.{remove_entry}
use Rattle.std.specs.Option.{IsSome}
use Rattle.std.specs.Ordering.{nat_cmp, eq_by_cmp}
use Rattle.std.proofs.lemmas.Bool.{cond_both, ltb-false, leb-false, or_parts}
use Rattle.record_codec.specs.declared.record.Record.{Record}
use Rattle.consumer_node.specs.inside.Names.{IsValidRecord, IsLane}
use Rattle.spec_delivery.specs.declared.put.Put.{Put}
use Rattle.spec_delivery.specs.declared.put.Put.TheVariants.{Old, Far, Again, Kept}
use Rattle.spec_delivery.specs.Lanes.{LaneState, IsBeforeEnd, IsInReach, fresh_lane, held_at, is_past_end, put_answer, after_put, raised, closed, emptied}
use Rattle.spec_delivery.proofs.LaneLemmas.{all_insert, all_lookup, reach_raised, reach_closed}
use Rattle.consumer_node.proofs.Entries.{order_none, order_insert, order_remove, order_filter, all_filter, records_insert, records_remove, record_found, found_insert, found_below, removed, others_stay}

-- ---- none, and all dropped

pub lane_fresh : IsLane fresh_lane
lane_fresh = record { reach = tt; order = order_none; records = tt }

pub lane_emptied : (lane : LaneState) → IsLane (emptied lane)
lane_emptied lane = record { reach = tt; order = order_none; records = tt }

-- ---- what is held

pub held_valid : (lane : LaneState) (local : ℕ) (rec : Record) → IsLane lane → held_at lane local ≡ Some rec → IsValidRecord rec
held_valid lane local rec h e = record_found IsValidRecord local lane.held rec h.records e

pub held_reach : (lane : LaneState) (local : ℕ) (rec : Record) → IsLane lane → held_at lane local ≡ Some rec → IsInReach lane local
held_reach lane local rec h e =
    let some : IsSome (held_at lane local) = subst (λ (o : Option Record). IsSome o) (sym e) refl in
    all_lookup (IsInReach lane) local lane.held h.reach some

-- ---- a record is put

before_end : (end : Option ℕ) (local : ℕ) → is_past_end end local ≡ false → IsBeforeEnd end local
before_end None local h = tt
before_end (Some end) local h = leb-false end local h

none_held : (o : Option Record) → is_some o ≡ false → o ≡ None
none_held None h = refl
none_held (Some rec) h = absurd (cc)

-- what each answer says
on_answer : (P : Put → Type 0) (lane : LaneState) (local : ℕ) → P Old → P Far → P Again → (IsInReach lane local → held_at lane local ≡ None → P Kept)
    → P (put_answer lane local)
on_answer P lane local old far again kept =
    cond_both (nat_lt local lane.floor) _ _ P (λ _. old)
    (λ low. cond_both (nat_le (lane.floor + 640) local || is_past_end lane.end local) _ _ P (λ _. far)
    (λ near. cond_both (is_some (held_at lane local)) _ _ P (λ _. again)
    (λ free.
    let parts = or_parts (nat_le (lane.floor + 640) local) (is_past_end lane.end local) near in
    kept (ltb-false local lane.floor low, leb-false (lane.floor + 640) local parts.0, before_end lane.end local parts.1) (none_held (held_at lane local) free))))

pub lane_put : (lane : LaneState) (local : ℕ) (rec : Record) → IsValidRecord rec → IsLane lane → IsLane (after_put (put_answer lane local) lane local rec)
lane_put lane local rec valid h =
    on_answer (λ put. IsLane (after_put put lane local rec)) lane local h h h
    (λ reach free. record {
      reach = all_insert (IsInReach lane) lane.held local rec h.reach reach;
      order = order_insert lane.held local rec h.order;
      records = records_insert IsValidRecord lane.held local rec h.records valid;
    })

-- only what is held changes, and nothing goes
pub record IsPut (before after : LaneState) : Type 0 where
  pub floor : after.floor ≡ before.floor
  pub end : after.end ≡ before.end
  pub held : (local : ℕ) (rec : Record) → held_at before local ≡ Some rec → held_at after local ≡ Some rec

pub put_none : (lane : LaneState) → IsPut lane lane
put_none lane = record { floor = refl; end = refl; held = λ local rec e. e }

pub put_one : (lane : LaneState) (local : ℕ) (rec : Record) → IsPut lane (after_put (put_answer lane local) lane local rec)
put_one lane local rec =
    on_answer (λ put. IsPut lane (after_put put lane local rec)) lane local (put_none lane) (put_none lane) (put_none lane)
    (λ reach free. record { floor = refl; end = refl; held = λ other found e. found_insert lane.held local other rec found free e })

-- ---- the floor rises

pub lane_raised : (lane : LaneState) → IsLane lane → IsLane (raised lane)
lane_raised lane h = record {
  reach = reach_raised lane.floor lane.end lane.held (remove_entry (eq_by_cmp nat_cmp lane.floor) lane.held) h.reach refl (removed lane.held lane.floor h.order);
  order = order_remove (eq_by_cmp nat_cmp lane.floor) lane.held h.order;
  records = records_remove IsValidRecord (eq_by_cmp nat_cmp lane.floor) lane.held h.records;
}

pub held_raised : (lane : LaneState) (local : ℕ) → IsLane lane → (lane.floor ≡ local → ⊥) → held_at (raised lane) local ≡ held_at lane local
held_raised lane local h apart = others_stay lane.held lane.floor local h.order apart

-- ---- the shard ends

pub lane_closed : (lane : LaneState) (end : ℕ) → IsLane lane → IsLane (closed lane end)
lane_closed lane end h = record {
  reach = reach_closed lane.floor lane.end end lane.held (filter (λ e. nat_lt e.0 end) lane.held) h.reach refl;
  order = order_filter (λ e. nat_lt e.0 end) lane.held h.order;
  records = all_filter (λ e. IsValidRecord e.1) (λ e. nat_lt e.0 end) lane.held h.records;
}

pub held_closed : (lane : LaneState) (end local : ℕ) → local < end → held_at (closed lane end) local ≡ held_at lane local
held_closed lane end local below = found_below end lane.held local below
