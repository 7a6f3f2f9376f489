-- What a consumer's step comes to hold of one owner is what it held, or what came in reach; a restart leaves nothing held.
use Rattle.std.proofs.Common.{◌≡◌, ◌⊎◌, ◌∙◌, ℕ, ◌+◌, ◌<◌, List, [], ◌∷◌, None, refl, sym, ap, subst, inl, inr, arith}
use Rattle.std.specs.Prelude.{is_some, IsSome}
use Rattle.std.specs.List.{fold}
use Rattle.fix_ante.specs.declared.spots.Owner.{Owner}
use Rattle.cut_core.specs.declared.gone.Gone.{Gone}
use Rattle.spec_delivery.specs.Lanes.{LaneState, held_at, emptied, after_put, raised, closed}
use Rattle.spec_delivery.specs.Buffers.{lane_of, answer_to, with_record, with_floor}
use Rattle.msg_wire.specs.Nodes.{number_of}
use Rattle.node_rules.specs.Names.{NodeId, Record, Event}
use Rattle.node_rules.specs.Names.events
use Rattle.node_rules.specs.Names.whats
use Rattle.node_rules.specs.Nodes.{Node}
use Rattle.node_rules.specs.Turns.{Turn, own_of, agreed}
use Rattle.node_rules.proofs.Places.{Comes}
use Rattle.consumer_node.specs.Apps.{Meaning}
use Rattle.consumer_node.specs.Restart.{reset_own}
use Rattle.consumer_node.specs.Rules.{close}
use Rattle.consumer_node.specs.Speculation.{held_of}
use Rattle.consumer_node.specs.States.{ConsumerState}
use Rattle.consumer_node.specs.Steps.{consumer_step}
use Rattle.consumer_node.proofs.Closings.{lane_set, set_each, lane_mapped}
use Rattle.consumer_node.proofs.Lanes.{put_one}
use Rattle.consumer_node.proofs.Places.{Stage, all_applied, output_due, StagedSites, Unsent, unsent_stages}
use Rattle.consumer_node.proofs.Walk.{staged_walk}
use Rattle.safety_consumers.proofs.HandedLanes.{was_there, none_raised, none_closed, held_or_put}

-- ---- lanes that are closed, and one that is confirmed

module _ (o : Owner) where
  floors_closed : (gs : List Gone) (lanes : List LaneState) (shard : ℕ) → (lane_of (fold close lanes gs) shard).floor ≡ (lane_of lanes shard).floor
  floors_closed [] lanes shard = refl
  floors_closed (g ∷ gs) lanes shard =
      floors_closed gs (close lanes g) shard
      ∙ set_each (λ before after. after.floor ≡ before.floor) lanes g.shard (closed (lane_of lanes g.shard) g.end) (λ lane. refl) refl shard

  none_closed_all : (gs : List Gone) (lanes : List LaneState) → held_of lanes o ≡ None → held_of (fold close lanes gs) o ≡ None
  none_closed_all [] lanes none = none
  none_closed_all (g ∷ gs) lanes none =
      none_closed_all gs (close lanes g)
      (set_each (λ before after. held_at before o.local ≡ None → held_at after o.local ≡ None) lanes g.shard (closed (lane_of lanes g.shard) g.end)
      (λ lane is. is) (none_closed (lane_of lanes g.shard) g.end o.local) o.shard none)

  pub none_confirmed : (lanes : List LaneState) (shard : ℕ) → held_of lanes o ≡ None → held_of (with_floor lanes shard) o ≡ None
  none_confirmed lanes shard none =
      set_each (λ before after. held_at before o.local ≡ None → held_at after o.local ≡ None) lanes shard (raised (lane_of lanes shard)) (λ lane is. is)
      (none_raised (lane_of lanes shard) o.local) o.shard none

-- ---- a step that is no restart

module _ {A : Type 0} (app : Meaning A) (n : Node (ConsumerState A)) (event : Event) (o : Owner) (other : event ≡ events.Restart → ⊥) where
  -- its record comes, in reach
  pub record IsDelivered : Type 0 where
    pub from : NodeId
    pub rec : Record
    pub comes : Comes n event from (whats.Deliver o.local rec)
    pub shard : number_of from ≡ o.shard
    pub near : o.local < (lane_of n.own.lanes o.shard).floor + 640

  -- until records are confirmed the floors stand
  abbrev FloorStands : Stage → ConsumerState A → Type 0
  FloorStands all_applied s = Unit {0}
  FloorStands (output_due output) s = Unit {0}
  FloorStands _ s = (lane_of s.lanes o.shard).floor ≡ (lane_of n.own.lanes o.shard).floor

  abbrev pub HeldOrDelivered : List LaneState → Type 0
  HeldOrDelivered lanes = IsSome (held_of lanes o) → IsSome (held_of n.own.lanes o) ⊎ IsDelivered

  abbrev Accounts : Stage → Turn (ConsumerState A) → Type 0
  Accounts stage t = FloorStands stage (own_of t) × HeldOrDelivered (own_of t).lanes

  held_put : (lanes : List LaneState) (from : NodeId) (local : ℕ) (rec : Record) → Comes n event from (whats.Deliver local rec)
      → (lane_of lanes o.shard).floor ≡ (lane_of n.own.lanes o.shard).floor → HeldOrDelivered lanes
      → HeldOrDelivered (with_record lanes (number_of from) local rec)
  held_put lanes from local rec comes floor before held =
      let shard : ℕ = number_of from in
      let lane = lane_of lanes shard in
      elim (lane_set lanes shard (after_put (answer_to lanes shard local) lane local rec) o.shard) [
        | inl same ↦ before (ap (λ (l : LaneState). is_some (held_at l o.local)) (sym same) ∙ held)
        | inr here ↦
            elim (held_or_put lane local o.local rec (ap (λ (l : LaneState). is_some (held_at l o.local)) (sym here.1) ∙ held)) [
              | inl was ↦ before (ap (λ (k : ℕ). is_some (held_at (lane_of lanes k) o.local)) (sym here.0) ∙ was)
              | inr put ↦
                  inr (record {
                    from = from;
                    rec = rec;
                    comes = subst (λ (l : ℕ). Comes n event from (whats.Deliver l rec)) put.0 comes;
                    shard = here.0;
                    near = omega (arith, put.0, put.1, floor, ap (λ (k : ℕ). (lane_of lanes k).floor) here.0);
                  })
            ]
      ]

  accounting_sites : StagedSites app (Unsent Accounts) n event
  accounting_sites =
      unsent_stages app Accounts n event
      (record {
        holds = λ t from local rec comes w.
            let lanes = (own_of t).lanes in
            let shard : ℕ = number_of from in (
              set_each (λ before after. after.floor ≡ before.floor) lanes shard (after_put (answer_to lanes shard local) (lane_of lanes shard) local rec)
                  (λ lane. refl) (put_one (lane_of lanes shard) local rec).floor o.shard ∙ w.0,
              held_put lanes from local rec comes w.0 w.1,
            );
        learns = λ t entry told w. w;
        notices = λ t shard first w. w;
        undoes = λ t first past w. w;
        undoes_none = λ t first none w. w;
        moves_none = λ t effect stays w. w;
        closes = λ t w.
            let lanes = (own_of t).lanes in (
              floors_closed o (agreed t).gone lanes o.shard ∙ w.0,
              λ held. w.1 (was_there (held_of lanes o) (held_of (fold close lanes (agreed t).gone) o) (none_closed_all o (agreed t).gone lanes) held),
            );
        applies = λ t rec held w. w;
        leaves_none = λ t none w. (tt, w.1);
        confirms = λ t rec u why w.
            let lanes = (own_of t).lanes in
            (tt, λ held. w.1 (was_there (held_of lanes o) (held_of (with_floor lanes u.shard) o) (none_confirmed o lanes u.shard) held));
        gives = λ t output some w. w;
        gives_none = λ t output none w. (tt, w.1);
        restarts = λ same w. absurd (other same);
      })

  pub step_holds : HeldOrDelivered (consumer_step app n event).state.own.lanes
  step_holds = (staged_walk app (Unsent Accounts) n event accounting_sites (refl, λ held. inl held)).1

-- ---- a restart holds nothing

pub nothing_left : {A : Type 0} (s : ConsumerState A) (o : Owner) → held_of (reset_own s).lanes o ≡ None
nothing_left s o = ap (λ (lane : LaneState). held_at lane o.local) (lane_mapped emptied s.lanes o.shard refl)
