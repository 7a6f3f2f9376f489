-- What a consumer's step makes of one owner's record: what is settled stays so, and what comes in reach is settled.
use Rattle.std.proofs.Common.{◌≡◌, ◌∙◌, ℕ, ◌+◌, ◌<◌, true, [], ◌∷◌, length, Option, Some, None, refl, sym, ap, subst, inl, inr, arith}
use Rattle.std.proofs.lemmas.Bool.{cond-true}
use Rattle.std.proofs.lemmas.List.{get_or-set_same}
use Rattle.fix_ante.specs.declared.spots.Owner.{Owner}
use Rattle.cut_core.specs.Agreements.{Agreement, agreement_from, count_of}
use Rattle.cut_core.specs.Fold.{applied}
use Rattle.cut_core.specs.Map.{gone_end}
use Rattle.cut_core.proofs.AgreeingLemmas.{applied_all_push}
use Rattle.cut_core.proofs.GoneEnds.{gone_end_applied_all}
use Rattle.spec_delivery.specs.Lanes.{LaneState, is_past_end, fresh_lane, after_put, raised}
use Rattle.spec_delivery.specs.Buffers.{lane_of, answer_to, with_record}
use Rattle.msg_wire.specs.Heeded.{is_heeded}
use Rattle.msg_wire.specs.Nodes.{number_of}
use Rattle.msg_wire.specs.Valid.{IsValidEvent}
use Rattle.record_codec.specs.Records.{IsValidRecord}
use Rattle.node_rules.specs.Names.{Entry, Record, Message, Event}
use Rattle.node_rules.specs.Names.events
use Rattle.node_rules.specs.Names.whats
use Rattle.node_rules.specs.Nodes.{Node, first_window, agreed_by}
use Rattle.node_rules.specs.Turns.{Turn, started, own_of, agreed}
use Rattle.consumer_node.specs.Apps.{Meaning}
use Rattle.consumer_node.specs.Rules.{hear_deliver, close_all}
use Rattle.consumer_node.specs.Sound.{IsConsumer}
use Rattle.consumer_node.specs.Speculation.{finish}
use Rattle.consumer_node.specs.States.{ConsumerState, with_lanes}
use Rattle.consumer_node.specs.Steps.{hear, consumer_step}
use Rattle.consumer_node.proofs.Closings.{set_each, all_lane, lane_at_end}
use Rattle.consumer_node.proofs.Owned.{own_put}
use Rattle.consumer_node.proofs.Owners.{agreement_by}
use Rattle.consumer_node.proofs.Places.{Stage, between_rules, undo_done, StagedSites}
use Rattle.consumer_node.proofs.Reached.{reached_none}
use Rattle.consumer_node.proofs.Turns.{Keeps, kept_sites}
use Rattle.consumer_node.proofs.Walk.{staged_walk}
use Rattle.safety_consumers.specs.Handed.{IsSettled}
use Rattle.safety_consumers.proofs.HandedLanes.{IsSettledAt, settled_put, settled_raised, settled_ended, put_settles}
use Rattle.safety_consumers.proofs.Stages.{Both, both_sites}

-- ---- one entry more

past_stays : (a : Agreement) (entry : Entry) (shard local : ℕ) (end : Option ℕ) → gone_end a shard ≡ end → is_past_end end local ≡ true
    → is_past_end (gone_end (applied a entry) shard) local ≡ true
past_stays a entry shard local None e past = absurd (cc)
past_stays a entry shard local (Some end) e past =
    subst (λ (o : Option ℕ). is_past_end o local ≡ true) (sym (gone_end_applied_all a (entry ∷ []) shard end e)) past

settled_learned : (a : Agreement) (entry : Entry) (lane : LaneState) (shard local : ℕ) → IsSettledAt (gone_end a shard) lane local
    → IsSettledAt (gone_end (applied a entry) shard) lane local
settled_learned a entry lane shard local (inl low) = inl low
settled_learned a entry lane shard local (inr (inl past)) = inr (inl (past_stays a entry shard local (gone_end a shard) refl past))
settled_learned a entry lane shard local (inr (inr held)) = inr (inr held)

module _ {A : Type 0} (app : Meaning A) (n : Node (ConsumerState A)) (event : Event) (o : Owner) (other : event ≡ events.Restart → ⊥) where
  -- ---- what is settled stays so

  module _ (valid : IsValidEvent event) (small : o.shard < 6) where
    abbrev OwnerSettled : Stage → Turn (ConsumerState A) → Type 0
    OwnerSettled stage t = IsSettled (agreed t) (own_of t) o

    abbrev Settled : Stage → Turn (ConsumerState A) → Type 0
    Settled = Both app (Keeps app n) OwnerSettled n event

    closes_settled : (t : Turn (ConsumerState A)) → Settled undo_done t → IsSettled (agreed (close_all t)) (own_of (close_all t)) o
    closes_settled t w =
        let a : Agreement = agreed t in
        let lanes = (own_of t).lanes in
        let is = agreement_by t.state.base w.0.base in
        let there : o.shard < length lanes = omega (arith, small, w.0.own.shards) in
        subst (λ (lane : LaneState). IsSettledAt (gone_end a o.shard) lane o.local)
        (sym (lane_at_end (λ shard. count_of shard a.covered) a.gone lanes o.shard is.ended there))
        (settled_ended (gone_end a o.shard) (lane_of lanes o.shard) o.local w.1)

    settled_sites : StagedSites app Settled n event
    settled_sites =
        both_sites app (Keeps app n) OwnerSettled n event (kept_sites app n event valid)
        (record {
          holds = λ t from local rec comes w.
              let lanes = (own_of t).lanes in
              let shard : ℕ = number_of from in
              let end = gone_end (agreed t) o.shard in
              set_each (λ before after. IsSettledAt end before o.local → IsSettledAt end after o.local) lanes shard
              (after_put (answer_to lanes shard local) (lane_of lanes shard) local rec) (λ lane settled. settled)
              (settled_put end (lane_of lanes shard) o.local local rec) o.shard w.1;
          learns = λ t entry told w.
              subst (λ (a : Agreement). IsSettled a (own_of t) o)
              (sym (applied_all_push (agreement_from (first_window t.state.base.cfg)) t.state.base.known entry))
              (settled_learned (agreed t) entry (lane_of (own_of t).lanes o.shard) o.shard o.local w.1);
          notices = λ t shard first w. w.1;
          undoes = λ t first past w. w.1;
          undoes_none = λ t first none w. w.1;
          moves_none = λ t effect stays w. w.1;
          closes = λ t w. closes_settled t w;
          applies = λ t rec held w. w.1;
          leaves_none = λ t none w. w.1;
          confirms = λ t rec u why w.
              let lanes = (own_of t).lanes in
              let end = gone_end (agreed t) o.shard in
              set_each (λ before after. IsSettledAt end before o.local → IsSettledAt end after o.local) lanes u.shard (raised (lane_of lanes u.shard))
              (λ lane settled. settled) (settled_raised end (lane_of lanes u.shard) o.local (all_lane lanes u.shard w.0.own.lanes)) o.shard w.1;
          gives = λ t output some w. w.1;
          gives_none = λ t output none w. w.1;
          restarts = λ same w. absurd (other same);
        })

    pub step_settled : IsConsumer n → IsSettled (agreed_by n.base) n.own o
        → IsSettled (agreed_by (consumer_step app n event).state.base) (consumer_step app n event).state.own o
    step_settled is settled =
        let begins : Keeps app n between_rules (started n) =
        record {
          base = is.base;
          own = is.own;
          given = record { leads = refl; reached = reached_none app n.own.base; stable = λ outputs. tt; sends = tt };
        } in
        (staged_walk app Settled n event settled_sites (begins, settled)).1

-- ---- what comes in reach is settled

module _ {A : Type 0} (app : Meaning A) (n : Node (ConsumerState A)) (m : Message) (o : Owner) (rec : Record) where
  -- with the record put
  abbrev put : Node (ConsumerState A)
  put = record { base = n.base; own = with_lanes (with_record n.own.lanes o.shard o.local rec) n.own }

  put_settled : IsConsumer n → o.shard < 6 → o.local < (lane_of n.own.lanes o.shard).floor + 640 → IsSettled (agreed_by n.base) put.own o
  put_settled is small near =
      let lanes = n.own.lanes in
      let lane = lane_of lanes o.shard in
      let after = after_put (answer_to lanes o.shard o.local) lane o.local rec in
      subst (λ (l : LaneState). IsSettledAt (gone_end (agreed_by n.base) o.shard) l o.local)
      (sym (get_or-set_same lanes o.shard after fresh_lane (omega (arith, small, is.own.shards))))
      (subst (λ (end : Option ℕ). IsSettledAt end after o.local) (is.own.ends o.shard small) (put_settles lane o.local rec near))

  -- the step is that of a node which has it
  pub step_settles : is_heeded n.base.cfg n.base.me m ≡ true → m.what ≡ whats.Deliver o.local rec → number_of m.from ≡ o.shard → IsValidRecord rec
      → IsConsumer n → o.shard < 6 → o.local < (lane_of n.own.lanes o.shard).floor + 640
      → IsSettled (agreed_by (consumer_step app n (events.Deliver m)).state.base) (consumer_step app n (events.Deliver m)).state.own o
  step_settles heeded says by valid is small near =
      let t : Turn (ConsumerState A) = started n in
      let same : consumer_step app n (events.Deliver m) ≡ consumer_step app put (events.Submit 0 []) =
      ap (finish app)
      (cond-true (is_heeded n.base.cfg n.base.me m) (hear m.from m.what t) t heeded
      ∙ (ap (λ what. hear m.from what t) says ∙ ap (λ (shard : ℕ). hear_deliver shard o.local rec t) by)) in
      subst (λ (u : Turn (ConsumerState A)). IsSettled (agreed_by u.state.base) u.state.own o) (sym same)
      (step_settled app put (events.Submit 0 []) o (λ e. absurd (cc)) (omega arith, omega arith) small
      (record { base = is.base; own = own_put (agreed_by n.base) n.own o.shard o.local rec valid is.own }) (put_settled is small near))
