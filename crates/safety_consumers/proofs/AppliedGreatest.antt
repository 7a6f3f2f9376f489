-- As a consumer's step ends, the record of the next position isn't held: all that is held in order was applied, and what is confirmed stays so.
use Rattle.std.proofs.Common.{◌≡◌, ◌∙◌, ◌<◌, List, length, length-drop, Option, Some, None, refl, ap, subst, arith}
use Rattle.std.specs.List.{slice_get}
use Rattle.std.specs.Option.{option_and_then}
use Rattle.std.proofs.lemmas.Option.{slice_get_within}
use Rattle.fix_ante.specs.declared.spots.Owner.{Owner}
use Rattle.cut_core.specs.Agreements.{Agreement}
use Rattle.cut_core.specs.Map.{mapped}
use Rattle.msg_wire.specs.Valid.{IsValidConfig}
use Rattle.net_model.specs.Pasts.{Past}
use Rattle.node_rules.specs.Names.{NodeId, Record, Event}
use Rattle.node_rules.specs.Nodes.{Node, agreed_by}
use Rattle.node_rules.specs.Turns.{Turn, own_of, agreed}
use Rattle.spec_delivery.specs.Lanes.{LaneState, fresh_lane, held_at}
use Rattle.spec_delivery.specs.Buffers.{with_floor, fresh_buffer}
use Rattle.consumer_node.specs.Apps.{Meaning, any_meaning}
use Rattle.consumer_node.specs.Restart.{reset_own}
use Rattle.consumer_node.specs.Sound.{held_for}
use Rattle.consumer_node.specs.Speculation.{held_of, with_confirmed}
use Rattle.consumer_node.specs.States.{ConsumerState, applied_of}
use Rattle.consumer_node.specs.Steps.{consumer_step}
use Rattle.consumer_node.proofs.Places.{Stage, all_applied, output_due, StagedSites, Unsent, unsent_stages}
use Rattle.consumer_node.proofs.Walk.{staged_walk}
use Rattle.runs.specs.Names.{Config}
use Rattle.runs.specs.Names.nodes
use Rattle.runs.specs.Runs.{IsPastOf}
use Rattle.safety_frame.proofs.NodeKinds.{after, consumers}
use Rattle.safety_frame.proofs.Inductions.{OfStates, every_state}
use Rattle.safety_frame.specs.EveryRun.{OfEveryRun}
use Rattle.safety_consumers.specs.Handed.{AppliedIsGreatest}
use Rattle.safety_consumers.proofs.HandedLanes.{same_or}
use Rattle.safety_consumers.proofs.HandedSteps.{none_confirmed, nothing_left}
use Rattle.safety_consumers.proofs.HandedStates.{agreed_is}

-- no record is found where none is held
none_found : (lanes other : List LaneState) (found : Option Owner) → ((o : Owner) → held_of lanes o ≡ None → held_of other o ≡ None)
    → option_and_then (held_of lanes) found ≡ None → option_and_then (held_of other) found ≡ None
none_found lanes other None stays none = refl
none_found lanes other (Some o) stays none = stays o none

none_at_all : (lanes : List LaneState) (found : Option Owner) → ((o : Owner) → held_of lanes o ≡ None) → option_and_then (held_of lanes) found ≡ None
none_at_all lanes None none = refl
none_at_all lanes (Some o) none = none o

-- ---- a step

abbrev pub IsGreatest : {A : Type 0} → Agreement → ConsumerState A → Type 0
IsGreatest a s = held_for a s (applied_of s) ≡ None

module _ {A : Type 0} (app : Meaning A) (n : Node (ConsumerState A)) (event : Event) where
  abbrev AtEnd : Stage → Turn (ConsumerState A) → Type 0
  AtEnd all_applied t = IsGreatest (agreed t) (own_of t)
  AtEnd (output_due output) t = IsGreatest (agreed t) (own_of t)
  AtEnd _ t = Unit {0}

  confirmed_greatest : (a : Agreement) (s : ConsumerState A) (rec : Record) (o : Owner) → slice_get s.pending 0 ≡ Some rec → IsGreatest a s
      → IsGreatest a (with_confirmed app rec o s)
  confirmed_greatest a s rec o oldest none =
      let some : 0 < length s.pending = slice_get_within s.pending 0 rec oldest in
      let same : applied_of (with_confirmed app rec o s) ≡ applied_of s = omega (arith, some, length-drop 1 s.pending) in
      ap (held_for a (with_confirmed app rec o s)) same
      ∙ none_found s.lanes (with_floor s.lanes o.shard) (mapped a (applied_of s)) (λ u. none_confirmed u s.lanes o.shard) none

  greatest_sites : StagedSites app (Unsent AtEnd) n event
  greatest_sites =
      unsent_stages app AtEnd n event
      (record {
        holds = λ t from local rec comes w. tt;
        learns = λ t entry told w. tt;
        notices = λ t shard first w. tt;
        undoes = λ t first past w. tt;
        undoes_none = λ t first none w. tt;
        moves_none = λ t effect stays w. tt;
        closes = λ t w. tt;
        applies = λ t rec held w. tt;
        leaves_none = λ t none w. none;
        confirms = λ t rec o why w. confirmed_greatest (agreed t) (own_of t) rec o why.oldest w;
        gives = λ t output some w. w;
        gives_none = λ t output none w. w;
        restarts = λ same w. none_at_all (reset_own n.own).lanes (mapped (agreed_by n.base) (applied_of (reset_own n.own))) (nothing_left n.own);
      })

  pub step_greatest : IsGreatest (agreed_by (consumer_step app n event).state.base) (consumer_step app n event).state.own
  step_greatest = staged_walk app (Unsent AtEnd) n event greatest_sites tt

-- ---- every run

pub nothing_fresh : (o : Owner) → held_of fresh_buffer o ≡ None
nothing_fresh o = ap (λ (lane : LaneState). held_at lane o.local) (same_or fresh_lane 6 o.shard)

all_greatest : (cfg : Config) (valid : IsValidConfig cfg) (past : Past) → IsPastOf cfg past
    → OfStates consumers cfg valid (λ past node n. IsGreatest (agreed_by n.base) n.own) past
all_greatest cfg valid =
    every_state consumers cfg valid (λ past node n. IsGreatest (agreed_by n.base) n.own)
    (record {
      starts = λ node one here. none_at_all fresh_buffer (mapped (agreed_by (consumers.fresh cfg node).base) 0) nothing_fresh;
      steps = λ e past run one before. step_greatest any_meaning (after consumers cfg e.node past) e.event;
      stays = λ e past node n run other is. is;
    })

pub applied_is_greatest : OfEveryRun AppliedIsGreatest
applied_is_greatest cfg past valid run number here =
    let node : NodeId = nodes.Consumer number in
    let n = after consumers cfg node past in
    subst (λ (a : Agreement). IsGreatest a n.own) (agreed_is cfg valid number here past run) (all_greatest cfg valid past run node refl here)
