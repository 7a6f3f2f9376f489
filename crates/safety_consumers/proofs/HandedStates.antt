-- The state of a consumer of the cluster in a run: what it knows to be agreed, and its floors.
use Rattle.std.proofs.Common.{◌≡◌, ◌∙◌, ℕ, ◌<◌, length, take, refl, sym, ap}
use Rattle.app_law.specs.declared.any_app.AnyApp.{AnyApp}
use Rattle.cut_core.specs.Agreements.{Agreement, count_of}
use Rattle.msg_wire.specs.Valid.{IsValidConfig}
use Rattle.net_model.specs.Pasts.{Past}
use Rattle.node_rules.specs.Nodes.{Node, agreed_by}
use Rattle.spec_delivery.specs.Buffers.{lane_of}
use Rattle.consumer_node.specs.Sound.{IsConsumer}
use Rattle.consumer_node.specs.States.{ConsumerState}
use Rattle.runs.specs.Names.{NodeId, Config}
use Rattle.runs.specs.Names.nodes
use Rattle.runs.specs.Runs.{IsPastOf}
use Rattle.runs.specs.Known.{agreed_at, agreed_after}
use Rattle.runs.specs.Marks.{confirmed_list}
use Rattle.runs.specs.Eagerness.{floor_at}
use Rattle.safety_frame.proofs.NodeKinds.{after, consumers}
use Rattle.safety_frame.proofs.Names.{IsNamed, states_named}
use Rattle.safety_frame.proofs.SoundStates.{states_are}
use Rattle.safety_frame.proofs.StableItems.{known_is}
use Rattle.safety_frame.proofs.StableParts.{consumer_known}
use Rattle.safety_consumers.proofs.Told.{applied_is_the_marks}

module _ (cfg : Config) (valid : IsValidConfig cfg) (number : ℕ) (here : number < cfg.consumers) (past : Past) (run : IsPastOf cfg past) where
  abbrev pub node : NodeId
  node = nodes.Consumer number

  abbrev pub n : Node (ConsumerState AnyApp)
  n = after consumers cfg node past

  pub named : IsNamed cfg node n
  named = states_named consumers cfg valid past run node refl here

  pub agreed_is : agreed_by n.base ≡ agreed_at cfg node past
  agreed_is =
      ap (λ (c : Config). agreed_after c n.base.known) named.0
      ∙ ap (agreed_after cfg) (known_is consumers consumer_known cfg valid past run node refl here)

  pub sound : IsConsumer n
  sound = (states_are consumers cfg valid past run node refl here).is

  pub floor_is : (shard : ℕ) → shard < 6 → (lane_of n.own.lanes shard).floor ≡ floor_at cfg number shard past
  floor_is shard small =
      let counted = (applied_is_the_marks cfg past valid run number).confirmed in
      sound.own.floors shard small
      ∙ (ap (λ (k : ℕ). count_of shard (take k (agreed_by n.base).covered)) (sym counted)
      ∙ ap (λ (a : Agreement). count_of shard (take (length (confirmed_list number past)) a.covered)) agreed_is)
