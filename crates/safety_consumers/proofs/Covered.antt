-- Of every run: what a consumer has is sound, given what it knows; so what it confirmed it knows to be covered.
use Rattle.std.proofs.Common.{◌≡◌, ◌∙◌, ℕ, refl, sym, ap, subst, arith}
use Rattle.cut_core.specs.Agreements.{Agreement}
use Rattle.msg_wire.specs.Valid.{IsValidConfig}
use Rattle.net_model.specs.Pasts.{Past}
use Rattle.node_rules.specs.Nodes.{agreed_by, first_window}
use Rattle.consumer_node.specs.Apps.{any_meaning}
use Rattle.consumer_node.specs.Sound.{IsOwn}
use Rattle.consumer_node.proofs.Owned.{own_fresh}
use Rattle.consumer_node.proofs.Turns.{kept_step}
use Rattle.runs.specs.Names.{Config}
use Rattle.runs.specs.Names.nodes
use Rattle.runs.specs.Runs.{IsPastOf}
use Rattle.runs.specs.Kinds.{consumer_after}
use Rattle.runs.specs.Known.{known_at, agreed_after, agreed_at}
use Rattle.runs.specs.Marks.{known_by}
use Rattle.runs.specs.Consumers.{ConfirmedIsCovered}
use Rattle.safety_frame.proofs.NodeKinds.{consumers}
use Rattle.safety_frame.proofs.Pasts.{other_stored}
use Rattle.safety_frame.proofs.Names.{step_named}
use Rattle.safety_frame.specs.EveryRun.{OfEveryRun}
use Rattle.safety_consumers.proofs.EachConsumer.{Consumer, every_consumer, knows_more, sound_before}
use Rattle.safety_consumers.proofs.Telling.{confirmed_long}
use Rattle.safety_consumers.proofs.Told.{tells}

-- its cluster, what it knows, and what it has
pub record Has (cfg : Config) (past : Past) (number : ℕ) (n : Consumer) : Type 0 where
  pub named : n.base.cfg ≡ cfg
  pub knows : n.base.known ≡ known_at cfg (nodes.Consumer number) past
  pub own : IsOwn (agreed_by n.base) n.own

has : (cfg : Config) → IsValidConfig cfg → (past : Past) → IsPastOf cfg past → (number : ℕ) → Has cfg past number (consumer_after cfg number past)
has cfg valid =
    every_consumer cfg valid (Has cfg)
    (record {
      starts = λ number. record { named = refl; knows = refl; own = own_fresh any_meaning cfg.app (first_window cfg) };
      steps = λ e past number run same before.
          let n = consumer_after cfg number past in
          record {
            named = (step_named consumers n e.event).0 ∙ before.named;
            knows = knows_more cfg e past number run same valid;
            own = (kept_step any_meaning n e.event (sound_before cfg e past number run same valid) run.0.valid).sound.own;
          };
      stays = λ e past number n run other before. record {
        named = before.named;
        knows = before.knows ∙ sym (ap known_by (other_stored cfg (nodes.Consumer number) e past other));
        own = before.own;
      };
    })

pub agreed_is : (cfg : Config) → IsValidConfig cfg → (past : Past) → IsPastOf cfg past → (number : ℕ)
    → agreed_by (consumer_after cfg number past).base ≡ agreed_at cfg (nodes.Consumer number) past
agreed_is cfg valid past run number =
    let is = has cfg valid past run number in
    ap (λ (c : Config). agreed_after c (consumer_after cfg number past).base.known) is.named ∙ ap (agreed_after cfg) is.knows

pub owns : (cfg : Config) → IsValidConfig cfg → (past : Past) → IsPastOf cfg past → (number : ℕ)
    → IsOwn (agreed_at cfg (nodes.Consumer number) past) (consumer_after cfg number past).own
owns cfg valid past run number =
    subst (λ (a : Agreement). IsOwn a (consumer_after cfg number past).own) (agreed_is cfg valid past run number) (has cfg valid past run number).own

pub confirmed_is_covered : OfEveryRun ConfirmedIsCovered
confirmed_is_covered cfg past valid run consumer =
    omega (arith, confirmed_long (tells cfg valid past run consumer), (owns cfg valid past run consumer).confirmed)
