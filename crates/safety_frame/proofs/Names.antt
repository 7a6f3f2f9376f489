-- A node keeps its name and its cluster, and speaks in its own name.
use Rattle.std.proofs.Common.{◌≡◌, ◌∙◌, refl, ap}
use Rattle.std.specs.List.{AllByRecursion}
use Rattle.msg_wire.specs.Valid.{IsValidConfig}
use Rattle.net_model.specs.Pasts.{Past}
use Rattle.node_rules.specs.Names.{Message}
use Rattle.node_rules.specs.Nodes.{Node}
use Rattle.node_rules.proofs.Telling.{telling}
use Rattle.node_rules.specs.Turns.{Turn}
use Rattle.node_rules.proofs.Places.{unshown_sites}
use Rattle.runs.specs.Names.{NodeId, Config, Event}
use Rattle.runs.specs.Runs.{IsPastOf}
use Rattle.safety_frame.proofs.NodeKinds.{Kind, after}
use Rattle.safety_frame.proofs.Inductions.{OfStates, every_state}

abbrev pub IsNamed : {S : Type 0} → Config → NodeId → Node S → Type 0
IsNamed cfg node n = (n.base.cfg ≡ cfg) × (n.base.me ≡ node)

module _ {S : Type 0} (k : Kind S) where
  pub step_named : (n : Node S) (event : Event) → IsNamed n.base.cfg n.base.me (k.step n event).state
  step_named n event =
      k.walk _ n event
      (unshown_sites (λ (t : Turn S). IsNamed n.base.cfg n.base.me t.state)
      (record {
        starts = (refl, refl);
        restarts = λ e. (ap (λ b. b.cfg) (k.resets n), ap (λ b. b.me) (k.resets n));
        learns = λ t entry why is. is;
        stores = λ t item own why is. is;
        changes = λ t own why is. is;
      }))

  pub states_named : (cfg : Config) (valid : IsValidConfig cfg) (past : Past) → IsPastOf cfg past
      → OfStates k cfg valid (λ past node n. IsNamed cfg node n) past
  states_named cfg valid =
      every_state k cfg valid (λ past node n. IsNamed cfg node n)
      (record {
        starts = λ node one here. (ap (λ b. b.cfg) (k.starts cfg node), ap (λ b. b.me) (k.starts cfg node));
        steps = λ e past run one before.
            let was = before e.node one run.0.within in
            let keeps = step_named (after k cfg e.node past) e.event in
            (keeps.0 ∙ was.0, keeps.1 ∙ was.1);
        stays = λ e past node n run other is. is;
      })

  -- ---- what a step sends

  pub step_speaks : (n : Node S) (event : Event) → AllByRecursion (λ (m : Message). m.from ≡ (k.step n event).state.base.me) (k.step n event).sends
  step_speaks n event =
      k.walk _ n event
      (telling k.places k.learns (λ s m. m.from ≡ s.base.me) n event
      (record {
        asks = λ s to why. refl;
        says = λ s to what why. refl;
        learns = λ s entry m why is. is;
        sees = λ s count m is. is;
        ticks = λ s m is. is;
        stores = λ s item own m why is. is;
        changes = λ s own m why is. is;
      }))
