-- A node for tests: it makes a mark as it comes back, and does nothing else.
use Rattle.std.specs.Prelude.{◌≡◌, ℕ, List, [], ◌∷◌, Option, Some}
use Rattle.std.specs.List.{AllZip}
use Rattle.atomic_table.specs.Seated.{TableId}
use Rattle.cluster_users.specs.Submitting.{Submitting}
use Rattle.cluster_crew.specs.Watching.{Source, IsSubmitterAt}
use Rattle.msg_wire.specs.declared.mark.Mark.TheVariants as marks
use Rattle.msg_wire.specs.Steps.{empty_step}
use Rattle.net_model.specs.Names.{Event, Step}
use Rattle.net_model.specs.Names.events
use Rattle.net_model.specs.declared.viewed.View.{View}
use Rattle.net_model.specs.declared.model.NodeModel.{Ghosts as NodeRules}
use Rattle.net_model.specs.Names.{NodeId}
use Rattle.spec_base.specs.declared.disk.Disk.{Ghosts as DiskRules}
use Rattle.node_actor.specs.Cores.{IsReady, IsInStep, steps_of}
use Rattle.node_actor.specs.declared.node_core.NodeCore.{NodeCore}

abbrev pub toy_gives : Event → Step
toy_gives events.Restart = record { stable = []; sends = []; marks = marks.Notice 0 ∷ [] }
toy_gives events.Tick = empty_step
toy_gives (events.Submit by body) = empty_step
toy_gives (events.Deliver message) = empty_step
toy_gives (events.Command command) = empty_step

abbrev pub toy_view : Option View
toy_view = Some (record { applied = 5; confirmed = 3; shown = [] })

-- a node's core as a run begins, with no links
pub record IsNewCore {N D : Type 0} (rules : NodeRules N) (disk : DiskRules D) (name : NodeId) (core : NodeCore N D) : Type 0 where
  pub name_is : core.name ≡ name
  pub ready : IsReady rules core
  pub in_step : IsInStep rules disk core
  pub none : steps_of core ≡ []
  pub no_links : core.faults.items ≡ []

abbrev pub source_at : TableId → ℕ → List (List ℕ) → Source
source_at desk number bodies = record { number = number; client = 0; desk = desk; bodies = bodies }

-- two submitters of the first client, whose desk this is
abbrev pub AreSources : TableId → List Submitting → Type 0
AreSources desk submitters =
    (first : List (List ℕ)) × (second : List (List ℕ)) × AllZip IsSubmitterAt (source_at desk 0 first ∷ source_at desk 1 second ∷ []) submitters
