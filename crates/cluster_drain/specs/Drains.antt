-- The nodes of a drain, and what it leaves of them.
use Rattle.std.specs.Prelude.{◌≡◌, ℕ, ◌<◌, ◌+◌, List, [], ◌∷◌, length, map, Option, Some, None}
use Rattle.std.specs.List.{AllByRecursion}
use Rattle.link_rows.specs.Rows.{AreLinked}
use Rattle.spec_base.specs.declared.disk.Disk.{Ghosts as DiskRules}
use Rattle.net_model.specs.declared.journal.Stamped.{Stamped}
use Rattle.net_model.specs.declared.model.NodeModel.{Ghosts as NodeRules}
use Rattle.net_model.specs.Names.{Event}
use Rattle.net_model.specs.Names.events
use Rattle.node_actor.specs.declared.actor.NodeActor.{NodeActor}
use Rattle.node_actor.specs.Actors.{CanGoOn}
use Rattle.node_actor.specs.Cores.{steps_of}
use Rattle.node_actor.specs.Ins.{links_to}
use Rattle.node_actor.specs.Lanes.{links_of}
use Rattle.node_seats.specs.Seats.{Seat, AreGoing, AreSeated}
use Rattle.cluster_drain.specs.declared.drained.Early.{Early}
use Rattle.cluster_drain.specs.declared.drained.Early.TheVariants as early

-- how many of these steps are ticks
abbrev pub tick_of : Event → ℕ
tick_of events.Tick = 1
tick_of events.Restart = 0
tick_of (events.Submit by body) = 0
tick_of (events.Deliver message) = 0
tick_of (events.Command command) = 0

abbrev pub ticks_in : List Stamped → ℕ
ticks_in [] = 0
ticks_in (x ∷ steps) = tick_of x.entry.event + ticks_in steps

module _ {N D : Type 0} where
  -- each can go on unless it was stopped, and of each pair one link is shared
  pub record CanDrain (rules : NodeRules N) (actors : List (NodeActor N D)) : Type 0 where
    pub each : AllByRecursion (CanGoOn rules) actors
    pub linked : AreLinked (length actors) (map (λ (a : NodeActor N D). links_of a.outs.items) actors)
        (map (λ (a : NodeActor N D). links_to a.ins.items) actors)

  -- from one moment to a later one: each actor that was at a seat is at it, and none that was stopped goes on
  pub record Drains (rules : NodeRules N) (disk : DiskRules D) (before after : List (NodeActor N D)) : Type 0 where
    pub seated : (seats : List Seat) → AreSeated rules disk seats before → AreSeated rules disk seats after
    pub going : AreGoing after → AreGoing before
    pub as_many : length after ≡ length before
    pub can : CanDrain rules before → CanDrain rules after

  -- how many steps all of them took so far
  abbrev pub steps_in : List (NodeActor N D) → ℕ
  steps_in [] = 0
  steps_in (actor ∷ actors) = length (steps_of actor.core) + steps_in actors

  -- how many ticks an actor took so far
  abbrev pub ticks_of : NodeActor N D → ℕ
  ticks_of actor = ticks_in (steps_of actor.core)

  -- each took so many ticks
  abbrev pub TookTicks : ℕ → List (NodeActor N D) → List (NodeActor N D) → Type 0
  TookTicks count before after = map ticks_of after ≡ map (λ (actor : NodeActor N D). ticks_of actor + count) before

  -- unless one is stopped, so many steps were taken
  abbrev pub TookInputs : ℕ → List (NodeActor N D) → List (NodeActor N D) → Type 0
  TookInputs inputs before after = AreGoing after → steps_in after ≡ steps_in before + inputs

  -- why a drain ended, which may take so many further inputs: at the limit exactly where it may take none; else no node is stopped where it
  -- came to its end, and one is where that is the cause
  abbrev pub EndsSo : Option Early → ℕ → List (NodeActor N D) → Type 0
  EndsSo None left actors = (0 < left) × AreGoing actors
  EndsSo (Some early.Limit) left actors = left ≡ 0
  EndsSo (Some early.Stopped) left actors = (0 < left) × (AreGoing actors → ⊥)
  EndsSo (Some early.Memory) left actors = 0 < left
