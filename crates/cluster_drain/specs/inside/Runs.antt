-- A drain under way: how many inputs it may still take, and what it leaves.
use Rattle.std.specs.Prelude.{◌≡◌, ℕ, zero, suc, ◌<◌, ◌+◌, ◌≤◌, List, length, get_or, OnOk, Option, Some, None, Result, Ok, Err}
use Rattle.spec_base.specs.declared.disk.Disk.{Ghosts as DiskRules}
use Rattle.net_model.specs.declared.model.NodeModel.{Ghosts as NodeRules}
use Rattle.node_actor.specs.declared.actor.NodeActor.{NodeActor}
use Rattle.node_seats.specs.Seats.{AreGoing}
use Rattle.cluster_drain.specs.declared.drained.Early.{Early}
use Rattle.cluster_drain.specs.declared.drained.Early.TheVariants as early
use Rattle.cluster_drain.specs.declared.draining.Link.{Link}
use Rattle.cluster_drain.specs.declared.draining.Part.{Part}
use Rattle.cluster_drain.specs.declared.draining.Part.TheVariants as parts
use Rattle.cluster_drain.specs.Drains.{CanDrain, Drains, EndsSo, steps_in, ticks_of}

abbrev pub early_of : {T : Type 0} → Result T Early → Option Early
early_of (Ok done) = None
early_of (Err why) = Some why

-- an input was counted: the limit is an error
abbrev pub IsCounted : {T : Type 0} → Result T Early → ℕ → ℕ → Type 0
IsCounted (Ok done) left left' = (left' + 1 ≡ left) × (0 < left')
IsCounted (Err early.Limit) left left' = (left' + 1 ≡ left) × (left' ≡ 0)
IsCounted (Err early.Stopped) left left' = ⊥
IsCounted (Err early.Memory) left left' = ⊥

-- ---- how many ticks the node at each place takes

-- each so many
abbrev pub each : ℕ → ℕ → ℕ
each count place = count

-- so many at one place, none at the others
abbrev pub at_only : ℕ → ℕ → ℕ → ℕ
at_only count zero zero = count
at_only count zero (suc place) = 0
at_only count (suc there) zero = 0
at_only count (suc there) (suc place) = at_only count there place

-- so many at each of the first places
abbrev pub below : ℕ → ℕ → ℕ → ℕ
below count zero place = 0
below count (suc end) zero = count
below count (suc end) (suc place) = below count end place

-- in its part of a walk over all nodes
abbrev pub ticks_told : Part → ℕ
ticks_told parts.Tick = 1
ticks_told parts.Frames = 0

module _ {N D : Type 0} where
  -- the node at each place took as many ticks as these counts say
  abbrev pub Ticked : (ℕ → ℕ) → List (NodeActor N D) → List (NodeActor N D) → Type 0
  Ticked counts before after =
      (place : ℕ) (d : NodeActor N D) → place < length before → ticks_of (get_or after place d) ≡ ticks_of (get_or before place d) + counts place

  -- both ends of a link are at places of these
  pub record IsLinkIn (actors : List (NodeActor N D)) (link : Link) : Type 0 where
    pub from : link.from < length actors
    pub to : link.to < length actors

  -- it can take one more input
  pub record CanRun (rules : NodeRules N) (left : ℕ) (actors : List (NodeActor N D)) : Type 0 where
    pub can : CanDrain rules actors
    pub going : AreGoing actors
    pub some : 0 < left

  -- whether an actor is not stopped
  abbrev pub GoesOn : {T : Type 0} → Result T Early → NodeActor N D → Type 0
  GoesOn (Ok done) actor = actor.stopped ≡ None
  GoesOn (Err early.Stopped) actor = actor.stopped ≡ None → ⊥
  GoesOn (Err early.Limit) actor = ⊥
  GoesOn (Err early.Memory) actor = ⊥

  -- what a part of a drain leaves, in which each node takes so many ticks
  pub record Runs {T : Type 0} (rules : NodeRules N) (disk : DiskRules D) (counts : ℕ → ℕ) (result : Result T Early) (left left' : ℕ)
      (before after : List (NodeActor N D)) : Type 0 where
    pub drains : Drains rules disk before after
    pub took : AreGoing after → steps_in after + left' ≡ steps_in before + left
    pub fewer : left' ≤ left
    pub ends : EndsSo (early_of result) left' after
    pub ticked : OnOk result (Ticked counts before after)
