-- A member of a crew at its post: what stays of it, and what holds of it at each moment.
use Rattle.std.specs.Prelude.{◌≡◌, ◌⊎◌, Bool, true, List, [], ◌∷◌, ◌++◌, None, Some, IsTrue, IsSomeAnd, slice_get, ⊤}
use Rattle.atomic_table.specs.Seated.{TableId}
use Rattle.logbook.specs.Pages.{Book}
use Rattle.submit_desk.specs.Passes.{DeskView}
use Rattle.spec_base.specs.declared.disk.Disk.{Ghosts as DiskRules}
use Rattle.view_cell.specs.Ends.{Showing}
use Rattle.view_cell.specs.Looks.{newest_of}
use Rattle.net_model.specs.Names.events
use Rattle.msg_wire.specs.Nodes.{is_client, number_of}
use Rattle.net_model.specs.declared.journal.Stamped.{Stamped}
use Rattle.net_model.specs.declared.model.NodeModel.{Ghosts as NodeRules}
use Rattle.node_actor.specs.Cores.{steps_of}
use Rattle.node_seats.specs.Seats.{Seat, IsSeated}
use Rattle.cluster_crew.specs.declared.member.Member.{Member}
use Rattle.cluster_crew.specs.declared.member.Side.{Side}
use Rattle.cluster_crew.specs.declared.member.Side.TheVariants as sides
use Rattle.cluster_crew.specs.Shown.{IsShown}

-- what stays of a member: its node's seat, and which desk and which view it has, if it has one
pub record Post : Type 0 where
  pub seat : Seat
  pub desk : TableId
  pub cell : Book

-- a client's pass is the taking one of its desk, and a consumer publishes its own view
abbrev pub IsSideAt : {P : Type 0} → Post → Side P → Type 0
IsSideAt post sides.None = ⊤
IsSideAt post (sides.Client pass) = (pass.desk ≡ post.desk) × (pass.knows.takes ≡ true)
IsSideAt post (sides.Consumer showing) = showing.published.cell ≡ post.cell

-- a client's desk is the one at its number
abbrev pub AtDesk : List DeskView → Post → Type 0
AtDesk desks post = IsTrue (is_client post.seat.name) → IsSomeAnd (slice_get desks (number_of post.seat.name)) (λ (d : DeskView). d.desk ≡ post.desk)

-- memory was wanted for its view
abbrev pub IsWanting : {P : Type 0} → Side P → Type 0
IsWanting sides.None = ⊥
IsWanting (sides.Client pass) = ⊥
IsWanting (sides.Consumer showing) = showing.wanting ≡ true

-- a note of what a consumer published last
abbrev pub IsNote : {P : Type 0} → Side P → Showing → Type 0
IsNote sides.None told = ⊥
IsNote (sides.Client pass) told = ⊥
IsNote (sides.Consumer showing) told = (told ≡ showing.published) × (newest_of told.looks ≡ Some told.newest)

-- what a consumer's view has shown is all of these steps
abbrev pub HasShown : {P : Type 0} → List Stamped → Side P → Type 0
HasShown steps sides.None = ⊤
HasShown steps (sides.Client pass) = ⊤
HasShown steps (sides.Consumer showing) = IsShown steps showing

module _ {N D P : Type 0} where
  -- at its post, whether it goes on or has stopped
  pub record IsMemberAt (rules : NodeRules N) (disk : DiskRules D) (post : Post) (member : Member N D P) : Type 0 where
    pub seated : IsSeated rules disk post.seat member.actor
    pub side : IsSideAt post member.side
    pub shown : member.actor.stopped ≡ None → HasShown (steps_of member.actor.core) member.side

  -- the same, but that its node may have taken steps since its view showed all
  pub record IsActedAt (rules : NodeRules N) (disk : DiskRules D) (post : Post) (member : Member N D P) : Type 0 where
    pub seated : IsSeated rules disk post.seat member.actor
    pub side : IsSideAt post member.side
    pub behind : member.actor.stopped ≡ None
        → (shown : List Stamped) × (more : List Stamped) × (steps_of member.actor.core ≡ shown ++ more) × HasShown shown member.side

  -- its messages have no faults, unless it was stopped
  abbrev pub IsFaultless : Member N D P → Type 0
  IsFaultless member = member.actor.stopped ≡ None → member.actor.core.plan ≡ None

  -- what one moment has of a member, a later one has
  pub record Stays (rules : NodeRules N) (disk : DiskRules D) (before after : Member N D P) : Type 0 where
    pub at : (post : Post) → IsMemberAt rules disk post before → IsMemberAt rules disk post after
    pub faultless : IsFaultless before → IsFaultless after

  -- from a moment at which its view shows all to one after steps, and back
  pub record Acts (rules : NodeRules N) (disk : DiskRules D) (before after : Member N D P) : Type 0 where
    pub at : (post : Post) → IsMemberAt rules disk post before → IsActedAt rules disk post after
    pub faultless : IsFaultless before → IsFaultless after

  pub record CatchesUp (rules : NodeRules N) (disk : DiskRules D) (before after : Member N D P) : Type 0 where
    pub at : (post : Post) → IsActedAt rules disk post before → IsMemberAt rules disk post after
    pub faultless : IsFaultless before → IsFaultless after

  -- it is at some post
  abbrev pub CanAct : NodeRules N → DiskRules D → Member N D P → Type 0
  CanAct rules disk member = (post : Post) × IsMemberAt rules disk post member

  abbrev pub HasActed : NodeRules N → DiskRules D → Member N D P → Type 0
  HasActed rules disk member = (post : Post) × IsActedAt rules disk post member

  -- it is at some post with these desks
  abbrev pub CanTurn : NodeRules N → DiskRules D → List DeskView → Member N D P → Type 0
  CanTurn rules disk desks member = (post : Post) × IsMemberAt rules disk post member × AtDesk desks post

  -- it is a client at some post
  abbrev pub CanSubmit : NodeRules N → DiskRules D → Member N D P → Type 0
  CanSubmit rules disk member = CanAct rules disk member × IsTrue (is_client member.actor.core.name)

  -- where the step of a tick is due, it took that step, unless it was stopped before or is now
  abbrev pub TicksWhere : Bool → Member N D P → Member N D P → Type 0
  TicksWhere due before after =
      due ≡ true → after.actor.stopped ≡ None → IsWanting after.side ⊎ ((step : Stamped) × (step.entry.event ≡ events.Tick) × (steps_of
      after.actor.core ≡ steps_of before.actor.core ++ step ∷ []))
