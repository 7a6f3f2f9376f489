-- A crew as a run begins: who is in it, and what belongs to it.
use Rattle.std.specs.Prelude.{◌≡◌, ℕ, ◌+◌, ◌*◌, ◌≤◌, true, false, List, [], ◌∷◌, ◌++◌, map, length, replicate, IsSomeAnd, slice_get, vec_capacity}
use Rattle.std.specs.List.{AllByRecursion, AllZip}
use Rattle.std.specs.VecDeque.{deque_capacity}
use Rattle.view_cell.specs.Ends.{Showing}
use Rattle.submit_desk.specs.Passes.{DeskView}
use Rattle.spec_base.specs.declared.disk.Disk.{Ghosts as DiskRules}
use Rattle.msg_wire.specs.declared.config.Config.{Config}
use Rattle.msg_wire.specs.declared.plan.Plan.{Plan}
use Rattle.msg_wire.specs.Nodes.{nodes_of}
use Rattle.net_model.specs.declared.model.NodeModel.{Ghosts as NodeRules}
use Rattle.net_model.specs.Names.{NodeId}
use Rattle.node_actor.specs.declared.actor.NodeActor.{NodeActor}
use Rattle.node_actor.specs.Cores.{steps_of}
use Rattle.node_seats.specs.Seats.{Seat}
use Rattle.cluster_users.specs.Reading.{Reading}
use Rattle.cluster_users.specs.Submitting.{Submitting, HasDesk}
use Rattle.cluster_crew.specs.declared.crew.Crew.{Crew}
use Rattle.cluster_crew.specs.declared.member.Member.{Member}
use Rattle.cluster_crew.specs.declared.member.Side.{Side}
use Rattle.cluster_crew.specs.declared.member.Side.TheVariants as sides
use Rattle.cluster_crew.specs.Crews.{Places, FitsPlan, IsCrewAt}
use Rattle.cluster_crew.specs.Ending.{seats_of}
use Rattle.cluster_crew.specs.Marks.{no_marks, counts_in}
use Rattle.cluster_crew.specs.Shown.{on_show}
use Rattle.plan_desks.specs.declared.begun.Taker.{Taker}
use Rattle.plan_crew.specs.declared.room.Room.{Room}

-- ---- what is in a crew

-- nothing was published yet
abbrev pub IsUnshown : Showing → Type 0
IsUnshown publisher = counts_in publisher.newest ≡ no_marks

module _ {P : Type 0} where
  abbrev pub desk_side : Taker → Side P
  desk_side taker = sides.Client taker.pass

  abbrev pub view_side : Showing → Side P
  view_side publisher = sides.Consumer (on_show publisher 0 false)

  -- what nodes have beside their links: so many nothing, clients their desks, consumers their views
  abbrev pub sides_of : ℕ → List Taker → List Showing → List (Side P)
  sides_of bare takers publishers = replicate bare sides.None ++ (map desk_side takers ++ map view_side publishers)

module _ {N D P : Type 0} where
  abbrev pub member_of : NodeActor N D → Side P → Member N D P
  member_of node beside = record { actor = node; side = beside }

  -- each node with the side at its place
  abbrev pub members_of : List (NodeActor N D) → List (Side P) → List (Member N D P)
  members_of [] beside = []
  members_of (node ∷ nodes) [] = []
  members_of (node ∷ nodes) (s ∷ beside) = member_of node s ∷ members_of nodes beside

  -- nothing is in it, and so many have room
  pub record IsRoomFor (count : ℕ) (room : Room N D P) : Type 0 where
    pub no_sides : room.sides.items ≡ []
    pub no_members : room.members.items ≡ []
    pub sides : count ≤ deque_capacity room.sides
    pub members : count ≤ vec_capacity room.members

-- ---- what belongs to it

module _ {N D : Type 0} where
  -- the nodes of a cluster, in their order, of which none took a step
  pub record AreNew (cfg : Config) (actors : List (NodeActor N D)) : Type 0 where
    pub names : map (λ (a : NodeActor N D). a.core.name) actors ≡ nodes_of cfg
    pub none : AllByRecursion (λ (a : NodeActor N D). steps_of a.core ≡ []) actors

-- the pass that takes from a desk
abbrev pub TakesFrom : DeskView → Taker → Type 0
TakesFrom desk taker = (taker.pass.desk ≡ desk.desk) × (taker.pass.knows.takes ≡ true)

-- a reader looks at the view that its consumer publishes
abbrev pub LooksAt : List Showing → Reading → Type 0
LooksAt publishers reader = IsSomeAnd (slice_get publishers reader.consumer) (λ (p : Showing). reader.pass.cell ≡ p.cell)

-- desks, views, readers and submitters, as a plan says
pub record BelongToPlan (plan : Plan) (desks : List DeskView) (takers : List Taker) (publishers : List Showing) (readers : List Reading)
    (submitters : List Submitting) : Type 0 where
  pub desks_each : length desks ≡ length plan.cfg.homes
  pub takers_from : AllZip TakesFrom desks takers
  pub views_each : length publishers ≡ plan.cfg.consumers
  pub unshown : AllByRecursion IsUnshown publishers
  pub consumers : map (λ (r : Reading). r.consumer) readers ≡ plan.readers
  pub look_at : AllByRecursion (LooksAt publishers) readers
  pub clients : map (λ (s : Submitting). s.client) submitters ≡ plan.submitters
  pub submit_to : AllByRecursion (HasDesk desks) submitters

-- ---- its places

module _ {N D P : Type 0} where
  -- all are at places with these desks, as the plan says; the nodes are at these seats
  pub record BeginsAt (rules : NodeRules N) (disk : DiskRules D) (plan : Plan) (desks : List DeskView) (seats : List Seat) (crew : Crew N D P) : Type 0 where
    pub places : Places
    pub at : IsCrewAt rules disk places crew
    pub fits : FitsPlan plan desks places
    pub seated : seats_of places.posts ≡ seats
