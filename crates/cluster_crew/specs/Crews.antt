-- A crew at its places: what stays of it, and what holds of it at each moment.
use Rattle.std.specs.Prelude.{◌≡◌, ℕ, Bool, true, false, List, map, None}
use Rattle.std.specs.List.{AllByRecursion, AllZip}
use Rattle.submit_desk.specs.Passes.{DeskView}
use Rattle.spec_base.specs.declared.disk.Disk.{Ghosts as DiskRules}
use Rattle.msg_wire.specs.declared.plan.Plan.{Plan}
use Rattle.msg_wire.specs.declared.plan.PlanLine.{PlanLine}
use Rattle.msg_wire.specs.declared.plan.PlanLine.TheVariants as plan_lines
use Rattle.net_model.specs.Names.{NodeId}
use Rattle.net_model.specs.declared.model.NodeModel.{Ghosts as NodeRules}
use Rattle.cluster_users.specs.Reading.{Reading}
use Rattle.cluster_users.specs.Submitting.{Submitting}
use Rattle.cluster_crew.specs.declared.crew.Crew.{Crew}
use Rattle.cluster_crew.specs.declared.member.Member.{Member}
use Rattle.cluster_crew.specs.Posts.{Post, IsMemberAt, IsFaultless, AtDesk}
use Rattle.cluster_crew.specs.Watching.{AllStay, Watch, IsReaderAt, WatchesPosts, Source, IsSubmitterAt, SourceAtDesk}

-- what stays of a crew
pub record Places : Type 0 where
  pub posts : List Post
  pub watches : List Watch
  pub sources : List Source

-- places with these desks, as a plan says
pub record FitsPlan (plan : Plan) (desks : List DeskView) (places : Places) : Type 0 where
  pub desks_at : AllByRecursion (AtDesk desks) places.posts
  pub readers : map (λ (w : Watch). w.consumer) places.watches ≡ plan.readers
  pub cells : AllByRecursion (WatchesPosts places.posts) places.watches
  pub submitters : map (λ (s : Source). s.client) places.sources ≡ plan.submitters
  pub sources_at : AllByRecursion (SourceAtDesk desks) places.sources

-- whether a line is an episode
abbrev pub is_episode : PlanLine → Bool
is_episode (plan_lines.Episode turns) = true
is_episode (plan_lines.Submit by body) = false
is_episode (plan_lines.Restart node) = false
is_episode (plan_lines.Command node command) = false

-- none of these lines is an episode
abbrev pub HaveNoEpisode : List PlanLine → Type 0
HaveNoEpisode = AllByRecursion (λ (line : PlanLine). is_episode line ≡ false)

module _ {N D P : Type 0} where
  -- all members are at their posts, whether they go on or have stopped
  abbrev pub AreAt : NodeRules N → DiskRules D → List Post → List (Member N D P) → Type 0
  AreAt rules disk = AllZip (IsMemberAt rules disk)

  abbrev pub AreFaultless : List (Member N D P) → Type 0
  AreFaultless = AllByRecursion IsFaultless

  -- none of the nodes has stopped
  abbrev pub NoneStopped : List (Member N D P) → Type 0
  NoneStopped = AllByRecursion (λ (m : Member N D P). m.actor.stopped ≡ None)

  -- what one moment has of members, a later one has
  pub record MembersStay (rules : NodeRules N) (disk : DiskRules D) (before after : List (Member N D P)) : Type 0 where
    pub at : AllStay (IsMemberAt rules disk) before after
    pub faultless : AreFaultless before → AreFaultless after

  -- it is as it was, unless its node has this name
  abbrev pub StaysUnless : NodeId → Member N D P → Member N D P → Type 0
  StaysUnless node before after = (before.actor.core.name ≡ node → ⊥) → after ≡ before

  -- all others are as they were
  abbrev pub OnlyAt : NodeId → List (Member N D P) → List (Member N D P) → Type 0
  OnlyAt node = AllZip (StaysUnless node)

  -- members at posts, and a reader that watches one of them, a consumer with this number
  abbrev pub IsWatching : NodeRules N → DiskRules D → ℕ → List (Member N D P) → Reading → Type 0
  IsWatching rules disk consumer members reader =
      (posts : List Post) × (watch : Watch) × AreAt rules disk posts members × IsReaderAt watch reader × WatchesPosts posts watch × (watch.consumer ≡ consumer)

  -- the same of several readers, with the consumer of each
  abbrev pub AreWatching : NodeRules N → DiskRules D → List ℕ → List (Member N D P) → List Reading → Type 0
  AreWatching rules disk consumers members readers =
      (posts : List Post) × (watches : List Watch) × AreAt rules disk posts members × AllZip IsReaderAt watches readers
      × AllByRecursion (WatchesPosts posts) watches × (map (λ (w : Watch). w.consumer) watches ≡ consumers)

  -- all of a crew are at their places
  pub record IsCrewAt (rules : NodeRules N) (disk : DiskRules D) (places : Places) (crew : Crew N D P) : Type 0 where
    pub members : AreAt rules disk places.posts crew.members.items
    pub readers : AllZip IsReaderAt places.watches crew.readers.items
    pub submitters : AllZip IsSubmitterAt places.sources crew.submitters.items

  -- at some places
  abbrev pub IsSomewhere : NodeRules N → DiskRules D → Crew N D P → Type 0
  IsSomewhere rules disk crew = (places : Places) × IsCrewAt rules disk places crew

  -- at some places with these desks, as a plan says
  abbrev pub CanFollow : NodeRules N → DiskRules D → Plan → List DeskView → Crew N D P → Type 0
  CanFollow rules disk plan desks crew = (places : Places) × IsCrewAt rules disk places crew × FitsPlan plan desks places

  -- what one moment has of a crew, a later one has
  pub record CrewStays (rules : NodeRules N) (disk : DiskRules D) (before after : Crew N D P) : Type 0 where
    pub at : (places : Places) → IsCrewAt rules disk places before → IsCrewAt rules disk places after
    pub faultless : AreFaultless before.members.items → AreFaultless after.members.items

  -- at some places with these desks
  abbrev pub CanTakeTurns : NodeRules N → DiskRules D → List DeskView → Crew N D P → Type 0
  CanTakeTurns rules disk desks crew =
      (places : Places) × IsCrewAt rules disk places crew × AllByRecursion (AtDesk desks) places.posts × AllByRecursion (SourceAtDesk desks) places.sources

  -- members at posts with these desks
  abbrev pub CanJoin : NodeRules N → DiskRules D → List DeskView → List (Member N D P) → Type 0
  CanJoin rules disk desks members = (posts : List Post) × AreAt rules disk posts members × AllByRecursion (AtDesk desks) posts

  -- and submitters, with the client of each
  abbrev pub CanGather : NodeRules N → DiskRules D → List DeskView → List ℕ → List (Member N D P) → List Submitting → Type 0
  CanGather rules disk desks clients members submitters =
      CanJoin rules disk desks members
      × ((sources : List Source) × AllZip IsSubmitterAt sources submitters × AllByRecursion (SourceAtDesk desks) sources
      × (map (λ (s : Source). s.client) sources ≡ clients))
