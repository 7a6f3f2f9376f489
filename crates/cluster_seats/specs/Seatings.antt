-- Nodes that are given their vaults and their links, and the seats at which they are then.
use Rattle.std.specs.Prelude.{◌≡◌, ℕ, ◌≤◌, List, [], ◌∷◌, length, map, None, Some}
use Rattle.std.specs.List.{AllByRecursion, AllZip}
use Rattle.gate_vault.specs.declared.vault.Vault.{Vault}
use Rattle.gate_vault.specs.Vault.{KeepsWithGate, disk_of}
use Rattle.link_faults.specs.declared.plan.FaultPlan.{FaultPlan}
use Rattle.link_faults.specs.Faults.{Holding}
use Rattle.link_rows.specs.Rows.{AreLinked, IsUnsent, OfEach}
use Rattle.node_links.specs.Links.{LinkName, Sending, Receiving}
use Rattle.spec_base.specs.declared.disk.Disk.{Ghosts as DiskRules}
use Rattle.msg_wire.specs.declared.config.Config.{Config}
use Rattle.net_model.specs.declared.model.NodeModel.{Ghosts as NodeRules}
use Rattle.net_model.specs.Names.{NodeId}
use Rattle.node_actor.specs.declared.actor.NodeActor.{NodeActor}
use Rattle.node_actor.specs.declared.store.Store.{Store}
use Rattle.node_actor.specs.declared.store.Store.TheVariants as stores
use Rattle.node_actor.specs.Cores.{steps_of, IsReady, IsInStep}
use Rattle.node_actor.specs.Ins.{links_to}
use Rattle.node_actor.specs.Lanes.{links_of}
use Rattle.node_actor.specs.Stores.{KeepsChunks}
use Rattle.node_seats.specs.Seats.{Seat, AreSeated, AreSeats, IsNew, ins_of, outs_of, seat_of}
use Rattle.cluster_seats.specs.declared.blank.Blank.{Blank}
use Rattle.cluster_seats.specs.Blanks.{AreBlanks}

-- a vault that keeps no entry
abbrev pub KeepsNone : {D : Type 0} → DiskRules D → Vault D → Type 0
KeepsNone disk vault = KeepsWithGate disk.seen disk.may_leave vault []

-- the disk of each vault failed at least so often
abbrev pub AreCounted : {D : Type 0} → DiskRules D → List ℕ → List (Vault D) → Type 0
AreCounted disk = AllZip (λ (count : ℕ) (vault : Vault _). count ≤ disk.faults (disk_of vault))

module _ {N D : Type 0} where
  -- an actor that can take a step, and took none
  pub record Begins (rules : NodeRules N) (disk : DiskRules D) (plan : FaultPlan) (actor : NodeActor N D) : Type 0 where
    pub going : actor.stopped ≡ None
    pub ready : IsReady rules actor.core
    pub none : steps_of actor.core ≡ []
    pub plan_is : actor.core.plan ≡ Some plan
    pub in_step : KeepsChunks disk actor.core.store [] → IsInStep rules disk actor.core

  -- the node of a blank, with this vault and these ends of its links
  pub record IsMadeOf (rules : NodeRules N) (disk : DiskRules D) (plan : FaultPlan) (blank : Blank N) (vault : Vault D) (outs : List Sending)
      (ins : List Receiving) (actor : NodeActor N D) : Type 0 where
    pub begins : Begins rules disk plan actor
    pub cfg : actor.core.cfg ≡ blank.cfg
    pub name : actor.core.name ≡ blank.name
    pub faults : actor.core.faults.items ≡ blank.faults.items
    pub store : actor.core.store ≡ stores.Open vault
    pub outs_are : actor.outs.items ≡ outs
    pub ins_are : actor.ins.items ≡ ins

  -- ---- all nodes of a run

  abbrev pub cfgs_of : List (NodeActor N D) → List Config
  cfgs_of = map (λ (actor : NodeActor N D). actor.core.cfg)

  abbrev pub names_of : List (NodeActor N D) → List NodeId
  names_of = map (λ (actor : NodeActor N D). actor.core.name)

  abbrev pub faults_of : List (NodeActor N D) → List (List Holding)
  faults_of = map (λ (actor : NodeActor N D). actor.core.faults.items)

  abbrev pub stores_of : List (NodeActor N D) → List (Store D)
  stores_of = map (λ (actor : NodeActor N D). actor.core.store)

  -- the nodes of these blanks in their order, each with its vault and its links
  pub record AreMadeOf (rules : NodeRules N) (disk : DiskRules D) (plan : FaultPlan) (blanks : List (Blank N)) (vaults : List (Vault D))
      (outs : List (List Sending)) (ins : List (List Receiving)) (actors : List (NodeActor N D)) : Type 0 where
    pub begin : AllByRecursion (Begins rules disk plan) actors
    pub cfgs : cfgs_of actors ≡ map (λ (blank : Blank N). blank.cfg) blanks
    pub names : names_of actors ≡ map (λ (blank : Blank N). blank.name) blanks
    pub faults : faults_of actors ≡ map (λ (blank : Blank N). blank.faults.items) blanks
    pub stores_are : stores_of actors ≡ map stores.Open vaults
    pub outs_are : outs_of actors ≡ outs
    pub ins_are : ins_of actors ≡ ins

  -- ---- their seats

  -- blanks of these nodes, empty vaults, and links from each node to each on which nothing was sent
  pub record CanSit (rules : NodeRules N) (disk : DiskRules D) (cfg : Config) (seed : ℕ) (nodes : List NodeId) (blanks : List (Blank N))
      (vaults : List (Vault D)) (outs_names ins_names : List (List LinkName)) (outs : List (List Sending)) : Type 0 where
    pub are_blanks : AreBlanks rules cfg seed nodes blanks
    pub empty : AllByRecursion (KeepsNone disk) vaults
    pub linked : AreLinked (length nodes) outs_names ins_names
    pub unsent : OfEach IsUnsent outs

  -- the seats of actors, where their disks had failed so often
  abbrev pub seats_of : List ℕ → List (NodeActor N D) → List Seat
  seats_of [] actors = []
  seats_of (count ∷ counts) [] = []
  seats_of (count ∷ counts) (actor ∷ actors) = seat_of count actor ∷ seats_of counts actors

  -- they are as a run begins, at the seats of one cluster
  pub record AreSitting (rules : NodeRules N) (disk : DiskRules D) (cfg : Config) (nodes : List NodeId) (counts : List ℕ) (actors : List (NodeActor N D))
      : Type 0 where
    pub new : AllByRecursion (IsNew rules disk) actors
    pub names : names_of actors ≡ nodes
    pub linked : AreLinked (length actors) (map (λ (actor : NodeActor N D). links_of actor.outs.items) actors)
        (map (λ (actor : NodeActor N D). links_to actor.ins.items) actors)
    pub seats : AreSeats cfg (seats_of counts actors)
    pub seated : AreSeated rules disk (seats_of counts actors) actors

  -- nodes that can sit do so
  abbrev pub Sit : NodeRules N → DiskRules D → List (Blank N) → List (Vault D) → List (List LinkName) → List (List LinkName) → List (List Sending)
      → List (NodeActor N D) → Type 0
  Sit rules disk blanks vaults outs_names ins_names outs actors =
      (cfg : Config) (seed : ℕ) (nodes : List NodeId) (counts : List ℕ) → CanSit rules disk cfg seed nodes blanks vaults outs_names ins_names outs
      → AreCounted disk counts vaults → AreSitting rules disk cfg nodes counts actors
