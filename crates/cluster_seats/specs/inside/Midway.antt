-- Nodes of which the first have their vaults and links.
use Rattle.std.specs.Prelude.{◌≡◌, ℕ, List, ◌++◌, map, take}
use Rattle.std.specs.List.{AllByRecursion}
use Rattle.gate_vault.specs.declared.vault.Vault.{Vault}
use Rattle.link_faults.specs.declared.plan.FaultPlan.{FaultPlan}
use Rattle.node_links.specs.Links.{Sending, Receiving}
use Rattle.spec_base.specs.declared.disk.Disk.{Ghosts as DiskRules}
use Rattle.msg_wire.specs.declared.config.Config.{Config}
use Rattle.net_model.specs.declared.model.NodeModel.{Ghosts as NodeRules}
use Rattle.net_model.specs.Names.{NodeId}
use Rattle.node_actor.specs.declared.actor.NodeActor.{NodeActor}
use Rattle.node_actor.specs.declared.store.Store.TheVariants as stores
use Rattle.node_seats.specs.Seats.{ins_of, outs_of}
use Rattle.cluster_seats.specs.declared.blank.Blank.{Blank}
use Rattle.cluster_seats.specs.Blanks.{IsBlank, all_faults}
use Rattle.cluster_seats.specs.Seatings.{Begins, cfgs_of, faults_of, names_of, stores_of}

-- what blanks are given
pub record Parts (D : Type 0) : Type 0 where
  pub vaults : List (Vault D)
  pub outs : List (List Sending)
  pub ins : List (List Receiving)

module _ {N D : Type 0} where
  -- the actors were made of these blanks and of the first of all parts; the others are left
  pub record IsMidway (rules : NodeRules N) (disk : DiskRules D) (plan : FaultPlan) (blanks : List (Blank N)) (all rest : Parts D)
      (actors : List (NodeActor N D)) : Type 0 where
    pub begin : AllByRecursion (Begins rules disk plan) actors
    pub cfgs : cfgs_of actors ≡ map (λ (blank : Blank N). blank.cfg) blanks
    pub names : names_of actors ≡ map (λ (blank : Blank N). blank.name) blanks
    pub faults : faults_of actors ≡ map (λ (blank : Blank N). blank.faults.items) blanks
    pub stores_are : stores_of actors ++ map stores.Open rest.vaults ≡ map stores.Open all.vaults
    pub outs_are : outs_of actors ++ rest.outs ≡ all.outs
    pub ins_are : ins_of actors ++ rest.ins ≡ all.ins

-- the blanks of so many of these nodes
pub record AreFirstBlanks {N : Type 0} (rules : NodeRules N) (cfg : Config) (seed : ℕ) (nodes : List NodeId) (count place : ℕ) (blanks : List (Blank N))
    : Type 0 where
  pub start : AllByRecursion (IsBlank rules) blanks
  pub cfgs : AllByRecursion (λ (blank : Blank N). blank.cfg ≡ cfg) blanks
  pub names : map (λ (blank : Blank N). blank.name) blanks ≡ take place nodes
  pub faults : map (λ (blank : Blank N). blank.faults.items) blanks ≡ all_faults seed count place
