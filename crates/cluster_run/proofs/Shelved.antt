-- What format_all and give_back ask for and leave, of the nodes of a cluster; and that the journals of a run make one.
use Rattle.std.proofs.Common.{◌≡◌, ℕ, suc, List, [], ◌∷◌, map, length, None, refl, ap, ◌∙◌, subst}
use Rattle.std.specs.List.{AllByRecursion}
use Rattle.spec_base.specs.declared.disk.Disk.{Ghosts as DiskRules}
use Rattle.spec_base.specs.declared.node.NodeId.{NodeId}
use Rattle.spec_base.specs.Spelling.{IsValidNode}
use Rattle.gate_vault.specs.declared.vault.Vault.{Vault}
use Rattle.msg_wire.specs.declared.config.Config.{Config}
use Rattle.msg_wire.specs.declared.plan.Plan.{Plan}
use Rattle.msg_wire.specs.Nodes.{nodes_of}
use Rattle.msg_wire.specs.Valid.{IsNodeOf, IsValidConfig}
use Rattle.net_model.specs.declared.model.NodeModel.{Ghosts as NodeRules}
use Rattle.net_model.specs.Journals.{IsJournal, OwnSteps}
use Rattle.net_model.specs.Merges.{IsMergeOf}
use Rattle.node_actor.specs.declared.actor.NodeActor.{NodeActor}
use Rattle.node_order.proofs.NodePlaces.{nodes_within}
use Rattle.node_rules.proofs.Limits.{node_valid}
use Rattle.node_runs.specs.SeatedRuns.{SeatedNodesMakeRuns}
use Rattle.node_seats.specs.Seats.{Seat, AreGoing, AreSeated, journals_of}
use Rattle.shelf_vaults.specs.Sights.{Sight, AreOut, EachWith, IsOutAs}
use Rattle.world.specs.declared.any_node.AnyNode.{AnyNode}
use Rattle.cluster_run.specs.Running.{HaveRun, MakeRuns}
use Rattle.cluster_run.proofs.Distinct.{journals_are_distinct}

all_valid : (c : Config) (nodes : List NodeId) → IsValidConfig c → AllByRecursion (IsNodeOf c) nodes → AllByRecursion IsValidNode nodes
all_valid c [] valid within = tt
all_valid c (node ∷ nodes) valid within = (node_valid c node valid within.0, all_valid c nodes valid within.1)

pub nodes_are_valid : (c : Config) → IsValidConfig c → AllByRecursion IsValidNode (nodes_of c)
nodes_are_valid c valid = all_valid c (nodes_of c) valid (nodes_within c)

module _ {D : Type 0} (faults : D → ℕ) (old new : List ℕ → Sight D) where
  pub are_out : (nodes : List NodeId) (vaults : List (Vault D)) → EachWith (IsOutAs faults) old new nodes vaults → AreOut new nodes
  are_out [] [] each = tt
  are_out [] (v ∷ vaults) each = absurd each
  are_out (node ∷ nodes) [] each = absurd each
  are_out (node ∷ nodes) (v ∷ vaults) each = (each.0.out, are_out nodes vaults each.1)

  pub one_each : (nodes : List NodeId) (vaults : List (Vault D)) → EachWith (IsOutAs faults) old new nodes vaults → length vaults ≡ length nodes
  one_each [] [] each = refl
  one_each [] (v ∷ vaults) each = absurd each
  one_each (node ∷ nodes) [] each = absurd each
  one_each (node ∷ nodes) (v ∷ vaults) each = ap (λ n. suc n) (one_each nodes vaults each.1)

-- ---- the history

module _ {D : Type 0} (rules : NodeRules AnyNode) (disk : DiskRules D) where
  -- whose journals they are, where all go on
  owners_are : (seats : List Seat) (actors : List (NodeActor AnyNode D)) → AreSeated rules disk seats actors → AreGoing actors
      → map (λ (j : OwnSteps). j.node) (journals_of actors) ≡ map (λ (s : Seat). s.name) seats
  owners_are [] [] seated going = refl
  owners_are [] (a ∷ actors) seated going = absurd seated
  owners_are (s ∷ seats) [] seated going = absurd seated
  owners_are (s ∷ seats) (a ∷ actors) seated going =
      ap (λ n. n ∷ map (λ (j : OwnSteps). j.node) (journals_of actors)) ((seated.0.going going.0).ready.own ∙ seated.0.name)
      ∙ ap (λ l. s.name ∷ l) (owners_are seats actors seated.1 going.1)

  pub run_makes_runs : (plan : Plan) (vaults : List (Vault D)) (journals : List OwnSteps) (disks : List D) → SeatedNodesMakeRuns rules disk
      → HaveRun rules disk plan vaults journals disks None → MakeRuns plan.cfg journals
  run_makes_runs plan vaults journals disks law ran =
      let going = ran.ended.going refl in
      let owners = ap (map (λ (j : OwnSteps). j.node)) ran.journals_are ∙ owners_are ran.seats ran.actors ran.seated going ∙ ran.of.names in
      record {
        distinct = journals_are_distinct plan.cfg journals owners;
        runs = λ history each merge.
            law plan.cfg ran.seats ran.actors history ran.are ran.seated going ran.settled (subst (AllByRecursion IsJournal) ran.journals_are each)
            (subst (λ js. IsMergeOf js history) ran.journals_are merge);
      }
