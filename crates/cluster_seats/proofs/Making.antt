-- Actors as they are made of blanks and their parts, one after the other.
use Rattle.std.proofs.Common.{◌≡◌, List, [], ◌∷◌, ◌++◌, length, map, refl, sym, ap, ◌∙◌, subst}
use Rattle.std.specs.List.{AllByRecursion}
use Rattle.std.proofs.lemmas.List.{length-map}
use Rattle.gate_vault.specs.declared.vault.Vault.{Vault}
use Rattle.link_faults.specs.declared.plan.FaultPlan.{FaultPlan}
use Rattle.node_links.specs.Links.{Sending, Receiving}
use Rattle.spec_base.specs.declared.disk.Disk.{Ghosts as DiskRules}
use Rattle.net_model.specs.declared.model.NodeModel.{Ghosts as NodeRules}
use Rattle.net_model.proofs.Merging.{all_append}
use Rattle.node_actor.specs.declared.actor.NodeActor.{NodeActor}
use Rattle.node_actor.specs.declared.store.Store.TheVariants as stores
use Rattle.node_seats.specs.Seats.{ins_of, outs_of}
use Rattle.cluster_seats.specs.declared.blank.Blank.{Blank}
use Rattle.cluster_seats.specs.Seatings.{AreMadeOf, Begins, IsMadeOf, stores_of}
use Rattle.cluster_seats.specs.inside.Midway.{IsMidway, Parts}
use Rattle.cluster_seats.proofs.Lists.{all_used, grown, moved, same_length}

module _ {N D : Type 0} (rules : NodeRules N) (disk : DiskRules D) (plan : FaultPlan) (all : Parts D) where
  pub none_made : IsMidway rules disk plan [] all all []
  none_made = record { begin = tt; cfgs = refl; names = refl; faults = refl; stores_are = refl; outs_are = refl; ins_are = refl }

  -- one more, of the first that were left
  pub one_made : (blanks : List (Blank N)) (left rest : Parts D) (actors more : List (NodeActor N D)) (blank : Blank N) (vault : Vault D)
      (outs : List Sending) (ins : List Receiving) (actor : NodeActor N D) → left.vaults ≡ vault ∷ rest.vaults → left.outs ≡ outs ∷ rest.outs
      → left.ins ≡ ins ∷ rest.ins → more ≡ actors ++ actor ∷ [] → IsMadeOf rules disk plan blank vault outs ins actor
      → IsMidway rules disk plan blanks all left actors → IsMidway rules disk plan (blanks ++ blank ∷ []) all rest more
  one_made blanks left rest actors more blank vault outs ins actor vaults_left outs_left ins_left pushed made mid =
      subst (IsMidway rules disk plan (blanks ++ blank ∷ []) all rest) (sym pushed) (record {
        begin = all_append (Begins rules disk plan) actors (actor ∷ []) mid.begin (made.begins, tt);
        cfgs = grown _ _ actors blanks actor blank made.cfg mid.cfgs;
        names = grown _ _ actors blanks actor blank made.name mid.names;
        faults = grown _ _ actors blanks actor blank made.faults mid.faults;
        stores_are = moved _ actors actor (stores.Open vault) (map stores.Open rest.vaults) _ made.store
            (ap (λ l. stores_of actors ++ map stores.Open l) (sym vaults_left) ∙ mid.stores_are);
        outs_are = moved _ actors actor outs rest.outs _ made.outs_are (ap (λ l. outs_of actors ++ l) (sym outs_left) ∙ mid.outs_are);
        ins_are = moved _ actors actor ins rest.ins _ made.ins_are (ap (λ l. ins_of actors ++ l) (sym ins_left) ∙ mid.ins_are);
      })

  pub all_made : (blanks : List (Blank N)) (rest : Parts D) (actors : List (NodeActor N D)) → length all.vaults ≡ length blanks
      → length all.outs ≡ length blanks → length all.ins ≡ length blanks → IsMidway rules disk plan blanks all rest actors
      → AreMadeOf rules disk plan blanks all.vaults all.outs all.ins actors
  all_made blanks rest actors vaults outs ins mid =
      let count : length actors ≡ length blanks = same_length _ _ actors blanks mid.names in
      record {
        begin = mid.begin;
        cfgs = mid.cfgs;
        names = mid.names;
        faults = mid.faults;
        stores_are = all_used _ actors _ _ (count ∙ sym vaults ∙ sym (length-map all.vaults stores.Open)) mid.stores_are;
        outs_are = all_used _ actors _ _ (count ∙ sym outs) mid.outs_are;
        ins_are = all_used _ actors _ _ (count ∙ sym ins) mid.ins_are;
      }
