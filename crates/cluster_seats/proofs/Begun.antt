-- Actors that were made of blanks are as a run begins, and at the seats of one cluster.
use Rattle.std.proofs.Common.{◌≡◌, ℕ, suc, ◌≤◌, List, [], ◌∷◌, length, map, None, refl, sym, ap, ◌∙◌, subst}
use Rattle.std.specs.List.{AllByRecursion, AllZip}
use Rattle.std.proofs.lemmas.List.{length-map}
use Rattle.std.proofs.lemmas.Simd.{map-map}
use Rattle.gate_vault.specs.declared.vault.Vault.{Vault}
use Rattle.gate_vault.specs.Vault.{KeepsWithGate, disk_of}
use Rattle.link_faults.specs.declared.plan.FaultPlan.{FaultPlan}
use Rattle.link_faults.specs.Faults.{Holding}
use Rattle.link_rows.specs.Rows.{AreLinked, IsUnsent, names_of_ins, names_of_outs}
use Rattle.node_links.specs.Links.{LinkName, Sending, Receiving}
use Rattle.spec_base.specs.declared.disk.Disk.{Ghosts as DiskRules}
use Rattle.msg_wire.specs.declared.config.Config.{Config}
use Rattle.net_model.specs.declared.model.NodeModel.{Ghosts as NodeRules}
use Rattle.net_model.specs.Names.{NodeId}
use Rattle.node_actor.specs.declared.actor.NodeActor.{NodeActor}
use Rattle.node_actor.specs.declared.store.Store.{Store}
use Rattle.node_actor.specs.declared.store.Store.TheVariants as stores
use Rattle.node_actor.specs.Stores.{KeepsChunks, disk_in}
use Rattle.node_seats.specs.Seats.{AreSeated, AreSeats, IsNew, Seat, ins_of, outs_of}
use Rattle.node_seats.proofs.Staying.{new_seated}
use Rattle.node_seats.proofs.Zips.{all_map, zip_length}
use Rattle.cluster_seats.specs.declared.blank.Blank.{Blank}
use Rattle.cluster_seats.specs.Blanks.{all_faults}
use Rattle.cluster_seats.specs.Seatings.{AreCounted, AreMadeOf, AreSitting, Begins, CanSit, Sit, cfgs_of, faults_of, names_of, seats_of, stores_of}
use Rattle.cluster_seats.proofs.Lists.{of_images}
use Rattle.cluster_seats.proofs.NewFaults.{AreUnheld, all_as_many, all_unheld}

pub linked_as : {m n : ℕ} {outs outs' ins ins' : List (List LinkName)} → m ≡ n → outs ≡ outs' → ins ≡ ins' → AreLinked m outs ins → AreLinked n outs' ins'
linked_as {m} {n} {outs} {outs'} {ins} {ins'} count outs_are ins_are linked =
    subst (λ k. AreLinked k outs' ins') count (subst (λ l. AreLinked m l ins') outs_are (subst (AreLinked m outs) ins_are linked))

module _ {N D : Type 0} where
  -- ---- the seats of actors

  seats_count : (counts : List ℕ) (actors : List (NodeActor N D)) → length counts ≡ length actors → length (seats_of counts actors) ≡ length actors
  seats_count [] [] same = refl
  seats_count [] (a ∷ actors) same = same
  seats_count (n ∷ counts) [] same = refl
  seats_count (n ∷ counts) (a ∷ actors) same = ap suc (seats_count counts actors cc)

  seats_cfgs : (cfg : Config) (counts : List ℕ) (actors : List (NodeActor N D)) → AllByRecursion (λ (a : NodeActor N D). a.core.cfg ≡ cfg) actors
      → AllByRecursion (λ (seat : Seat). seat.cfg ≡ cfg) (seats_of counts actors)
  seats_cfgs cfg [] actors all = tt
  seats_cfgs cfg (n ∷ counts) [] all = tt
  seats_cfgs cfg (n ∷ counts) (a ∷ actors) all = (all.0, seats_cfgs cfg counts actors all.1)

  seats_outs : (counts : List ℕ) (actors : List (NodeActor N D)) → length counts ≡ length actors
      → map (λ (seat : Seat). seat.outs) (seats_of counts actors) ≡ map (λ (a : NodeActor N D). names_of_outs a.outs.items) actors
  seats_outs [] [] same = refl
  seats_outs [] (a ∷ actors) same = absurd cc
  seats_outs (n ∷ counts) [] same = refl
  seats_outs (n ∷ counts) (a ∷ actors) same = ap (λ l. names_of_outs a.outs.items ∷ l) (seats_outs counts actors cc)

  seats_ins : (counts : List ℕ) (actors : List (NodeActor N D)) → length counts ≡ length actors
      → map (λ (seat : Seat). seat.ins) (seats_of counts actors) ≡ map (λ (a : NodeActor N D). names_of_ins a.ins.items) actors
  seats_ins [] [] same = refl
  seats_ins [] (a ∷ actors) same = absurd cc
  seats_ins (n ∷ counts) [] same = refl
  seats_ins (n ∷ counts) (a ∷ actors) same = ap (λ l. names_of_ins a.ins.items ∷ l) (seats_ins counts actors cc)

  -- ---- each actor

  module _ (rules : NodeRules N) (disk : DiskRules D) where
    is_empty : (vault : Vault D) → KeepsWithGate disk.seen disk.may_leave vault [] → KeepsChunks disk (stores.Open vault) []
    is_empty vault keeps = (keeps, tt)

    are_empty : (vaults : List (Vault D)) → AllByRecursion (λ (vault : Vault D). KeepsWithGate disk.seen disk.may_leave vault []) vaults
        → AllByRecursion (λ (vault : Vault D). KeepsChunks disk (stores.Open vault) []) vaults
    are_empty [] all = tt
    are_empty (v ∷ vaults) all = (is_empty v all.0, are_empty vaults all.1)

    are_new : (plan : FaultPlan) (count : ℕ) (actors : List (NodeActor N D)) → AllByRecursion (Begins rules disk plan) actors
        → AllByRecursion (λ (a : NodeActor N D). KeepsChunks disk a.core.store []) actors
        → AllByRecursion (λ (a : NodeActor N D). AllByRecursion IsUnsent a.outs.items) actors
        → AllByRecursion (λ (a : NodeActor N D). AreUnheld a.core.faults.items) actors
        → AllByRecursion (λ (a : NodeActor N D). length a.core.faults.items ≡ count) actors
        → AllByRecursion (λ (a : NodeActor N D). length (names_of_outs a.outs.items) ≡ count) actors → AllByRecursion (IsNew rules disk) actors
    are_new plan count [] begin empty unsent unheld faults outs = tt
    are_new plan count (a ∷ actors) begin empty unsent unheld faults outs =
        let first : IsNew rules disk a = record {
          going = begin.0.going;
          ready = begin.0.ready;
          in_step = begin.0.in_step empty.0;
          none = begin.0.none;
          unsent = unsent.0;
          unheld = unheld.0;
          each_faults = faults.0 ∙ sym outs.0 ∙ length-map a.outs.items (λ (o : Sending). o.link);
        } in
        (first, are_new plan count actors begin.1 empty.1 unsent.1 unheld.1 faults.1 outs.1)

    counted : (counts : List ℕ) (vaults : List (Vault D)) (actors : List (NodeActor N D)) → AreCounted disk counts vaults
        → stores_of actors ≡ map stores.Open vaults → AllZip (λ (n : ℕ) (a : NodeActor N D). n ≤ disk.faults (disk_in a.core.store)) counts actors
    counted [] [] [] all same = tt
    counted [] [] (a ∷ actors) all same = absurd cc
    counted [] (v ∷ vaults) actors all same = absurd all
    counted (n ∷ counts) [] actors all same = absurd all
    counted (n ∷ counts) (v ∷ vaults) [] all same = absurd cc
    counted (n ∷ counts) (v ∷ vaults) (a ∷ actors) all same =
        let first : a.core.store ≡ stores.Open v = cc in
        let later : stores_of actors ≡ map stores.Open vaults = cc in
        (subst (λ (s : Store D). n ≤ disk.faults (disk_in s)) (sym first) all.0, counted counts vaults actors all.1 later)

    are_seated : (counts : List ℕ) (actors : List (NodeActor N D)) → AllByRecursion (IsNew rules disk) actors
        → AllZip (λ (n : ℕ) (a : NodeActor N D). n ≤ disk.faults (disk_in a.core.store)) counts actors
        → AreSeated rules disk (seats_of counts actors) actors
    are_seated [] [] new all = tt
    are_seated [] (a ∷ actors) new all = absurd all
    are_seated (n ∷ counts) [] new all = absurd all
    are_seated (n ∷ counts) (a ∷ actors) new all = (new_seated rules disk n a new.0 all.0, are_seated counts actors new.1 all.1)

    -- ---- all of them

    all_new : (plan : FaultPlan) (cfg : Config) (seed : ℕ) (nodes : List NodeId) (blanks : List (Blank N)) (vaults : List (Vault D))
        (outs_names ins_names : List (List LinkName)) (outs : List (List Sending)) (ins : List (List Receiving)) (actors : List (NodeActor N D))
        → outs_names ≡ map names_of_outs outs → AreMadeOf rules disk plan blanks vaults outs ins actors
        → CanSit rules disk cfg seed nodes blanks vaults outs_names ins_names outs → AllByRecursion (IsNew rules disk) actors
    all_new plan cfg seed nodes blanks vaults outs_names ins_names outs ins actors names made can =
        let count = length nodes in
        let faults : faults_of actors ≡ all_faults seed count count = made.faults ∙ can.are_blanks.faults in
        are_new plan count actors made.begin
        (of_images (λ (a : NodeActor N D). a.core.store) (λ (s : Store D). KeepsChunks disk s []) actors
        (subst (AllByRecursion (λ (s : Store D). KeepsChunks disk s [])) (sym made.stores_are) (all_map stores.Open _ vaults (are_empty vaults can.empty))))
        (of_images (λ (a : NodeActor N D). a.outs.items) (AllByRecursion IsUnsent) actors
        (subst (AllByRecursion (AllByRecursion IsUnsent)) (sym made.outs_are) can.unsent))
        (of_images (λ (a : NodeActor N D). a.core.faults.items) AreUnheld actors
        (subst (AllByRecursion AreUnheld) (sym faults) (all_unheld seed count count)))
        (of_images (λ (a : NodeActor N D). a.core.faults.items) (λ (row : List Holding). length row ≡ count) actors
        (subst (AllByRecursion (λ (row : List Holding). length row ≡ count)) (sym faults) (all_as_many seed count count)))
        (of_images (λ (a : NodeActor N D). a.outs.items) (λ (row : List Sending). length (names_of_outs row) ≡ count) actors
        (of_images names_of_outs (λ (row : List LinkName). length row ≡ count) (outs_of actors)
        (subst (AllByRecursion (λ (row : List LinkName). length row ≡ count)) (names ∙ ap (map names_of_outs) (sym made.outs_are))
        can.linked.outs_are.width_is)))

    pub sit : (plan : FaultPlan) (blanks : List (Blank N)) (vaults : List (Vault D)) (outs_names ins_names : List (List LinkName)) (outs : List (List Sending))
        (ins : List (List Receiving)) (actors : List (NodeActor N D)) → outs_names ≡ map names_of_outs outs → ins_names ≡ map names_of_ins ins
        → AreMadeOf rules disk plan blanks vaults outs ins actors → Sit rules disk blanks vaults outs_names ins_names outs actors
    sit plan blanks vaults outs_names ins_names outs ins actors names_out names_in made = λ cfg seed nodes counts can all.
        let new = all_new plan cfg seed nodes blanks vaults outs_names ins_names outs ins actors names_out made can in
        let each = counted counts vaults actors all made.stores_are in
        let same = zip_length _ counts actors each in
        let names : names_of actors ≡ nodes = made.names ∙ can.are_blanks.names in
        let count : length nodes ≡ length actors = ap length (sym names) ∙ length-map actors (λ (a : NodeActor N D). a.core.name) in
        let as_many : length nodes ≡ length (seats_of counts actors) = count ∙ sym (seats_count counts actors same) in
        let outs_now : map names_of_outs outs ≡ map (λ (a : NodeActor N D). names_of_outs a.outs.items) actors =
        ap (map names_of_outs) (sym made.outs_are) ∙ map-map names_of_outs (λ (a : NodeActor N D). a.outs.items) actors in
        let ins_now : map names_of_ins ins ≡ map (λ (a : NodeActor N D). names_of_ins a.ins.items) actors =
        ap (map names_of_ins) (sym made.ins_are) ∙ map-map names_of_ins (λ (a : NodeActor N D). a.ins.items) actors in
        let outs_same : outs_names ≡ map (λ (seat : Seat). seat.outs) (seats_of counts actors) =
        names_out ∙ outs_now ∙ sym (seats_outs counts actors same) in
        let ins_same : ins_names ≡ map (λ (seat : Seat). seat.ins) (seats_of counts actors) =
        names_in ∙ ins_now ∙ sym (seats_ins counts actors same) in
        record {
          new = new;
          names = names;
          linked = linked_as count (names_out ∙ outs_now) (names_in ∙ ins_now) can.linked;
          seats = record {
            cfgs = seats_cfgs cfg counts actors (of_images (λ (a : NodeActor N D). a.core.cfg) (λ (c : Config). c ≡ cfg) actors
                (subst (AllByRecursion (λ (c : Config). c ≡ cfg)) (sym made.cfgs)
                (all_map (λ (b : Blank N). b.cfg) (λ (c : Config). c ≡ cfg) blanks can.are_blanks.cfgs)));
            linked = linked_as as_many outs_same ins_same can.linked;
          };
          seated = are_seated counts actors new each;
        }
