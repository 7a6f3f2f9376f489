-- Nodes that are given their vaults sit at their seats, and stay there as the crew works.
use Rattle.std.proofs.Common.{◌≡◌, ℕ, List, [], ◌∷◌, ◌++◌, map, length, take, drop, refl, sym, ap, ◌∙◌, arith}
use Rattle.std.specs.List.{AllByRecursion, AllZip}
use Rattle.std.proofs.lemmas.List.{length-map}
use Rattle.std.proofs.Math.Seq.{take-append_seam}
use Rattle.spec_base.specs.declared.disk.Disk.{Ghosts as DiskRules}
use Rattle.gate_vault.specs.declared.vault.Vault.{Vault}
use Rattle.gate_vault.specs.Vault.{disk_of}
use Rattle.submit_desk.specs.Passes.{DeskView}
use Rattle.msg_wire.specs.declared.config.Config.{Config}
use Rattle.msg_wire.specs.declared.plan.Plan.{Plan}
use Rattle.msg_wire.specs.Nodes.{nodes_of}
use Rattle.net_model.specs.declared.model.NodeModel.{Ghosts as NodeRules}
use Rattle.net_model.specs.Names.{NodeId}
use Rattle.node_actor.specs.declared.actor.NodeActor.{NodeActor}
use Rattle.node_actor.specs.Cores.{steps_of}
use Rattle.node_seats.proofs.Zips.{zip_length}
use Rattle.node_seats.specs.Seats.{Seat, IsNew, AreSeated}
use Rattle.cluster_users.specs.declared.looks.Looks.{Looks}
use Rattle.cluster_users.specs.Reading.{Reading}
use Rattle.cluster_crew.specs.declared.crew.Crew.{Crew}
use Rattle.cluster_crew.specs.Crews.{IsCrewAt, Places, FitsPlan}
use Rattle.cluster_crew.specs.Ending.{IsKeptBy, seats_of}
use Rattle.cluster_crew.specs.Posts.{IsMemberAt}
use Rattle.cluster_crew.specs.Watching.{Watch, IsReaderAt, IsSubmitterAt}
use Rattle.cluster_seats.specs.declared.blank.Blank.{Blank}
use Rattle.cluster_seats.specs.Blanks.{AreBlanks}
use Rattle.cluster_seats.specs.Seatings.{AreSitting, seats_of as own_seats}
use Rattle.plan_crew.specs.Begins.{AreNew}
use Rattle.cluster_run.specs.Beginning.{counts_of}
use Rattle.cluster_run.specs.Running.{SeatsOf, consumers_in}

pub blank_count : {N : Type 0} (rules : NodeRules N) (cfg : Config) (seed : ℕ) (nodes : List NodeId) (blanks : List (Blank N))
    → AreBlanks rules cfg seed nodes blanks → length blanks ≡ length nodes
blank_count rules cfg seed nodes blanks are = sym (length-map blanks (λ b. b.name)) ∙ ap length are.names

module _ {N D : Type 0} (rules : NodeRules N) (disk : DiskRules D) where
  pub seated_names : (seats : List Seat) (actors : List (NodeActor N D)) → AreSeated rules disk seats actors
      → map (λ (s : Seat). s.name) seats ≡ map (λ (a : NodeActor N D). a.core.name) actors
  seated_names [] [] seated = refl
  seated_names [] (a ∷ actors) seated = absurd seated
  seated_names (s ∷ seats) [] seated = absurd seated
  seated_names (s ∷ seats) (a ∷ actors) seated =
      ap (λ n. n ∷ map (λ (t : Seat). t.name) seats) (sym seated.0.name) ∙ ap (λ l. a.core.name ∷ l) (seated_names seats actors seated.1)

  none_took : (actors : List (NodeActor N D)) → AllByRecursion (IsNew rules disk) actors → AllByRecursion (λ (a : NodeActor N D). steps_of a.core ≡ []) actors
  none_took [] new = tt
  none_took (a ∷ actors) new = (new.0.none, none_took actors new.1)

  pub sitting_are_new : (cfg : Config) (counts : List ℕ) (actors : List (NodeActor N D)) → AreSitting rules disk cfg (nodes_of cfg) counts actors
      → AreNew cfg actors
  sitting_are_new cfg counts actors sit = record { names = sit.names; none = none_took actors sit.new }

  pub actor_count : (cfg : Config) (nodes : List NodeId) (counts : List ℕ) (actors : List (NodeActor N D)) → AreSitting rules disk cfg nodes counts actors
      → length actors ≡ length nodes
  actor_count cfg nodes counts actors sit = sym (length-map actors (λ a. a.core.name)) ∙ ap length sit.names

  counts_are : (counts : List ℕ) (actors : List (NodeActor N D)) → length counts ≡ length actors
      → map (λ (s : Seat). s.count) (own_seats counts actors) ≡ counts
  counts_are [] actors each = refl
  counts_are (n ∷ counts) [] each = absurd (omega (arith, each))
  counts_are (n ∷ counts) (a ∷ actors) each = ap (λ l. n ∷ l) (counts_are counts actors (omega (arith, each)))

  pub seats_as_made : (cfg : Config) (nodes : List NodeId) (vaults : List (Vault D)) (actors : List (NodeActor N D)) → length vaults ≡ length nodes
      → AreSitting rules disk cfg nodes (counts_of disk vaults) actors → SeatsOf disk nodes vaults (own_seats (counts_of disk vaults) actors)
  seats_as_made cfg nodes vaults actors each sit = record {
    names = seated_names (own_seats (counts_of disk vaults) actors) actors sit.seated ∙ sit.names;
    counts = counts_are (counts_of disk vaults) actors (length-map vaults (λ v. disk.faults (disk_of v)) ∙ each ∙ sym (actor_count cfg nodes _ actors sit));
  }

-- ---- a crew at its places

kept_consumers : (watches : List Watch) (readers : List Reading) (looks : List Looks) → AllZip IsReaderAt watches readers → AllZip IsKeptBy readers looks
    → consumers_in looks ≡ map (λ (w : Watch). w.consumer) watches
kept_consumers [] [] [] at kept = refl
kept_consumers [] [] (l ∷ looks) at kept = absurd kept
kept_consumers [] (r ∷ readers) looks at kept = absurd at
kept_consumers (w ∷ watches) [] looks at kept = absurd at
kept_consumers (w ∷ watches) (r ∷ readers) [] at kept = absurd kept
kept_consumers (w ∷ watches) (r ∷ readers) (l ∷ looks) at kept =
    ap (λ c. c ∷ consumers_in looks) (kept.0.1 ∙ at.0.1) ∙ ap (λ l. w.consumer ∷ l) (kept_consumers watches readers looks at.1 kept.1)

module _ {N D P : Type 0} (rules : NodeRules N) (disk : DiskRules D) (plan : Plan) where
  -- how many are in it
  pub record HasCounts (count : ℕ) (crew : Crew N D P) : Type 0 where
    pub members : length crew.members.items ≡ count
    pub readers : length crew.readers.items ≡ length plan.readers
    pub submitters : length crew.submitters.items ≡ length plan.submitters

  pub crew_counts : (desks : List DeskView) (seats : List Seat) (places : Places) (crew : Crew N D P) → IsCrewAt rules disk places crew
      → FitsPlan plan desks places → seats_of places.posts ≡ seats → HasCounts (length seats) crew
  crew_counts desks seats places crew at fits same = record {
    members = sym (zip_length (IsMemberAt rules disk) places.posts crew.members.items at.members)
        ∙ sym (length-map places.posts (λ post. post.seat)) ∙ ap length same;
    readers = sym (zip_length IsReaderAt places.watches crew.readers.items at.readers)
        ∙ sym (length-map places.watches (λ w. w.consumer)) ∙ ap length fits.readers;
    submitters = sym (zip_length IsSubmitterAt places.sources crew.submitters.items at.submitters)
        ∙ sym (length-map places.sources (λ s. s.client)) ∙ ap length fits.submitters;
  }

  pub looks_as_asked : (desks : List DeskView) (places : Places) (crew : Crew N D P) (looks : List Looks) → IsCrewAt rules disk places crew
      → FitsPlan plan desks places → AllZip IsKeptBy crew.readers.items looks → consumers_in looks ≡ plan.readers
  looks_as_asked desks places crew looks at fits kept = kept_consumers places.watches crew.readers.items looks at.readers kept ∙ fits.readers

-- a list of which all was lent is what became of it
pub all_lent : {A : Type 0} (n : ℕ) (new old : List A) → length new ≡ n → take n (new ++ drop (length new) old) ≡ new
all_lent n new old same = ap (λ k. take k (new ++ drop (length new) old)) (sym same) ∙ take-append_seam new (drop (length new) old)
