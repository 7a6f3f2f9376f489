-- One actor of a list is written: what stays of it stays of the list.
use Rattle.std.proofs.Common.{◌≡◌, ℕ, zero, suc, ◌<◌, ◌+◌, List, [], ◌∷◌, length, get_or, set, map, None, refl, sym, ◌∙◌, subst, arith}
use Rattle.std.proofs.lemmas.List.{length-set}
use Rattle.link_rows.specs.Rows.{AreLinked}
use Rattle.node_links.specs.Links.{LinkName}
use Rattle.spec_base.specs.declared.disk.Disk.{Ghosts as DiskRules}
use Rattle.net_model.specs.declared.model.NodeModel.{Ghosts as NodeRules}
use Rattle.node_actor.specs.declared.actor.NodeActor.{NodeActor}
use Rattle.node_actor.specs.Actors.{CanGoOn, Moved}
use Rattle.node_actor.specs.Cores.{steps_of, IsReady}
use Rattle.node_actor.specs.Ins.{links_to}
use Rattle.node_actor.specs.Lanes.{links_of}
use Rattle.node_actor.proofs.Moving.{still_going}
use Rattle.node_seats.specs.Seats.{AreGoing, IsSeated, StaysSeated, WaitsElsewhere}
use Rattle.node_seats.proofs.Staying.{moved_stays, waits_stays}
use Rattle.node_seats.proofs.Zips.{all_get, all_set, map_set, zip_set}
use Rattle.cluster_drain.specs.Drains.{Drains, steps_in}

module _ {N D : Type 0} where
  abbrev pub out_names : NodeActor N D → List LinkName
  out_names actor = links_of actor.outs.items

  abbrev pub in_names : NodeActor N D → List LinkName
  in_names actor = links_to actor.ins.items

  abbrev pub IsGoing : NodeActor N D → Type 0
  IsGoing actor = actor.stopped ≡ None

  going_back : (xs : List (NodeActor N D)) (k : ℕ) (d y : NodeActor N D) → (IsGoing y → IsGoing (get_or xs k d)) → AreGoing (set xs k y) → AreGoing xs
  going_back [] k d y was all = tt
  going_back (x ∷ xs) zero d y was all = (was all.0, all.1)
  going_back (x ∷ xs) (suc k) d y was all = (all.0, going_back xs k d y was all.1)

  pub steps_set : (xs : List (NodeActor N D)) (k : ℕ) (d y : NodeActor N D) (more : ℕ) → k < length xs
      → length (steps_of y.core) ≡ length (steps_of (get_or xs k d).core) + more → steps_in (set xs k y) ≡ steps_in xs + more
  steps_set [] k d y more within is = absurd (omega (arith, within))
  steps_set (x ∷ xs) zero d y more within is = omega (arith, is)
  steps_set (x ∷ xs) (suc k) d y more within is = let later = steps_set xs k d y more (omega (arith, within)) is in omega (arith, later)

module _ {N D : Type 0} (rules : NodeRules N) (disk : DiskRules D) where
  -- what stays of an actor
  pub record Stays (before after : NodeActor N D) : Type 0 where
    pub can : CanGoOn rules before → CanGoOn rules after
    pub seated : StaysSeated rules disk before after
    pub was : IsGoing after → IsGoing before
    pub outs : out_names after ≡ out_names before
    pub ins : in_names after ≡ in_names before

  pub moved_keeps : (before after : NodeActor N D) → Moved rules disk before after → Stays before after
  moved_keeps before after moved = record {
    can = λ can. still_going rules disk before after moved;
    seated = moved_stays rules disk before after moved;
    was = moved.was;
    outs = moved.outs;
    ins = moved.ins;
  }

  pub waits_keeps : (before after : NodeActor N D) → WaitsElsewhere before after → Stays before after
  waits_keeps before after waits = record {
    can = λ can. λ calm. subst (IsReady rules) (sym waits.core) (can (sym waits.stopped ∙ calm));
    seated = waits_stays rules disk before after waits;
    was = λ calm. sym waits.stopped ∙ calm;
    outs = waits.outs;
    ins = waits.ins;
  }

  linked_set : (xs : List (NodeActor N D)) (k : ℕ) (d y : NodeActor N D) → Stays (get_or xs k d) y
      → AreLinked (length xs) (map out_names xs) (map in_names xs) → AreLinked (length (set xs k y)) (map out_names (set xs k y)) (map in_names (set xs k y))
  linked_set xs k d y stays linked =
      subst (λ n. AreLinked n (map out_names (set xs k y)) (map in_names (set xs k y))) (sym (length-set xs k y))
      (subst (λ l. AreLinked (length xs) l (map in_names (set xs k y))) (sym (map_set out_names xs k d y stays.outs))
      (subst (AreLinked (length xs) (map out_names xs)) (sym (map_set in_names xs k d y stays.ins)) linked))

  pub drains_set : (xs : List (NodeActor N D)) (k : ℕ) (d y : NodeActor N D) → k < length xs → Stays (get_or xs k d) y → Drains rules disk xs (set xs k y)
  drains_set xs k d y within stays = record {
    seated = λ seats all. zip_set (IsSeated rules disk) seats xs k y d within (λ seat at. stays.seated seat at) all;
    going = going_back xs k d y stays.was;
    as_many = length-set xs k y;
    can = λ can. record {
      each = all_set (CanGoOn rules) xs k y can.each (stays.can (all_get (CanGoOn rules) xs k d can.each within));
      linked = linked_set xs k d y stays can.linked;
    };
  }

  pub drains_itself : (xs : List (NodeActor N D)) → Drains rules disk xs xs
  drains_itself xs = record { seated = λ seats all. all; going = λ all. all; as_many = refl; can = λ can. can }

  pub drains_then : (xs ys zs : List (NodeActor N D)) → Drains rules disk xs ys → Drains rules disk ys zs → Drains rules disk xs zs
  drains_then xs ys zs first second = record {
    seated = λ seats all. second.seated seats (first.seated seats all);
    going = λ all. first.going (second.going all);
    as_many = second.as_many ∙ first.as_many;
    can = λ can. second.can (first.can can);
  }
