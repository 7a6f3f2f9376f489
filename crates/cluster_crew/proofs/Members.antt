-- A member stays at its post: as its node moves, as its view shows what the node did, and as the faults end.
use Rattle.std.proofs.Common.{◌≡◌, List, [], ◌∷◌, ◌++◌, drop, length, Option, refl, sym, ap, ◌∙◌, subst, IsTrue}
use Rattle.msg_wire.specs.Nodes.{is_client}
use Rattle.submit_desk.specs.Passes.{DeskView}
use Rattle.spec_base.specs.declared.disk.Disk.{Ghosts as DiskRules}
use Rattle.net_model.specs.declared.journal.Stamped.{Stamped}
use Rattle.net_model.specs.declared.model.NodeModel.{Ghosts as NodeRules}
use Rattle.node_actor.specs.declared.actor.NodeActor.{NodeActor}
use Rattle.node_actor.specs.Actors.{CanGoOn, Moved, EndedFaults}
use Rattle.node_actor.specs.Cores.{steps_of}
use Rattle.cluster_crew.specs.declared.member.Member.{Member}
use Rattle.cluster_crew.specs.declared.member.Side.{Side}
use Rattle.cluster_crew.specs.declared.member.Side.TheVariants as sides
use Rattle.net_model.specs.declared.viewed.View.{View}
use Rattle.cluster_crew.specs.Marks.{no_marks, with_steps, counts_in}
use Rattle.cluster_crew.specs.Shown.{OnShow, Shows, IsShown}
use Rattle.cluster_crew.specs.Posts.{IsSideAt, HasShown, Stays, Acts, CatchesUp, CanAct, CanSubmit, CanTurn, HasActed}
use Rattle.cluster_crew.proofs.Counting.{steps_more, steps_append, published_counts}
use Rattle.node_seats.proofs.Staying.{moved_stays, ended_stays}

drop_whole : {A : Type 0} (xs ys : List A) → drop (length xs) (xs ++ ys) ≡ ys
drop_whole [] ys = refl
drop_whole (x ∷ xs) ys = drop_whole xs ys

-- where all of the first steps were shown, and then the rest, all were shown
shown_all : (view : Option View) (shown more steps : List Stamped) (s t : OnShow) → steps ≡ shown ++ more → IsShown shown s → Shows view steps s t
    → IsShown steps t
shown_all view shown more steps s t are was shows = λ well.
    let (count, counts) = was (shows.was well) in
    let now = shows.shown well in
    let left : drop s.steps steps ≡ more = ap (λ l. drop s.steps l) are ∙ ap (λ n. drop n (shown ++ more)) count ∙ drop_whole shown more in
    let whole : with_steps (counts_in s.published.newest) (drop s.steps steps) ≡ with_steps no_marks steps =
    ap (with_steps (counts_in s.published.newest)) left ∙ ap (λ c. with_steps c more) counts ∙ sym (steps_append no_marks shown more)
    ∙ ap (with_steps no_marks) (sym are) in
    (now.count, published_counts view _ s.published t.published now.publishes (steps_more (counts_in s.published.newest) (drop s.steps steps)) ∙ whole)

module _ {N D P : Type 0} (rules : NodeRules N) (disk : DiskRules D) where
  abbrev pub with_side : NodeActor N D → Side P → Member N D P
  with_side actor side = record { actor = actor; side = side }

  pub stays_itself : (m : Member N D P) → Stays rules disk m m
  stays_itself m = record { at = λ post at. at; faultless = λ none. none }

  pub stays_then : (a b c : Member N D P) → Stays rules disk a b → Stays rules disk b c → Stays rules disk a c
  stays_then a b c first second = record { at = λ post at. second.at post (first.at post at); faultless = λ none. second.faultless (first.faultless none) }

  -- what is at a post can go on
  pub can_go : (m : Member N D P) → CanAct rules disk m → CanGoOn rules m.actor
  can_go m (post, at) = λ calm. (at.seated.going calm).ready

  pub moved_acts : (a b : NodeActor N D) (side : Side P) → Moved rules disk a b → Acts rules disk (with_side a side) (with_side b side)
  moved_acts a b side moved = record {
    at = λ post at. record {
      seated = moved_stays rules disk a b moved post.seat at.seated;
      side = at.side;
      behind = λ calm. (steps_of a.core, (moved.goes calm).more, (moved.goes calm).turned.steps, at.shown (moved.was calm));
    };
    faultless = λ none calm. (moved.goes calm).turned.plan ∙ none (moved.was calm);
  }

  pub has_acted : (a b : Member N D P) → CanAct rules disk a → Acts rules disk a b → HasActed rules disk b
  has_acted a b (post, at) acts = (post, acts.at post at)

  pub acts_then : (a b c : Member N D P) → Acts rules disk a b → CatchesUp rules disk b c → Stays rules disk a c
  acts_then a b c first second = record { at = λ post at. second.at post (first.at post at); faultless = λ none. second.faultless (first.faultless none) }

  -- a node takes a step, and its view shows it
  pub moved_shows : (m : Member N D P) (b : NodeActor N D) → CanAct rules disk m → Moved rules disk m.actor b → HasActed rules disk (with_side b m.side)
  moved_shows m b can moved = has_acted m (with_side b m.side) can (moved_acts m.actor b m.side moved)

  pub moved_then_shown : (m : Member N D P) (b : NodeActor N D) (n : Member N D P) → Moved rules disk m.actor b → CatchesUp rules disk (with_side b m.side) n
      → Stays rules disk m n
  moved_then_shown m b n moved shown = acts_then m (with_side b m.side) n (moved_acts m.actor b m.side moved) shown

  -- what stays at its post with its desk can take turns there
  pub turns_on : (desks : List DeskView) (m n : Member N D P) → CanTurn rules disk desks m → Stays rules disk m n → CanTurn rules disk desks n
  turns_on desks m n (post, at, desk) stays = (post, stays.at post at, desk)

  pub turns_acts : (desks : List DeskView) (m : Member N D P) → CanTurn rules disk desks m → CanAct rules disk m
  turns_acts desks m (post, at, desk) = (post, at)

  -- a consumer's view catches up with its node
  pub consumer_shown : (m : Member N D P) (view : Option View) (steps : List Stamped) (s t : OnShow) → m.side ≡ sides.Consumer s
      → steps ≡ steps_of m.actor.core → Shows view steps s t → CatchesUp rules disk m (with_side m.actor (sides.Consumer t))
  consumer_shown m view steps s t is are shows = record {
    at = λ post at. record {
      seated = at.seated;
      side = shows.cell ∙ subst (IsSideAt post) is at.side;
      shown = λ calm.
          let (shown, more, whole, was) = at.behind calm in
          subst (λ l. IsShown l t) are (shown_all view shown more steps s t (are ∙ whole) (subst (HasShown shown) is was) shows);
    };
    faultless = λ none. none;
  }

  pub ended_at : (a b : NodeActor N D) (side : Side P) → EndedFaults rules disk a b → Stays rules disk (with_side a side) (with_side b side)
  ended_at a b side ended = record {
    at = λ post at. record {
      seated = ended_stays rules disk a b ended post.seat at.seated;
      side = at.side;
      shown = λ calm. subst (λ (steps : List Stamped). HasShown steps side) (sym (ap (λ j. j.steps) (ended.goes calm).journal)) (at.shown (ended.was calm));
    };
    faultless = λ none calm. (ended.goes calm).plan;
  }

  -- what stays at its post keeps its node's name
  pub same_name : (a b : Member N D P) → CanAct rules disk a → Stays rules disk a b → b.actor.core.name ≡ a.actor.core.name
  same_name a b (post, at) stays = (stays.at post at).seated.name ∙ sym at.seated.name

  pub acts_on : (a b : Member N D P) → CanAct rules disk a → Stays rules disk a b → CanAct rules disk b
  acts_on a b (post, at) stays = (post, stays.at post at)

  pub submits_on : (a b : Member N D P) → CanSubmit rules disk a → Stays rules disk a b → CanSubmit rules disk b
  submits_on a b can stays = (acts_on a b can.0 stays, subst (λ n. IsTrue (is_client n)) (sym (same_name a b can.0 stays)) can.1)
