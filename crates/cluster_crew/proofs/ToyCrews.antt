-- A crew of three new nodes, a client and a consumer among them, is at its places.
use Rattle.std.proofs.Common.{◌≡◌, ℕ, List, [], ◌∷◌, true, false, IsTrue, IsSomeAnd, slice_get, refl, sym, subst, arith}
use Rattle.std.specs.List.{AllZip}
use Rattle.std.proofs.lemmas.Bool.{false≢true}
use Rattle.atomic_table.specs.Seated.{TableId}
use Rattle.logbook.specs.Pages.{Book}
use Rattle.submit_desk.specs.Passes.{DeskView, PassView}
use Rattle.spec_base.specs.declared.disk.Disk.{Ghosts as DiskRules}
use Rattle.msg_wire.specs.Names.nodes
use Rattle.msg_wire.specs.Nodes.{is_client, number_of}
use Rattle.msg_wire.specs.declared.plan.Plan.{Plan}
use Rattle.view_cell.specs.Ends.{Showing}
use Rattle.net_model.specs.declared.journal.Stamped.{Stamped}
use Rattle.net_model.specs.declared.model.NodeModel.{Ghosts as NodeRules}
use Rattle.node_seats.specs.Seats.{IsNew, seat_of}
use Rattle.node_seats.proofs.Staying.{new_seated}
use Rattle.cluster_users.specs.Reading.{Reading}
use Rattle.cluster_users.specs.Submitting.{Submitting, submitting}
use Rattle.cluster_crew.specs.declared.crew.Crew.{Crew}
use Rattle.cluster_crew.specs.declared.member.Member.{Member}
use Rattle.cluster_crew.specs.declared.member.Side.TheVariants as sides
use Rattle.cluster_crew.specs.Marks.{counts_in, no_marks}
use Rattle.cluster_crew.specs.Shown.{on_show}
use Rattle.cluster_crew.specs.Posts.{Post, HasShown, IsMemberAt, IsSideAt}
use Rattle.cluster_crew.specs.Watching.{Watch, IsReaderAt, IsSubmitterAt}
use Rattle.cluster_crew.specs.Crews.{AreAt, CanFollow}
use Rattle.cluster_crew.specs.inside.Toys.{AreSources, source_at}

-- two submitters of the first client
pub sources_are : (desk own other : TableId) (a b : Submitting) (one two : List (List ℕ)) (all : List Submitting) → all ≡ a ∷ b ∷ []
    → a ≡ submitting 0 0 own one → b ≡ submitting 1 0 other two → own ≡ desk → other ≡ desk → AreSources desk all
sources_are desk own other a b one two all is ia ib e f = (
  one,
  two,
  subst (AllZip IsSubmitterAt (source_at desk 0 one ∷ source_at desk 1 two ∷ [])) (sym is) (
    subst (IsSubmitterAt (source_at desk 0 one)) (sym ia) (refl, refl, e, refl),
    (subst (IsSubmitterAt (source_at desk 1 two)) (sym ib) (refl, refl, f, refl), tt),
  ),
)

module _ {N D P : Type 0} (rules : NodeRules N) (disk : DiskRules D) (desk : TableId) (cell : Book) where
  abbrev post_of : Member N D P → Post
  post_of m = record { seat = seat_of 0 m.actor; desk = desk; cell = cell }

  at_post : (m : Member N D P) → IsNew rules disk m.actor → IsSideAt (post_of m) m.side → HasShown [] m.side → IsMemberAt rules disk (post_of m) m
  at_post m new side shown = record {
    seated = new_seated rules disk 0 m.actor new (omega arith);
    side = side;
    shown = λ calm. subst (λ (steps : List Stamped). HasShown steps m.side) (sym new.none) shown;
  }

  pub begins : (plan : Plan) (desks : List DeskView) (crew : Crew N D P) (a b c : Member N D P) (reader : Reading) (pass : PassView) (published : Showing)
      → crew.members.items ≡ a ∷ b ∷ c ∷ [] → crew.readers.items ≡ reader ∷ [] → AreSources desk crew.submitters.items
      → IsNew rules disk a.actor → IsNew rules disk b.actor → IsNew rules disk c.actor
      → a.actor.core.name ≡ nodes.Seq 0 → b.actor.core.name ≡ nodes.Client 0 → c.actor.core.name ≡ nodes.Consumer 0
      → a.side ≡ sides.None → b.side ≡ sides.Client pass → c.side ≡ sides.Consumer (on_show published 0 false)
      → pass.desk ≡ desk → pass.knows.takes ≡ true → published.cell ≡ cell → counts_in published.newest ≡ no_marks
      → (reader.number ≡ 0) × (reader.consumer ≡ 0) × (reader.pass.cell ≡ cell)
      → IsSomeAnd (slice_get desks 0) (λ (d : DeskView). d.desk ≡ desk) → plan.readers ≡ 0 ∷ [] → plan.submitters ≡ 0 ∷ 0 ∷ []
      → CanFollow rules disk plan desks crew
  begins plan desks crew a b c reader pass published members readers sources na nb nc ia ib ic sa sb sc own takes shows counts seen has rs ss =
      let watch : Watch = record { number = 0; consumer = 0; cell = cell } in
      let posts : List Post = post_of a ∷ post_of b ∷ post_of c ∷ [] in
      let first = at_post a na (subst (IsSideAt (post_of a)) (sym sa) tt) (subst (HasShown []) (sym sa) tt) in
      let second = at_post b nb (subst (IsSideAt (post_of b)) (sym sb) (own, takes)) (subst (HasShown []) (sym sb) tt) in
      let third = at_post c nc (subst (IsSideAt (post_of c)) (sym sc) shows) (subst (HasShown []) (sym sc) (λ well. (refl, counts))) in
      let (one, two, all) = sources in (
        record { posts = posts; watches = watch ∷ []; sources = source_at desk 0 one ∷ source_at desk 1 two ∷ [] },
        record {
          members = subst (AreAt rules disk posts) (sym members) (first, (second, (third, tt)));
          readers = subst (AllZip IsReaderAt (watch ∷ [])) (sym readers) (seen, tt);
          submitters = all;
        },
        record {
          desks_at = (
            λ is. absurd (false≢true (subst (λ n. IsTrue (is_client n)) ia is)),
            (
              λ is. subst (λ n. IsSomeAnd (slice_get desks (number_of n)) (λ (d : DeskView). d.desk ≡ desk)) (sym ib) has,
              (λ is. absurd (false≢true (subst (λ n. IsTrue (is_client n)) ic is)), tt),
            ),
          );
          readers = sym rs;
          cells = ((λ is. refl, (λ is. refl, (λ is. refl, tt))), tt);
          submitters = sym ss;
          sources_at = (has, (has, tt));
        },
      )
