-- Nodes and sides are joined one after the other.
use Rattle.std.proofs.Common.{◌≡◌, List, [], ◌∷◌, ◌++◌, refl, sym, ap, ◌∙◌}
use Rattle.std.proofs.lemmas.List.{append_assoc, append-nil}
use Rattle.node_actor.specs.declared.actor.NodeActor.{NodeActor}
use Rattle.cluster_crew.specs.declared.member.Member.{Member}
use Rattle.cluster_crew.specs.declared.member.Side.{Side}
use Rattle.plan_crew.specs.Begins.{member_of, members_of}

module _ {N D P : Type 0} where
  -- these nodes took their sides, and these are left
  pub record IsJoined (nodes : List (NodeActor N D)) (beside : List (Side P)) (members : List (Member N D P)) (left : List (Side P)) : Type 0 where
    pub then : (more : List (NodeActor N D)) → members_of (nodes ++ more) beside ≡ members ++ members_of more left

  pub joined_none : (beside : List (Side P)) (members : List (Member N D P)) → members ≡ [] → IsJoined [] beside members beside
  joined_none beside members none = record { then = λ more. ap (λ ms. ms ++ members_of more beside) (sym none) }

  pub joined_one : (nodes : List (NodeActor N D)) (beside : List (Side P)) (members after : List (Member N D P)) (left rest : List (Side P))
      (node : NodeActor N D) (s : Side P) → left ≡ s ∷ rest → after ≡ members ++ member_of node s ∷ [] → IsJoined nodes beside members left
      → IsJoined (nodes ++ node ∷ []) beside after rest
  joined_one nodes beside members after left rest node s left_is after_is joined = record {
    then = λ more.
        ap (λ l. members_of l beside) (append_assoc nodes (node ∷ []) more) ∙ joined.then (node ∷ more)
        ∙ ap (λ l. members ++ members_of (node ∷ more) l) left_is
        ∙ sym (append_assoc members (member_of node s ∷ []) (members_of more rest))
        ∙ ap (λ ms. ms ++ members_of more rest) (sym after_is);
  }

  -- a node for which no side is left is none of them
  none_left : (more : List (NodeActor N D)) → members_of {P = P} more [] ≡ []
  none_left [] = refl
  none_left (node ∷ more) = refl

  pub joined_end : (nodes : List (NodeActor N D)) (beside : List (Side P)) (members : List (Member N D P)) (left rest : List (Side P))
      (node : NodeActor N D) → left ≡ [] → rest ≡ [] → IsJoined nodes beside members left → IsJoined (nodes ++ node ∷ []) beside members rest
  joined_end nodes beside members left rest node left_is rest_is joined = record {
    then = λ more.
        ap (λ l. members_of l beside) (append_assoc nodes (node ∷ []) more) ∙ joined.then (node ∷ more)
        ∙ ap (λ l. members ++ members_of (node ∷ more) l) left_is
        ∙ ap (λ ms. members ++ ms) (sym (none_left more))
        ∙ ap (λ l. members ++ members_of more l) (sym rest_is);
  }

  pub joined_all : (nodes all : List (NodeActor N D)) (beside : List (Side P)) (members : List (Member N D P)) (left : List (Side P)) → nodes ≡ all
      → IsJoined nodes beside members left → members ≡ members_of all beside
  joined_all nodes all beside members left same joined =
      sym (append-nil members) ∙ sym (joined.then []) ∙ ap (λ l. members_of l beside) (append-nil nodes) ∙ ap (λ l. members_of l beside) same
