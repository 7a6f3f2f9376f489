-- Each node of a cluster has the side that belongs to its name.
use Rattle.std.proofs.Common.{◌≡◌, ℕ, zero, suc, ◌+◌, ◌*◌, List, [], ◌∷◌, ◌++◌, map, length, replicate, Some, refl, sym, ap, ◌∙◌, subst, arith}
use Rattle.std.specs.List.{AllByRecursion, AllZip, range_with_len, flat_map}
use Rattle.std.specs.Prelude.{slice_get}
use Rattle.std.proofs.lemmas.List.{append_assoc, replicate-append-replicate}
use Rattle.view_cell.specs.Ends.{Showing}
use Rattle.submit_desk.specs.Passes.{DeskView}
use Rattle.msg_wire.specs.declared.config.Config.{Config}
use Rattle.msg_wire.specs.Names.{NodeId}
use Rattle.msg_wire.specs.Names.nodes
use Rattle.msg_wire.specs.Nodes.{sequencers_of, replicas_of, all_replicas_of, clients_of, consumers_of, nodes_of}
use Rattle.cluster_crew.specs.declared.member.Side.{Side}
use Rattle.cluster_crew.specs.declared.member.Side.TheVariants as sides
use Rattle.plan_desks.specs.declared.begun.Taker.{Taker}
use Rattle.plan_crew.specs.Begins.{IsUnshown, TakesFrom, desk_side, view_side, sides_of}

zip_append : {A B : Type 0} (R : A → B → Type 0) (xs : List A) (ys : List B) (xs' : List A) (ys' : List B) → AllZip R xs ys → AllZip R xs' ys'
    → AllZip R (xs ++ xs') (ys ++ ys')
zip_append R [] [] xs' ys' all more = more
zip_append R [] (y ∷ ys) xs' ys' all more = absurd all
zip_append R (x ∷ xs) [] xs' ys' all more = absurd all
zip_append R (x ∷ xs) (y ∷ ys) xs' ys' all more = (all.0, zip_append R xs ys xs' ys' all.1 more)

module _ (P : Type 0) (desks : List DeskView) (publishers : List Showing) where
  -- a client has the pass that takes from its desk
  pub record IsDeskSide (number : ℕ) (s : Side P) : Type 0 where
    pub taker : Taker
    pub is : s ≡ desk_side taker
    pub desk : DeskView
    pub there : slice_get desks number ≡ Some desk
    pub takes : TakesFrom desk taker

  -- a consumer has the end on which its view is published
  pub record IsViewSide (number : ℕ) (s : Side P) : Type 0 where
    pub publisher : Showing
    pub is : s ≡ view_side publisher
    pub there : slice_get publishers number ≡ Some publisher
    pub unshown : IsUnshown publisher

  -- the side of a node, by its name
  abbrev pub IsSideOf : NodeId → Side P → Type 0
  IsSideOf (nodes.Seq number) s = s ≡ sides.None
  IsSideOf (nodes.Shard number side) s = s ≡ sides.None
  IsSideOf (nodes.Client number) s = IsDeskSide number s
  IsSideOf (nodes.Consumer number) s = IsViewSide number s

  sequencers_fit : (a n : ℕ) → AllZip IsSideOf (map nodes.Seq (range_with_len a n)) (replicate n sides.None)
  sequencers_fit a zero = tt
  sequencers_fit a (suc n) = (refl, sequencers_fit (a + 1) n)

  -- a node has nothing
  abbrev bare : Side P
  bare = sides.None

  two_more : (n : ℕ) → replicate (2 * suc n) bare ≡ bare ∷ bare ∷ replicate (2 * n) bare
  two_more n = let count : 2 * suc n ≡ suc (suc (2 * n)) = omega arith in ap (λ k. replicate k bare) count

  replicas_fit : (a n : ℕ) → AllZip IsSideOf (flat_map replicas_of (range_with_len a n)) (replicate (2 * n) sides.None)
  replicas_fit a zero = tt
  replicas_fit a (suc n) =
      subst (AllZip IsSideOf (flat_map replicas_of (range_with_len a (suc n)))) (sym (two_more n)) (refl, (refl, replicas_fit (a + 1) n))

  -- those at the places from one on
  clients_fit : (a : ℕ) (ds : List DeskView) (takers : List Taker) → ((i : ℕ) → slice_get desks (a + i) ≡ slice_get ds i) → AllZip TakesFrom ds takers
      → AllZip IsSideOf (map nodes.Client (range_with_len a (length ds))) (map desk_side takers)
  clients_fit a [] [] same all = tt
  clients_fit a [] (t ∷ takers) same all = absurd all
  clients_fit a (d ∷ ds) [] same all = absurd all
  clients_fit a (d ∷ ds) (t ∷ takers) same all = (
    record { taker = t; is = refl; desk = d; there = ap (slice_get desks) (omega arith) ∙ same 0; takes = all.0 },
    clients_fit (a + 1) ds takers (λ i. ap (slice_get desks) (omega arith) ∙ same (suc i)) all.1,
  )

  consumers_fit : (a : ℕ) (ps : List Showing) → ((i : ℕ) → slice_get publishers (a + i) ≡ slice_get ps i) → AllByRecursion IsUnshown ps
      → AllZip IsSideOf (map nodes.Consumer (range_with_len a (length ps))) (map view_side ps)
  consumers_fit a [] same all = tt
  consumers_fit a (p ∷ ps) same all = (
    record { publisher = p; is = refl; there = ap (slice_get publishers) (omega arith) ∙ same 0; unshown = all.0 },
    consumers_fit (a + 1) ps (λ i. ap (slice_get publishers) (omega arith) ∙ same (suc i)) all.1,
  )

  -- all of them
  pub sides_fit : (c : Config) (takers : List Taker) → length desks ≡ length c.homes → AllZip TakesFrom desks takers → length publishers ≡ c.consumers
      → AllByRecursion IsUnshown publishers → AllZip IsSideOf (nodes_of c) (sides_of (c.seqs + 2 * c.shards) takers publishers)
  sides_fit c takers desks_each takes views_each unshown =
      let clients : AllZip IsSideOf (clients_of c) (map desk_side takers) =
      subst (λ n. AllZip IsSideOf (map nodes.Client (range_with_len 0 n)) (map desk_side takers)) desks_each
      (clients_fit 0 desks takers (λ i. ap (slice_get desks) (omega arith)) takes) in
      let consumers : AllZip IsSideOf (consumers_of c) (map view_side publishers) =
      subst (λ n. AllZip IsSideOf (map nodes.Consumer (range_with_len 0 n)) (map view_side publishers)) views_each
      (consumers_fit 0 publishers (λ i. ap (slice_get publishers) (omega arith)) unshown) in
      let later = zip_append IsSideOf (clients_of c) (map desk_side takers) (consumers_of c) (map view_side publishers) clients consumers in
      let apart : replicate (c.seqs + 2 * c.shards) bare ≡ replicate c.seqs sides.None ++ replicate (2 * c.shards) sides.None =
      sym (replicate-append-replicate c.seqs (2 * c.shards) sides.None) in
      let whole : sides_of {P = P} (c.seqs + 2 * c.shards) takers publishers
      ≡ replicate c.seqs sides.None ++ (replicate (2 * c.shards) sides.None ++ (map desk_side takers ++ map view_side publishers)) =
      ap (λ l. l ++ (map desk_side takers ++ map view_side publishers)) apart
      ∙ append_assoc (replicate c.seqs sides.None) (replicate (2 * c.shards) sides.None) (map desk_side takers ++ map view_side publishers) in
      subst (AllZip IsSideOf (nodes_of c)) (sym whole)
      (zip_append IsSideOf (sequencers_of c) (replicate c.seqs sides.None) (all_replicas_of c ++ (clients_of c ++ consumers_of c))
      (replicate (2 * c.shards) sides.None ++ (map desk_side takers ++ map view_side publishers)) (sequencers_fit 0 c.seqs)
      (zip_append IsSideOf (all_replicas_of c) (replicate (2 * c.shards) sides.None) (clients_of c ++ consumers_of c)
      (map desk_side takers ++ map view_side publishers) (replicas_fit 0 c.shards) later))
