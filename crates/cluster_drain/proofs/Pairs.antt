-- A link of two nodes is settled: its ends are written, and no step is taken; what was settled before stays so.
use Rattle.std.proofs.Common.{◌≡◌, ◌≢◌, ◌⊎◌, inl, inr, ℕ, zero, suc, ◌<◌, ◌+◌, List, [], ◌∷◌, ◌++◌, length, get_or, set, map, take, drop, Some, refl, sym, ap}
use Rattle.std.proofs.Common.{◌∙◌, subst, arith}
use Rattle.std.proofs.lemmas.List.{length-set, length-map, get_or-map, get_or-take, get_or-drop, get_or-set_same, get_or-set_other, length-take-le, set-set}
use Rattle.std.proofs.lemmas.List.{set-append_left, set-append_right, take-append-drop, map-set}
use Rattle.std.proofs.lemmas.Option.{none-some, same_Some, slice_get-get_or, slice_get-map}
use Rattle.std.specs.Option.{option_map}
use Rattle.std.specs.Prelude.{slice_get}
use Rattle.link_rows.specs.Rows.{AreLinked, at_of_row, entry_at}
use Rattle.node_links.specs.Links.{LinkName, Receiving, Sending, queued}
use Rattle.spec_base.specs.declared.disk.Disk.{Ghosts as DiskRules}
use Rattle.net_model.specs.declared.model.NodeModel.{Ghosts as NodeRules}
use Rattle.node_actor.specs.declared.actor.NodeActor.{NodeActor}
use Rattle.node_actor.specs.declared.node_core.NodeCore.{NodeCore}
use Rattle.node_actor.specs.Cores.{steps_of}
use Rattle.node_actor.specs.Ins.{links_to}
use Rattle.node_actor.specs.Lanes.{links_of}
use Rattle.node_actor.specs.Settling.{AreEnds, AreSettledEnds, with_ins_of, with_outs_of}
use Rattle.node_seats.specs.Seats.{AreGoing, AreSettled, WaitsElsewhere, ins_of, outs_of, received_of}
use Rattle.node_seats.proofs.Zips.{all_at, all_get, all_set, get_set_other, get_set_same, map_set}
use Rattle.cluster_drain.specs.Drains.{Drains, steps_in}
use Rattle.cluster_drain.specs.inside.Pairs.{AreLinkEnds, IsLinkSettled, IsSettledPair, StaySettled}
use Rattle.cluster_drain.proofs.Writing.{IsGoing, drains_set, drains_then, in_names, out_names, steps_set, waits_keeps}

-- ---- lists

is_or_not : (a b : ℕ) → (a ≡ b) ⊎ (a ≢ b)
is_or_not a b = grind arith

at_end : (k n : ℕ) → k < n + 1 → (k < n) ⊎ (k ≡ n)
at_end k n low = grind arith

-- two parts are written and joined again
pub rejoined : {A : Type 0} (xs : List A) (i m : ℕ) (x y : A) → i < m → m < length xs
    → set (take m xs) i x ++ set (drop m xs) 0 y ≡ set (set xs m y) i x
rejoined xs i m x y low within =
    let long : length (take m xs) ≡ m = length-take-le m xs (omega (arith, within)) in
    let back : take m xs ++ set (drop m xs) 0 y ≡ set xs m y =
    ap (λ n. take m xs ++ set (drop m xs) n y) (omega arith) ∙ sym (set-append_right (take m xs) (drop m xs) m m y long (omega arith))
    ∙ ap (λ l. set l m y) (take-append-drop m xs) in
    sym (set-append_left (take m xs) (set (drop m xs) 0 y) i x (omega (arith, low, long))) ∙ ap (λ l. set l i x) back

-- the parts of a list that was split
pub low_is : {A : Type 0} (xs front : List A) (m i : ℕ) (d : A) → front ≡ take m xs → i < m → get_or front i d ≡ get_or xs i d
low_is xs front m i d is low = ap (λ l. get_or l i d) is ∙ get_or-take m xs i d low

pub high_is : {A : Type 0} (xs back : List A) (m : ℕ) (d : A) → back ≡ drop m xs → get_or back 0 d ≡ get_or xs m d
high_is xs back m d is = ap (λ l. get_or l 0 d) is ∙ get_or-drop m xs 0 d ∙ ap (λ n. get_or xs n d) (omega arith)

pub joined : {A : Type 0} (xs front back : List A) (i m : ℕ) (x y : A) → front ≡ take m xs → back ≡ drop m xs → i < m → m < length xs
    → set front i x ++ set back 0 y ≡ set (set xs m y) i x
joined xs front back i m x y is_front is_back low within =
    ap (λ l. set l i x ++ set back 0 y) is_front ∙ ap (λ l. set (take m xs) i x ++ set l 0 y) is_back ∙ rejoined xs i m x y low within

-- an entry of rows of which one was written
entry_same : {X : Type 0} (rows : List (List X)) (i j : ℕ) (row : List X) (x : X) → i < length rows → j < length row
    → entry_at (set rows i (set row j x)) i j ≡ Some x
entry_same rows i j row x high low = ap (λ r. at_of_row r j) (get_set_same rows i (set row j x) high) ∙ get_set_same row j x low

entry_other : {X : Type 0} (rows : List (List X)) (i j k l : ℕ) (row : List X) (x : X) → slice_get rows i ≡ Some row → i < length rows
    → (k ≢ i) ⊎ (l ≢ j) → entry_at (set rows i (set row j x)) k l ≡ entry_at rows k l
entry_other rows i j k l row x at high (inl other) = ap (λ r. at_of_row r l) (get_set_other rows i k (set row j x) other)
entry_other rows i j k l row x at high (inr other) = by (is_or_not k i) where
  by : (k ≡ i) ⊎ (k ≢ i) → entry_at (set rows i (set row j x)) k l ≡ entry_at rows k l
  by (inl is) =
      ap (λ n. entry_at (set rows i (set row j x)) n l) is ∙ ap (λ r. at_of_row r l) (get_set_same rows i (set row j x) high)
      ∙ get_set_other row j l x other ∙ ap (λ r. at_of_row r l) (sym at) ∙ ap (λ n. entry_at rows n l) (sym is)
  by (inr apart) = ap (λ r. at_of_row r l) (get_set_other rows i k (set row j x) apart)

row_within : {X : Type 0} (rows : List (List X)) (i j : ℕ) (x : X) → entry_at rows i j ≡ Some x → i < length rows
row_within [] i j x at = absurd (none-some x at)
row_within (row ∷ rows) zero j x at = omega arith
row_within (row ∷ rows) (suc i) j x at = let low = row_within rows i j x at in omega (arith, low)

-- ---- two actors

module _ {N D : Type 0} where
  -- the sender and the receiver are two
  pub pair_is : (from to : ℕ) (xs after : List (NodeActor N D)) (a b sender receiver : NodeActor N D) → from ≢ to
      → ((d : NodeActor N D) → get_or xs from d ≡ a) → ((d : NodeActor N D) → get_or xs to d ≡ b) → after ≡ set (set xs from sender) to receiver
      → sender ≡ with_outs_of sender a → receiver ≡ with_ins_of receiver b
      → AreSettledEnds a.outs.items sender.outs.items to b.ins.items receiver.ins.items from → IsSettledPair from to xs after
  pair_is from to xs after a b sender receiver two at_a at_b is sends receives settled = record {
    sender = sender;
    receiver = receiver;
    after_is = is;
    sends = λ d. sends ∙ ap (with_outs_of sender) (sym (at_a d));
    receives = λ d. receives ∙ ap (with_ins_of receiver) (sym (at_b d)) ∙ ap (with_ins_of receiver)
        (sym (get_or-set_other xs from to sender d (λ e. two (sym e))));
    settled = λ d e.
        subst (λ (x : NodeActor N D). AreSettledEnds x.outs.items sender.outs.items to (get_or xs to e).ins.items receiver.ins.items from) (sym (at_a d))
        (subst (λ (x : NodeActor N D). AreSettledEnds a.outs.items sender.outs.items to x.ins.items receiver.ins.items from) (sym (at_b e)) settled);
  }

  -- they are one
  pub own_is : (place : ℕ) (xs : List (NodeActor N D)) (a actor : NodeActor N D) → place < length xs → ((d : NodeActor N D) → get_or xs place d ≡ a)
      → actor ≡ with_outs_of actor (with_ins_of actor a)
      → AreSettledEnds a.outs.items actor.outs.items place a.ins.items actor.ins.items place → IsSettledPair place place xs (set xs place actor)
  own_is place xs a actor within at_a is settled =
      let sender = with_outs_of actor a in
      record {
        sender = sender;
        receiver = actor;
        after_is = sym (set-set xs place sender actor);
        sends = λ d. ap (with_outs_of actor) (sym (at_a d));
        receives = λ d. is ∙ ap (with_ins_of actor) (sym (get_or-set_same xs place sender d within));
        settled = λ d e.
            subst (λ (x : NodeActor N D). AreSettledEnds x.outs.items sender.outs.items place (get_or xs place e).ins.items actor.ins.items place)
            (sym (at_a d))
            (subst (λ (x : NodeActor N D). AreSettledEnds a.outs.items sender.outs.items place x.ins.items actor.ins.items place) (sym (at_a e)) settled);
      }

  -- ---- nothing but what waits was changed

  waits_out : (to from : ℕ) (a sender : NodeActor N D) (ins ins' : List Receiving) → AreSettledEnds a.outs.items sender.outs.items to ins ins' from
      → sender ≡ with_outs_of sender a → WaitsElsewhere a sender
  waits_out to from a sender ins ins' ends is =
      let link = λ (o : Sending). o.link in record {
        core = ap (λ (x : NodeActor N D). x.core) is;
        stopped = ap (λ (x : NodeActor N D). x.stopped) is;
        outs = ap (map link) ends.outs_are ∙ map_set link a.outs.items to ends.out ends.out (ends.settled ends.out ends.into).out_link;
        queued = ap (map queued) ends.outs_are ∙ map_set queued a.outs.items to ends.out ends.out (ends.settled ends.out ends.into).queued_same;
        ins = ap (λ (x : NodeActor N D). links_to x.ins.items) is;
        received = ap (λ (x : NodeActor N D). map received_of x.ins.items) is;
      }

  waits_in : (to from : ℕ) (b receiver : NodeActor N D) (outs outs' : List Sending) → AreSettledEnds outs outs' to b.ins.items receiver.ins.items from
      → receiver ≡ with_ins_of receiver b → WaitsElsewhere b receiver
  waits_in to from b receiver outs outs' ends is =
      let link = λ (i : Receiving). i.link in record {
        core = ap (λ (x : NodeActor N D). x.core) is;
        stopped = ap (λ (x : NodeActor N D). x.stopped) is;
        outs = ap (λ (x : NodeActor N D). links_of x.outs.items) is;
        queued = ap (λ (x : NodeActor N D). map queued x.outs.items) is;
        ins = ap (map link) ends.ins_are ∙ map_set link b.ins.items from ends.into ends.into (ends.settled ends.out ends.into).in_link;
        received = ap (map received_of) ends.ins_are
            ∙ map_set received_of b.ins.items from ends.into ends.into (ends.settled ends.out ends.into).received;
      }

  -- the list in which the sender's ends are written
  abbrev pub mid : (from to : ℕ) (xs zs : List (NodeActor N D)) → IsSettledPair from to xs zs → List (NodeActor N D)
  mid from to xs zs p = set xs from p.sender

  pub record TwoWrites (from to : ℕ) (xs ys zs : List (NodeActor N D)) (d sender receiver : NodeActor N D) : Type 0 where
    pub ys_are : ys ≡ set xs from sender
    pub zs_are : zs ≡ set ys to receiver
    pub low : from < length xs
    pub high : to < length ys
    pub out : WaitsElsewhere (get_or xs from d) sender
    pub into : WaitsElsewhere (get_or ys to d) receiver

  two_writes : (from to : ℕ) (xs zs : List (NodeActor N D)) (p : IsSettledPair from to xs zs) → from < length xs → to < length xs
      → TwoWrites from to xs (set xs from p.sender) zs p.sender p.sender p.receiver
  two_writes from to xs zs p low high =
      let a = get_or xs from p.sender in
      let ys = set xs from p.sender in
      let b = get_or ys to p.sender in
      let sent = p.settled p.sender p.sender in
      let same : (get_or ys to p.sender).ins.items ≡ (get_or xs to p.sender).ins.items =
      ins_same from to xs p.sender (ap (λ (x : NodeActor N D). x.ins.items) (p.sends p.sender)) in
      record {
        ys_are = refl;
        zs_are = p.after_is;
        low = low;
        high = omega (arith, high, length-set xs from p.sender);
        out = waits_out to from a p.sender (get_or xs to p.sender).ins.items p.receiver.ins.items sent (p.sends p.sender);
        into = waits_in to from b p.receiver a.outs.items p.sender.outs.items
            (subst (λ l. AreSettledEnds a.outs.items p.sender.outs.items to l p.receiver.ins.items from) (sym same) sent) (p.receives p.sender);
      } where
        ins_same : (from to : ℕ) (xs : List (NodeActor N D)) (y : NodeActor N D) → y.ins.items ≡ (get_or xs from y).ins.items
            → (get_or (set xs from y) to y).ins.items ≡ (get_or xs to y).ins.items
        ins_same from to [] y same = refl
        ins_same zero zero (x ∷ xs) y same = same
        ins_same zero (suc to) (x ∷ xs) y same = refl
        ins_same (suc from) zero (x ∷ xs) y same = refl
        ins_same (suc from) (suc to) (x ∷ xs) y same = ins_same from to xs y same

  -- no step was taken, and none is stopped by it
  wait_steps : (xs : List (NodeActor N D)) (k : ℕ) (d y : NodeActor N D) → k < length xs → WaitsElsewhere (get_or xs k d) y → steps_in
      (set xs k y) ≡ steps_in xs
  wait_steps xs k d y within waits =
      let same : length (steps_of y.core) ≡ length (steps_of (get_or xs k d).core) = ap (λ (c : NodeCore N D). length (steps_of c)) waits.core in
      let is = steps_set xs k d y 0 within (omega (arith, same)) in omega (arith, is)

  pub pair_steps : (from to : ℕ) (xs zs : List (NodeActor N D)) → IsSettledPair from to xs zs → from < length xs → to < length xs → steps_in zs ≡ steps_in xs
  pair_steps from to xs zs p low high =
      let w = two_writes from to xs zs p low high in
      let ys = set xs from p.sender in
      ap steps_in w.zs_are ∙ wait_steps ys to p.sender p.receiver w.high w.into ∙ wait_steps xs from p.sender p.sender low w.out

  wait_going : (xs : List (NodeActor N D)) (k : ℕ) (d y : NodeActor N D) → k < length xs → WaitsElsewhere (get_or xs k d) y → AreGoing xs → AreGoing
      (set xs k y)
  wait_going xs k d y within waits all = all_set IsGoing xs k y all (waits.stopped ∙ all_get IsGoing xs k d all within)

  pub pair_going : (from to : ℕ) (xs zs : List (NodeActor N D)) → IsSettledPair from to xs zs → from < length xs → to < length xs → AreGoing xs → AreGoing zs
  pair_going from to xs zs p low high all =
      let w = two_writes from to xs zs p low high in
      let ys = set xs from p.sender in
      subst AreGoing (sym w.zs_are) (wait_going ys to p.sender p.receiver w.high w.into (wait_going xs from p.sender p.sender low w.out all))

  pub pair_drains : (rules : NodeRules N) (disk : DiskRules D) (from to : ℕ) (xs zs : List (NodeActor N D)) → IsSettledPair from to xs zs
      → from < length xs → to < length xs → Drains rules disk xs zs
  pair_drains rules disk from to xs zs p low high =
      let w = two_writes from to xs zs p low high in
      let ys = set xs from p.sender in
      subst (Drains rules disk xs) (sym w.zs_are)
      (drains_then rules disk xs ys (set ys to p.receiver)
      (drains_set rules disk xs from p.sender p.sender low (waits_keeps rules disk (get_or xs from p.sender) p.sender w.out))
      (drains_set rules disk ys to p.sender p.receiver w.high (waits_keeps rules disk (get_or ys to p.sender) p.receiver w.into)))

  -- ---- settled links stay so

  abbrev outs_at : NodeActor N D → List Sending
  outs_at actor = actor.outs.items

  abbrev ins_at : NodeActor N D → List Receiving
  ins_at actor = actor.ins.items

  outs_after : (from to : ℕ) (xs zs : List (NodeActor N D)) (p : IsSettledPair from to xs zs) → outs_of zs ≡ set (outs_of xs) from p.sender.outs.items
  outs_after from to xs zs p =
      let ys = set xs from p.sender in
      ap (map outs_at) p.after_is ∙ map_set outs_at ys to p.sender p.receiver (ap (λ (x : NodeActor N D). x.outs.items) (p.receives p.sender))
      ∙ map-set outs_at xs from p.sender

  ins_after : (from to : ℕ) (xs zs : List (NodeActor N D)) (p : IsSettledPair from to xs zs) → ins_of zs ≡ set (ins_of xs) to p.receiver.ins.items
  ins_after from to xs zs p =
      let ys = set xs from p.sender in
      ap (map ins_at) p.after_is ∙ map-set ins_at ys to p.receiver
      ∙ ap (λ l. set l to p.receiver.ins.items) (map_set ins_at xs from p.sender p.sender (ap (λ (x : NodeActor N D). x.ins.items) (p.sends p.sender)))

  -- the rows of one link before, and how they are after
  pub record RowsAt (from to : ℕ) (xs zs : List (NodeActor N D)) : Type 0 where
    pub a : NodeActor N D
    pub b : NodeActor N D
    pub ends : AreEnds a.outs.items to b.ins.items from
    pub out : Sending
    pub into : Receiving
    pub outs : outs_of zs ≡ set (outs_of xs) from (set a.outs.items to out)
    pub ins : ins_of zs ≡ set (ins_of xs) to (set b.ins.items from into)
    pub out_row : slice_get (outs_of xs) from ≡ Some a.outs.items
    pub in_row : slice_get (ins_of xs) to ≡ Some b.ins.items
    pub low : from < length (outs_of xs)
    pub high : to < length (ins_of xs)
    pub in_order : into.received ++ into.waiting ≡ out.pushed

  rows_at : (from to : ℕ) (xs zs : List (NodeActor N D)) → IsSettledPair from to xs zs → AreLinkEnds from to xs → from < length xs → to < length xs
      → RowsAt from to xs zs
  rows_at from to xs zs p ends low high =
      let a = get_or xs from p.sender in
      let b = get_or xs to p.sender in
      let s = p.settled p.sender p.sender in
      record {
        a = a;
        b = b;
        ends = ends p.sender p.sender;
        out = s.out;
        into = s.into;
        outs = outs_after from to xs zs p ∙ ap (set (outs_of xs) from) s.outs_are;
        ins = ins_after from to xs zs p ∙ ap (set (ins_of xs) to) s.ins_are;
        out_row = slice_get-map outs_at xs from ∙ ap (option_map outs_at) (slice_get-get_or xs from p.sender low);
        in_row = slice_get-map ins_at xs to ∙ ap (option_map ins_at) (slice_get-get_or xs to p.sender high);
        low = omega (arith, low, length-map xs outs_at);
        high = omega (arith, high, length-map xs ins_at);
        in_order = (s.settled s.out s.into).in_order;
      }

  settled_here : (from to : ℕ) (xs zs : List (NodeActor N D)) → RowsAt from to xs zs → IsLinkSettled zs from to
  settled_here from to xs zs r = λ out into at_out at_into.
      let out_is : r.out ≡ out = same_Some r.out out
      (sym (entry_same (outs_of xs) from to r.a.outs.items r.out r.low r.ends.sends) ∙ ap (λ rows. entry_at rows from to) (sym r.outs) ∙ at_out) in
      let into_is : r.into ≡ into = same_Some r.into into
      (sym (entry_same (ins_of xs) to from r.b.ins.items r.into r.high r.ends.receives) ∙ ap (λ rows. entry_at rows to from) (sym r.ins) ∙ at_into) in
      subst (λ (o : Sending). into.received ++ into.waiting ≡ o.pushed) out_is
      (subst (λ (i : Receiving). i.received ++ i.waiting ≡ r.out.pushed) into_is r.in_order)

  settled_there : (from to i j : ℕ) (xs zs : List (NodeActor N D)) → RowsAt from to xs zs → (i ≢ from) ⊎ (j ≢ to) → (j ≢ to) ⊎ (i ≢ from)
      → IsLinkSettled xs i j → IsLinkSettled zs i j
  settled_there from to i j xs zs r other rehto was = λ out into at_out at_into.
      was out into
      (sym (entry_other (outs_of xs) from to i j r.a.outs.items r.out r.out_row r.low other) ∙ ap (λ rows. entry_at rows i j) (sym r.outs) ∙ at_out)
      (sym (entry_other (ins_of xs) to from j i r.b.ins.items r.into r.in_row r.high rehto) ∙ ap (λ rows. entry_at rows j i) (sym r.ins) ∙ at_into)

  settled_by : (from to i j : ℕ) (xs zs : List (NodeActor N D)) → RowsAt from to xs zs → (i ≡ from) ⊎ (i ≢ from) → (j ≡ to) ⊎ (j ≢ to)
      → IsLinkSettled xs i j → IsLinkSettled zs i j
  settled_by from to i j xs zs r (inl e) (inl f) was =
      subst (λ n. IsLinkSettled zs n j) (sym e) (subst (IsLinkSettled zs from) (sym f) (settled_here from to xs zs r))
  settled_by from to i j xs zs r (inr apart) f was = settled_there from to i j xs zs r (inl apart) (inr apart) was
  settled_by from to i j xs zs r (inl e) (inr apart) was = settled_there from to i j xs zs r (inr apart) (inl apart) was

  pub pair_settled : (from to : ℕ) (xs zs : List (NodeActor N D)) → IsSettledPair from to xs zs → AreLinkEnds from to xs → from < length xs → to < length xs
      → IsLinkSettled zs from to
  pair_settled from to xs zs p ends low high = settled_here from to xs zs (rows_at from to xs zs p ends low high)

  pub pair_stays : (from to : ℕ) (xs zs : List (NodeActor N D)) → IsSettledPair from to xs zs → AreLinkEnds from to xs → from < length xs → to < length xs
      → StaySettled xs zs
  pair_stays from to xs zs p ends low high = λ i j was.
      settled_by from to i j xs zs (rows_at from to xs zs p ends low high) (is_or_not i from) (is_or_not j to) was

  -- ---- link after link

  pub settled_below : (from to : ℕ) (ys zs : List (NodeActor N D)) → StaySettled ys zs → ((j : ℕ) → j < to → IsLinkSettled ys from j) → IsLinkSettled zs from to
      → (j : ℕ) → j < to + 1 → IsLinkSettled zs from j
  settled_below from to ys zs stays done last = λ j low. by j (at_end j to low) where
    by : (j : ℕ) → (j < to) ⊎ (j ≡ to) → IsLinkSettled zs from j
    by j (inl lower) = stays from j (done j lower)
    by j (inr here) = subst (IsLinkSettled zs from) (sym here) last

  pub rows_below : (from count : ℕ) (ys zs : List (NodeActor N D)) → StaySettled ys zs
      → ((i : ℕ) → i < from → (j : ℕ) → j < count → IsLinkSettled ys i j) → ((j : ℕ) → j < count → IsLinkSettled zs from j)
      → (i : ℕ) → i < from + 1 → (j : ℕ) → j < count → IsLinkSettled zs i j
  rows_below from count ys zs stays done last = λ i low. by i (at_end i from low) where
    by : (i : ℕ) → (i < from) ⊎ (i ≡ from) → (j : ℕ) → j < count → IsLinkSettled zs i j
    by i (inl lower) = λ j high. stays i j (done i lower j high)
    by i (inr here) = λ j high. subst (λ n. IsLinkSettled zs n j) (sym here) (last j high)

  pub all_settled : (xs : List (NodeActor N D)) → ((from to : ℕ) → from < length xs → to < length xs → IsLinkSettled xs from to) → AreSettled xs
  all_settled xs each = λ from to out into at_out at_into.
      each from to (omega (arith, row_within (outs_of xs) from to out at_out, length-map xs outs_at))
      (omega (arith, row_within (ins_of xs) to from into at_into, length-map xs ins_at)) out into at_out at_into

  -- ---- the links of a cluster

  row_width : (f : NodeActor N D → List LinkName) (n : ℕ) (xs : List (NodeActor N D)) (k : ℕ) (d : NodeActor N D) → k < length xs
      → ((i : ℕ) (l : List LinkName) → slice_get (map f xs) i ≡ Some l → length l ≡ n) → length (f (get_or xs k d)) ≡ n
  row_width f n xs k d within each =
      each k (f (get_or xs k d)) (slice_get-map f xs k ∙ ap (option_map f) (slice_get-get_or xs k d within))

  link_at : (f : NodeActor N D → List LinkName) (xs : List (NodeActor N D)) (i j : ℕ) (d : NodeActor N D) (e : LinkName) → i < length xs → j < length
      (f (get_or xs i d))
      → entry_at (map f xs) i j ≡ Some (get_or (f (get_or xs i d)) j e)
  link_at f xs i j d e within low =
      ap (λ row. at_of_row row j) (slice_get-map f xs i ∙ ap (option_map f) (slice_get-get_or xs i d within)) ∙ slice_get-get_or (f (get_or xs i d)) j e low

  pub ends_of : (from to : ℕ) (xs : List (NodeActor N D)) → AreLinked (length xs) (map out_names xs) (map in_names xs) → from < length xs → to < length xs
      → AreLinkEnds from to xs
  ends_of from to xs linked low high = λ a b.
      let outs = (get_or xs from a).outs.items in
      let ins = (get_or xs to b).ins.items in
      let out_link = λ (o : Sending). o.link in
      let in_link = λ (i : Receiving). i.link in
      let out_width : length (out_names (get_or xs from a)) ≡ length xs =
      row_width out_names (length xs) xs from a low (λ i l at. all_at (λ row. length row ≡ length xs) (map out_names xs) i l linked.outs_are.width_is at) in
      let in_width : length (in_names (get_or xs to b)) ≡ length xs =
      row_width in_names (length xs) xs to b high (λ i l at. all_at (λ row. length row ≡ length xs) (map in_names xs) i l linked.ins_are.width_is at) in
      let sends : to < length outs = omega (arith, high, out_width, length-map outs out_link) in
      let receives : from < length ins = omega (arith, low, in_width, length-map ins in_link) in
      record {
        sends = sends;
        receives = receives;
        one_link = λ out into.
            let out_is = link_at out_names xs from to a out.link low (omega (arith, high, out_width)) in
            let in_is = link_at in_names xs to from b out.link high (omega (arith, low, in_width)) in
            let same = same_Some (get_or (in_names (get_or xs to b)) from out.link) (get_or (out_names (get_or xs from a)) to out.link)
            (sym in_is ∙ linked.linked from to low high ∙ out_is) in
            sym (get_or-map out_link outs to out out.link sends) ∙ sym same ∙ get_or-map in_link ins from into out.link receives;
      }
