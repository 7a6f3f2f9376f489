-- A slot's acceptor and the items of its sequencer, as one item more is stored: at a ballot that the promise doesn't pass, or at another slot.
use Rattle.std.proofs.Common.{◌≡◌, ℕ, ◌≤◌, ◌==◌, Bool, true, false, List, [], ◌∷◌, ◌++◌, Contains, Option, Some, None, inl, inr, sym, subst, arith, if◌then◌else◌}
use Rattle.std.proofs.lemmas.Bool.{eqb-true, eqb-false}
use Rattle.std.proofs.lemmas.List.Elements.{Contains-append_left, Contains-append_right, Contains-push_cases}
use Rattle.majority.specs.Ballots.{greater_promise}
use Rattle.majority.specs.Acceptors.{AcceptorState, with_promise, with_vote}
use Rattle.majority.specs.Agreement.{Reaches}
use Rattle.majority.proofs.Lists.{Contains_here, Contains_cases, Contains_none}
use Rattle.majority.proofs.Casts.{Reaches_bound}
use Rattle.majority.proofs.Steps.{not_passed}
use Rattle.runs.specs.Names.{Entry, Item}
use Rattle.runs.specs.Names.items
use Rattle.runs.specs.Marks.{EachAfter}
use Rattle.safety_frame.proofs.Lists.{each_push}
use Rattle.safety_agreement.specs.Acceptors.{IsLast, IsOfItem, RisesAt, HasLast}

-- ---- one item more

-- an item of the list, where one more was put at its end
still_there : (stored : List Item) (item x : Item) → Contains stored x → Contains (stored ++ item ∷ []) x
still_there stored item x c = Contains-append_left stored (item ∷ []) x c

there_now : (stored : List Item) (item : Item) → Contains (stored ++ item ∷ []) item
there_now stored item = Contains-append_right stored (item ∷ []) item (Contains_here item [])

-- the item is none of the slot's
pub record IsApart (slot : ℕ) (item : Item) : Type 0 where
  pub no_promise : (ballot : ℕ) → item ≡ items.Promised slot ballot → ⊥
  pub no_vote : (ballot : ℕ) (entry : Entry) → item ≡ items.Accepted slot ballot entry → ⊥

one_of : (x y : Item) → Contains (x ∷ []) y → x ≡ y
one_of x y c = elim (Contains_cases x y [] c) [
  | inl same ↦ same
  | inr none ↦ absurd (Contains_none y none)
]

module _ (slot : ℕ) (stored : List Item) where
  -- ballots don't fall where the item's is at least each that the promise reaches
  pushed_rises : (item : Item) (own : AcceptorState Entry)
      → ((later ballot : ℕ) → IsOfItem slot (item ∷ []) (Some later) → Reaches own.promised ballot → ballot ≤ later)
      → HasLast slot stored own → EachAfter (RisesAt slot) [] (stored ++ item ∷ [])
  pushed_rises item own above has =
      each_push (RisesAt slot) [] stored item has.rises
      (λ ballot later was now. elim was [
        | inl c ↦ above later ballot now (has.promised ballot c)
        | inr c ↦ above later ballot now (has.accepted ballot c.0 c.1)
      ])

  of_item_still : (item : Item) (promise : Option ℕ) → IsOfItem slot stored promise → IsOfItem slot (stored ++ item ∷ []) promise
  of_item_still item None is = tt
  of_item_still item (Some ballot) is = elim is [
    | inl c ↦ inl (still_there stored item (items.Promised slot ballot) c)
    | inr c ↦ inr (c.0, still_there stored item (items.Accepted slot ballot c.0) c.1)
  ]

  last_still : (item : Item) (last : Option (ℕ × Entry)) → ((ballot : ℕ) (entry : Entry) → item ≡ items.Accepted slot ballot entry → ⊥)
      → IsLast slot stored last → IsLast slot (stored ++ item ∷ []) last
  last_still item None no_vote is = λ ballot entry c. elim (Contains-push_cases stored item (items.Accepted slot ballot entry) c) [
    | inl old ↦ is ballot entry old
    | inr same ↦ no_vote ballot entry same
  ]
  last_still item (Some last) no_vote is = (
    still_there stored item (items.Accepted slot last.0 last.1) is.0,
    λ ballot entry c. elim (Contains-push_cases stored item (items.Accepted slot ballot entry) c) [
      | inl old ↦ is.1 ballot entry old
      | inr same ↦ absurd (no_vote ballot entry same)
    ],
  )

  pub apart_pushed : (item : Item) (own : AcceptorState Entry) → IsApart slot item → HasLast slot stored own → HasLast slot (stored ++ item ∷ []) own
  apart_pushed item own apart has = record {
    of_item = of_item_still item own.promised has.of_item;
    promised = λ ballot c. elim (Contains-push_cases stored item (items.Promised slot ballot) c) [
      | inl old ↦ has.promised ballot old
      | inr same ↦ absurd (apart.no_promise ballot same)
    ];
    accepted = λ ballot entry c. elim (Contains-push_cases stored item (items.Accepted slot ballot entry) c) [
      | inl old ↦ has.accepted ballot entry old
      | inr same ↦ absurd (apart.no_vote ballot entry same)
    ];
    last = last_still item own.accepted apart.no_vote has.last;
    rises = pushed_rises item own (λ later ballot now reached. elim now [
      | inl c ↦ absurd (apart.no_promise later (one_of item (items.Promised slot later) c))
      | inr c ↦ absurd (apart.no_vote later c.0 (one_of item (items.Accepted slot later c.0) c.1))
    ]) has;
  }

  -- of a ballot that the promise doesn't pass
  pub promise_pushed : (own : AcceptorState Entry) (ballot : ℕ) → greater_promise own.promised ballot ≡ None → HasLast slot stored own
      → HasLast slot (stored ++ items.Promised slot ballot ∷ []) (with_promise ballot own)
  promise_pushed own ballot free has =
      let item : Item = items.Promised slot ballot in
      let below = Reaches_bound own.promised ballot in
      let passes = not_passed own.promised ballot free in
      record {
        of_item = inl (there_now stored item);
        promised = λ other c. elim (Contains-push_cases stored item (items.Promised slot other) c) [
          | inl old ↦ below other passes (has.promised other old)
          | inr same ↦ let equal : ballot ≡ other = cc in omega (arith, equal)
        ];
        accepted = λ other entry c. elim (Contains-push_cases stored item (items.Accepted slot other entry) c) [
          | inl old ↦ below other passes (has.accepted other entry old)
          | inr same ↦ absurd (cc)
        ];
        last = last_still item own.accepted (λ other entry same. cc) has.last;
        rises = pushed_rises item own (λ later other now reached. elim now [
          | inl c ↦
              let same = one_of item (items.Promised slot later) c in
              let equal : ballot ≡ later = cc in
              omega (arith, equal, below other passes reached)
          | inr c ↦ let same = one_of item (items.Accepted slot later c.0) c.1 in absurd (cc)
        ]) has;
      }

  pub vote_pushed : (own : AcceptorState Entry) (ballot : ℕ) (entry : Entry) → greater_promise own.promised ballot ≡ None → HasLast slot stored own
      → HasLast slot (stored ++ items.Accepted slot ballot entry ∷ []) (with_vote ballot entry own)
  vote_pushed own ballot entry free has =
      let item : Item = items.Accepted slot ballot entry in
      let below = Reaches_bound own.promised ballot in
      let passes = not_passed own.promised ballot free in
      let no_later : (other : ℕ) (w : Entry) → Contains (stored ++ item ∷ []) (items.Accepted slot other w) → other ≤ ballot =
      λ other w c. elim (Contains-push_cases stored item (items.Accepted slot other w) c) [
        | inl old ↦ below other passes (has.accepted other w old)
        | inr same ↦ let equal : ballot ≡ other = cc in omega (arith, equal)
      ] in
      record {
        of_item = inr (entry, there_now stored item);
        promised = λ other c. elim (Contains-push_cases stored item (items.Promised slot other) c) [
          | inl old ↦ below other passes (has.promised other old)
          | inr same ↦ absurd (cc)
        ];
        accepted = no_later;
        last = (there_now stored item, no_later);
        rises = pushed_rises item own (λ later other now reached. elim now [
          | inl c ↦ let same = one_of item (items.Promised slot later) c in absurd (cc)
          | inr c ↦
              let same = one_of item (items.Accepted slot later c.0) c.1 in
              let equal : ballot ≡ later = cc in
              omega (arith, equal, below other passes reached)
        ]) has;
      }

  -- of any slot
  pub promise_at : (own : AcceptorState Entry) (at ballot : ℕ) (test : Bool) → (at == slot) ≡ test → (at ≡ slot → greater_promise own.promised ballot ≡ None)
      → HasLast slot stored own → HasLast slot (stored ++ items.Promised at ballot ∷ []) (if test then with_promise ballot own else own)
  promise_at own at ballot true e free has =
      let here = eqb-true at slot e in
      subst (λ (s : ℕ). HasLast slot (stored ++ items.Promised s ballot ∷ []) (with_promise ballot own)) (sym here) (promise_pushed own ballot (free here) has)
  promise_at own at ballot false e free has =
      apart_pushed (items.Promised at ballot) own
      (record {
        no_promise = λ other same. let here : at ≡ slot = cc in eqb-false at slot e here;
        no_vote = λ other entry same. cc;
      })
      has

  pub vote_at : (own : AcceptorState Entry) (at ballot : ℕ) (entry : Entry) (test : Bool) → (at == slot) ≡ test
      → (at ≡ slot → greater_promise own.promised ballot ≡ None)
      → HasLast slot stored own → HasLast slot (stored ++ items.Accepted at ballot entry ∷ []) (if test then with_vote ballot entry own else own)
  vote_at own at ballot entry true e free has =
      let here = eqb-true at slot e in
      subst (λ (s : ℕ). HasLast slot (stored ++ items.Accepted s ballot entry ∷ []) (with_vote ballot entry own)) (sym here)
      (vote_pushed own ballot entry (free here) has)
  vote_at own at ballot entry false e free has =
      apart_pushed (items.Accepted at ballot entry) own
      (record {
        no_promise = λ other same. cc;
        no_vote = λ other v same. let here : at ≡ slot = cc in eqb-false at slot e here;
      })
      has
