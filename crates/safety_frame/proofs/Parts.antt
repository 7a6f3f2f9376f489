-- A part of a node's state that its items give: where each place of a kind changes it as the item stored there does, it is so in every run.
use Rattle.std.proofs.Common.{◌≡◌, ◌∙◌, ℕ, List, [], ◌∷◌, ◌++◌, ◌+◌, length, append_assoc, append-nil, refl, sym, ap, arith}
use Rattle.std.specs.List.{fold}
use Rattle.std.proofs.lemmas.List.{length-append}
use Rattle.std.proofs.lemmas.List.Sums.{fold-append}
use Rattle.msg_wire.specs.Valid.{IsValidConfig}
use Rattle.net_model.specs.Pasts.{Past}
use Rattle.node_rules.specs.Names.{Entry, Item, Event}
use Rattle.node_rules.specs.Names.items
use Rattle.node_rules.specs.Nodes.{Node, seeing, ticking, with_own}
use Rattle.node_rules.proofs.Telling.{with_base, with_entry}
use Rattle.runs.specs.Names.{Config}
use Rattle.runs.specs.Runs.{IsPastOf}
use Rattle.runs.proofs.SameNodes.{node_itself}
use Rattle.safety_frame.proofs.NodeKinds.{Kind, after, stored}
use Rattle.safety_frame.proofs.Pasts.{own_items, other_items}
use Rattle.safety_frame.proofs.Inductions.{OfStates, every_state}

module _ {S A : Type 0} (k : Kind S) (part : Node S → A) (take : A → Item → A) where
  pub record IsByItems : Type 0 where
    pub learns : (s : Node S) (entry : Entry) → part (with_entry k.learns entry s) ≡ take (part s) (items.Known entry)
    pub sees : (s : Node S) (count : ℕ) → part (with_base (seeing count s.base) s) ≡ part s
    pub ticks : (s : Node S) → part (with_base (ticking s.base) s) ≡ part s
    pub stores : (n : Node S) (event : Event) (s : Node S) (item : Item) (own : S) → k.places.Stores n event s item own
        → part (with_own own s) ≡ take (part s) item
    pub changes : (n : Node S) (event : Event) (s : Node S) (own : S) → k.places.Changes n event s own → part (with_own own s) ≡ part s
    pub resets : (n : Node S) → part (k.places.reset n) ≡ part n

  module _ (is : IsByItems) where
    -- one item more
    taken_on : (a : A) (stable : List Item) (now later : A) (item : Item) → now ≡ fold take a stable → later ≡ take now item
        → later ≡ fold take a (stable ++ item ∷ [])
    taken_on a stable now later item w e = e ∙ (ap (λ x. take x item) w ∙ sym (fold-append take a stable (item ∷ [])))

    step_part : (n : Node S) (event : Event) → part (k.step n event).state ≡ fold take (part n) (k.step n event).stable
    step_part n event =
        k.walk (λ t. part t.state ≡ fold take (part n) t.stable) n event
        (record {
          starts = refl;
          restarts = λ e. is.resets n;
          learns = λ t entry why w. taken_on (part n) t.stable (part t.state) _ (items.Known entry) w (is.learns t.state entry);
          sees = λ t from slot count entry why w. is.sees t.state count ∙ w;
          ticks = λ t why w. is.ticks t.state ∙ w;
          asks = λ t to why w. w;
          says = λ t to what why w. w;
          shows = λ t mark why w. w;
          stores = λ t item own why w. taken_on (part n) t.stable (part t.state) _ item w (is.stores n event t.state item own why);
          changes = λ t own why w. is.changes n event t.state own why ∙ w;
        })

    pub run_part : (cfg : Config) (valid : IsValidConfig cfg) (past : Past) → IsPastOf cfg past
        → OfStates k cfg valid (λ past node n. part n ≡ fold take (part (k.fresh cfg node)) (stored k cfg node past)) past
    run_part cfg valid =
        every_state k cfg valid (λ past node n. part n ≡ fold take (part (k.fresh cfg node)) (stored k cfg node past))
        (record {
          starts = λ node one here. refl;
          steps = λ e past run one before.
              let start = part (k.fresh cfg e.node) in
              let was = before e.node one run.0.within in
              let n = after k cfg e.node past in
              step_part n e.event
              ∙ (ap (λ a. fold take a (k.step n e.event).stable) was
              ∙ (sym (fold-append take start (stored k cfg e.node past) (k.step n e.event).stable)
              ∙ ap (fold take start) (sym (own_items k cfg e.node e past (node_itself e.node)))));
          stays = λ e past node n run other was. was ∙ ap (fold take (part (k.fresh cfg node))) (sym (other_items k cfg node e past other));
        })

-- ---- parts that are lists, to which each item adds what is read off it

abbrev pub adds : {X : Type 0} → (List Item → List X) → List X → Item → List X
adds read xs item = xs ++ read (item ∷ [])

abbrev pub counts : {X : Type 0} → (List Item → List X) → ℕ → Item → ℕ
counts read count item = count + length (read (item ∷ []))

module _ {X : Type 0} (read : List Item → List X) (splits : (xs ys : List Item) → read (xs ++ ys) ≡ read xs ++ read ys) (none : read [] ≡ []) where
  pub adds_all : (xs : List X) (stable : List Item) → fold (adds read) xs stable ≡ xs ++ read stable
  adds_all xs [] = sym (ap (λ l. xs ++ l) none ∙ append-nil xs)
  adds_all xs (item ∷ stable) =
      adds_all (adds read xs item) stable ∙ (append_assoc xs (read (item ∷ [])) (read stable) ∙ ap (λ l. xs ++ l) (sym (splits (item ∷ []) stable)))

  pub counts_all : (count : ℕ) (stable : List Item) → fold (counts read) count stable ≡ count + length (read stable)
  counts_all count [] = omega (arith, ap length none)
  counts_all count (item ∷ stable) =
      omega (arith, counts_all (counts read count item) stable, ap length (splits (item ∷ []) stable), length-append (read (item ∷ [])) (read stable))
