-- What a step may show of removals: the notice of the one that it learns, before all other marks.
use Rattle.std.proofs.Common.{◌≡◌, ◌∙◌, ℕ, List, [], ◌∷◌, ◌++◌, Option, Some, None, append-nil, refl, sym, ap, subst}
use Rattle.std.specs.List.{AllByRecursion, cons_option}
use Rattle.std.proofs.lemmas.List.Elements.{filter_map-append}
use Rattle.cut_core.specs.Agreements.{Agreement}
use Rattle.cut_core.specs.Effects.{effect_of}
use Rattle.cut_core.specs.Fold.{applied_all}
use Rattle.node_rules.specs.Nodes.{Node, agreed_by}
use Rattle.node_rules.specs.Turns.{Turn}
use Rattle.node_rules.proofs.Lists.{all_push}
use Rattle.runs.specs.Names.{Entry, Mark}
use Rattle.runs.specs.Marks.{IsPrefix, notice_in, notices}
use Rattle.safety_frame.proofs.Lists.{all_back}
use Rattle.safety_marks.specs.Removals.{first_in, firsts_from}
use Rattle.safety_marks.proofs.Firsts.{firsts_more}

-- ---- marks of which the first alone may be a notice

abbrev pub IsNone : Mark → Type 0
IsNone mark = notice_in mark ≡ None

abbrev pub OnlyFirst : List Mark → Type 0
OnlyFirst [] = Unit {0}
OnlyFirst (mark ∷ later) = AllByRecursion IsNone later

-- and all their notices are these
abbrev pub Shows : List ℕ → List Mark → Type 0
Shows firsts shown = OnlyFirst shown × (notices shown ≡ firsts)

only_first_more : (shown : List Mark) (mark : Mark) → IsNone mark → OnlyFirst shown → OnlyFirst (shown ++ mark ∷ [])
only_first_more [] mark none is = tt
only_first_more (first ∷ shown) mark none is = all_push IsNone shown mark is none

-- another mark follows
pub shows_more : (firsts : List ℕ) (shown : List Mark) (mark : Mark) → IsNone mark → Shows firsts shown → Shows firsts (shown ++ mark ∷ [])
shows_more firsts shown mark none is = (
  only_first_more shown mark none is.0,
  filter_map-append notice_in shown (mark ∷ []) ∙ (ap (λ (o : Option ℕ). notices shown ++ cons_option o []) none ∙ (append-nil (notices shown) ∙ is.1)),
)

none_noticed : (shown : List Mark) → AllByRecursion IsNone shown → notices shown ≡ []
none_noticed [] none = refl
none_noticed (mark ∷ shown) none = ap (λ (o : Option ℕ). cons_option o (notices shown)) none.0 ∙ none_noticed shown none.1

-- some of them that begin the others have all notices
after_some : (front : List Mark) (mark : Mark) (rest : List Mark) → OnlyFirst ((front ++ mark ∷ []) ++ rest) → AllByRecursion IsNone rest
after_some [] mark rest is = is
after_some (first ∷ front) mark rest is = all_back IsNone (front ++ mark ∷ []) rest is

pub some_have_all : (firsts : List ℕ) (shown front : List Mark) (mark : Mark) → IsPrefix (front ++ mark ∷ []) shown → Shows firsts shown
    → notices (front ++ mark ∷ []) ≡ firsts
some_have_all firsts shown front mark p is =
    let begun : List Mark = front ++ mark ∷ [] in
    let rest = none_noticed p.0 (after_some front mark p.0 (subst OnlyFirst p.1 is.0)) in
    let whole : notices shown ≡ notices begun =
    ap notices p.1 ∙ (filter_map-append notice_in begun p.0 ∙ (ap (λ (l : List ℕ). notices begun ++ l) rest ∙ append-nil (notices begun))) in
    sym whole ∙ is.1

-- ---- what a step learns and shows

-- with an entry, or with none
abbrev pub known_with : List Entry → Option Entry → List Entry
known_with known None = known
known_with known (Some entry) = known ++ entry ∷ []

abbrev pub firsts_with : Agreement → Option Entry → List ℕ
firsts_with a None = []
firsts_with a (Some entry) = cons_option (first_in (effect_of a entry)) []

pub firsts_known : (a : Agreement) (known : List Entry) (learned : Option Entry)
    → firsts_from a (known_with known learned) ≡ firsts_from a known ++ firsts_with (applied_all a known) learned
firsts_known a known None = sym (append-nil (firsts_from a known))
firsts_known a known (Some entry) = firsts_more a known (entry ∷ [])

module _ {S : Type 0} (n : Node S) where
  abbrev pub Notices : Option Entry → Turn S → Type 0
  Notices learned t = (t.state.base.known ≡ known_with n.base.known learned) × Shows (firsts_with (agreed_by n.base) learned) t.marks

  abbrev pub HasNoticed : Turn S → Type 0
  HasNoticed t = (learned : Option Entry) × Notices learned t
