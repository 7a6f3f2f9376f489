-- An Undo of a step that is no restart stands right after the Notice of the same position.
use Rattle.std.proofs.Common.{◌≡◌, ℕ, List, [], ◌∷◌, ◌++◌, Option, Some, None}
use Rattle.std.specs.List.{fold}
use Rattle.std.proofs.lemmas.List.Sums.{fold-append}
use Rattle.consumer_node.specs.inside.Names.{Event, Mark, Node, Turn, own_of, Meaning, consumer_step}
use Rattle.node_rules.specs.Names.events
use Rattle.node_rules.specs.Names.marks
use Rattle.consumer_node.specs.States.{ConsumerState, applied}
use Rattle.consumer_node.proofs.Places.{Stage, removal_shown, StagedSites, Unsent, unsent_stages}
use Rattle.consumer_node.proofs.Walk.{staged_walk}

abbrev next : Option ℕ → Mark → Option ℕ
next last (marks.Notice first) = Some first
next last _ = None

abbrev Fits : Option ℕ → Mark → Type 0
Fits last (marks.Undo first) = last ≡ Some first
Fits last _ = Unit {0}

abbrev Paired : Option ℕ → List Mark → Type 0
Paired last [] = Unit {0}
Paired last (m ∷ more) = Fits last m × Paired (next last m) more

push : (last : Option ℕ) (ms : List Mark) (m : Mark) → Paired last ms → Fits (fold next last ms) m → Paired last (ms ++ m ∷ [])
push last [] m is fits = (fits, tt)
push last (x ∷ ms) m is fits = (is.0, push (next last x) ms m is.1 fits)

abbrev AtStage : Stage → Option ℕ → Type 0
AtStage (removal_shown first) last = last ≡ Some first
AtStage _ last = Unit {0}

module _ {A : Type 0} (app : Meaning A) (n : Node (ConsumerState A)) (event : Event) (other : event ≡ events.Restart → ⊥) where
  abbrev W : Stage → Turn (ConsumerState A) → Type 0
  W stage t = Paired None t.marks × AtStage stage (fold next None t.marks)

  sites : StagedSites app (Unsent W) n event
  sites =
      unsent_stages app W n event
      (record {
        holds = λ t from local rec comes w. w;
        learns = λ t entry told w. (w.0, tt);
        notices = λ t shard first w. (push None t.marks (marks.Notice first) w.0 tt, fold-append next None t.marks (marks.Notice first ∷ []));
        undoes = λ t first past w. (push None t.marks (marks.Undo first) w.0 w.1, tt);
        undoes_none = λ t first none w. (w.0, tt);
        moves_none = λ t effect stays w. (w.0, tt);
        closes = λ t w. (w.0, tt);
        applies = λ t rec held w. (push None t.marks (marks.Apply (applied t) rec) w.0 tt, tt);
        leaves_none = λ t none w. (w.0, tt);
        confirms = λ t rec o why w. (push None t.marks (marks.Confirm (own_of t).confirmed rec) w.0 tt, tt);
        gives = λ t output some w. (push None t.marks (marks.Out output) w.0 tt, tt);
        gives_none = λ t output none w. (w.0, tt);
        restarts = λ same w. absurd (other same);
      })

  pub undos_have_notices : Paired None (consumer_step app n event).marks
  undos_have_notices = (staged_walk app (Unsent W) n event sites (tt, tt)).0
