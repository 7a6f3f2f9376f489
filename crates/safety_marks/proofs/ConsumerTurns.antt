-- A consumer's turn by whether an entry is told, and what the end of its step keeps.
use Rattle.std.proofs.Common.{ℕ, ◌==◌, List, [], ◌∷◌, ◌++◌, length, refl}
use Rattle.fix_ante.specs.declared.spots.Owner.{Owner}
use Rattle.cut_core.specs.Map.{located}
use Rattle.node_rules.specs.Names.{Record, Item, Mark, Event}
use Rattle.node_rules.specs.Names.items
use Rattle.node_rules.specs.Names.marks
use Rattle.node_rules.specs.Names.events
use Rattle.node_rules.specs.Nodes.{Node}
use Rattle.node_rules.specs.Turns.{Turn, own_of, agreed, put_own, store, show}
use Rattle.node_rules.proofs.Lists.{on_test, on_option, on_fold}
use Rattle.consumer_node.specs.Apps.{Meaning}
use Rattle.consumer_node.specs.States.{ConsumerState, applied, with_pending}
use Rattle.consumer_node.specs.Rules.{on_learned}
use Rattle.consumer_node.specs.Speculation.{to_apply, apply, apply_all, to_confirm, with_confirmed, show_output, confirm_at, confirm, finish}
use Rattle.consumer_node.specs.Steps.{hear, consumer_step}
use Rattle.safety_marks.proofs.Told.{untold, OnTold, delivered}
use Rattle.safety_marks.proofs.Notices.{IsNone}

-- ---- the end of a step

-- what stays as the own part changes, an item is stored, or a mark is shown that is no notice
pub record KeepsOthers {A : Type 0} (W : Turn (ConsumerState A) → Type 0) : Type 0 where
  pub puts : (t : Turn (ConsumerState A)) (own : ConsumerState A) → W t → W (put_own own t)
  pub stores : (t : Turn (ConsumerState A)) (item : Item) → W t → W (store item t)
  pub shows : (t : Turn (ConsumerState A)) (mark : Mark) → IsNone mark → W t → W (show mark t)

module _ {A : Type 0} (app : Meaning A) where
  module _ (W : Turn (ConsumerState A) → Type 0) (keeps : KeepsOthers W) where
    one_applied : (t : Turn (ConsumerState A)) (rec : Record) → W t → W (apply t rec)
    one_applied t rec w =
        let next : Turn (ConsumerState A) = show (marks.Apply (applied t) rec) t in
        keeps.puts next (with_pending ((own_of t).pending ++ rec ∷ []) (own_of t)) (keeps.shows t (marks.Apply (applied t) rec) refl w)

    output_shown : (output : List ℕ) (t : Turn (ConsumerState A)) → W t → W (show_output output t)
    output_shown output t w = on_test W (length output == 0) t (show (marks.Out output) t) (λ _. w) (λ _. keeps.shows t (marks.Out output) refl w)

    confirmed_at : (rec : Record) (o : Owner) (t : Turn (ConsumerState A)) → W t → W (confirm_at app rec o t)
    confirmed_at rec o t w =
        let output : List ℕ = app.output (own_of t).base rec in
        let kept : Turn (ConsumerState A) = store (items.Confirmed rec output) t in
        let next : Turn (ConsumerState A) = show (marks.Confirm (own_of t).confirmed rec) kept in
        let shown : W next = keeps.shows kept (marks.Confirm (own_of t).confirmed rec) refl (keeps.stores t (items.Confirmed rec output) w) in
        keeps.puts (show_output output next) (with_confirmed app rec o (own_of t)) (output_shown output next shown)

    one_confirmed : (t : Turn (ConsumerState A)) (rec : Record) → W t → W (confirm app t rec)
    one_confirmed t rec w = on_option W (λ o. confirm_at app rec o t) (located (agreed t) (own_of t).confirmed) t (λ o _. confirmed_at rec o t w) w

    pub finished : (t : Turn (ConsumerState A)) → W t → W (finish app t)
    finished t w =
        let all : W (apply_all t) = on_fold W apply (to_apply t) t (λ u i rec _ so_far. one_applied u rec so_far) w in
        on_fold W (confirm app) (to_confirm (apply_all t)) (apply_all t) (λ u i rec _ so_far. one_confirmed u rec so_far) all

  -- ---- a step in which an entry is told, and any other

  pub on_turns : (n : Node (ConsumerState A)) (event : Event) (W : Turn (ConsumerState A) → Type 0)
      → OnTold n event on_learned (finish app) (consumer_step app n event) W → W (consumer_step app n event)
  on_turns n (events.Deliver m) W on =
      delivered n (events.Deliver m) on_learned hear (finish app) (consumer_step app n (events.Deliver m)) W on (λ from slot count entry. refl) m refl refl
  on_turns n events.Tick W on = on.others (untold n events.Tick refl)
  on_turns n events.Restart W on = on.others (untold n events.Restart refl)
  on_turns n (events.Submit by body) W on = on.others (untold n (events.Submit by body) refl)
  on_turns n (events.Command command) W on = on.others (untold n (events.Command command) refl)
