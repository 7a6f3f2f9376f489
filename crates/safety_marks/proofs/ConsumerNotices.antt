-- A consumer's step shows the notice of the removal that it learns before all other marks.
use Rattle.std.proofs.Common.{◌≡◌, ℕ, ◌==◌, nat_lt, List, [], ◌∷◌, ◌++◌, Option, Some, None, refl, sym, subst}
use Rattle.std.specs.List.{cons_option}
use Rattle.cut_core.specs.declared.effects.Effect.{Effect}
use Rattle.cut_core.specs.declared.effects.Effect.TheVariants.{Removed}
use Rattle.cut_core.specs.Agreements.{Agreement}
use Rattle.cut_core.specs.Effects.{effect_of}
use Rattle.node_rules.specs.Names.{NodeId, Entry, Mark, Event}
use Rattle.node_rules.specs.Names.marks
use Rattle.node_rules.specs.Names.whats
use Rattle.node_rules.specs.Nodes.{Node, has_slot}
use Rattle.node_rules.specs.Turns.{Turn, started, agreed, count_known, send, show}
use Rattle.node_rules.specs.Rules.{learned, learn, learn_next, with_seen, ask, decided}
use Rattle.node_rules.proofs.Lists.{on_test}
use Rattle.node_rules.proofs.Places.{IsTold, unsent_sites}
use Rattle.consumer_node.specs.Apps.{Meaning}
use Rattle.consumer_node.specs.States.{ConsumerState, applied_of, applied}
use Rattle.consumer_node.specs.Rules.{cut_to, undo, notice, on_learned}
use Rattle.consumer_node.specs.Steps.{consumer_step}
use Rattle.consumer_node.proofs.Places.{Shows as ShowsAt, noticed, undone, applied_next, confirmed, written}
use Rattle.consumer_node.proofs.Walk.{consumer_walk}
use Rattle.safety_marks.specs.Removals.{first_in}
use Rattle.safety_marks.proofs.Notices.{Shows, shows_more, Notices, HasNoticed}
use Rattle.safety_marks.proofs.ConsumerTurns.{KeepsOthers, finished, on_turns}

module _ {A : Type 0} (app : Meaning A) where
  -- ---- a learned entry

  -- what a turn shows, and what its node knows
  abbrev Leaves : List ℕ → List Entry → Turn (ConsumerState A) → Type 0
  Leaves firsts known t = (t.state.base.known ≡ known) × Shows firsts t.marks

  undone_so : (firsts : List ℕ) (known : List Entry) (first : ℕ) (t : Turn (ConsumerState A)) → Leaves firsts known t → Leaves firsts known (undo first t)
  undone_so firsts known first t w =
      on_test (Leaves firsts known) (nat_lt first (applied t)) (show (marks.Undo first) (cut_to first t)) t
      (λ _. (w.0, shows_more firsts t.marks (marks.Undo first) refl w.1)) (λ _. w)

  module _ (t : Turn (ConsumerState A)) (empty : t.marks ≡ []) where
    by_effect : (effect : Effect) → Leaves (cons_option (first_in effect) []) t.state.base.known (notice effect t)
    by_effect (Removed shard first) =
        undone_so (first ∷ []) t.state.base.known first (show (marks.Notice first) t)
        (refl, subst (λ (shown : List Mark). Shows (first ∷ []) (shown ++ marks.Notice first ∷ [])) (sym empty) (tt, refl))
    by_effect _ = (refl, subst (Shows []) (sym empty) (tt, refl))

    after_learned : (before : Agreement) (entry : Entry)
        → Leaves (cons_option (first_in (effect_of before entry)) []) t.state.base.known (on_learned before entry t)
    after_learned before entry = by_effect (effect_of before entry)

  -- ---- a step

  module _ (n : Node (ConsumerState A)) where
    after_ask : (to : NodeId) (t : Turn (ConsumerState A)) → HasNoticed n t → HasNoticed n (ask to t)
    after_ask to t w = on_test (HasNoticed n) (has_slot t.state.base) (send to (whats.Learn (count_known t)) t) t (λ _. w) (λ _. w)

    -- in which an entry is told
    after_decided : (from : NodeId) (slot count : ℕ) (entry : Entry) → HasNoticed n (decided on_learned from slot count entry (started n))
    after_decided from slot count entry =
        let u : Turn (ConsumerState A) = with_seen count (started n) in
        let next : Turn (ConsumerState A) = learn_next on_learned slot entry u in
        let told : HasNoticed n next =
        on_test (HasNoticed n) (slot == count_known u) (learn on_learned entry u) u
        (λ _. (Some entry, after_learned (learned entry u) refl (agreed u) entry)) (λ _. (None, (refl, (tt, refl)))) in
        on_test (HasNoticed n) (nat_lt (count_known next) next.state.base.seen) (ask from next) next (λ _. after_ask from next told) (λ _. told)

    others_kept : (learned : Option Entry) → KeepsOthers (Notices n learned)
    others_kept learned = record {
      puts = λ t own w. w;
      stores = λ t item w. w;
      shows = λ t mark none w. (w.0, shows_more _ t.marks mark none w.1);
    }

    -- and any other
    module _ (event : Event) (none : (s : Node (ConsumerState A)) (entry : Entry) → IsTold n event s entry → ⊥) where
      shown_untold : (s : Node (ConsumerState A)) (shown : List Mark) (mark : Mark) → ShowsAt app n event s mark → Shows [] shown
          → Shows [] (shown ++ mark ∷ [])
      shown_untold s shown _ (noticed shard first why) is = absurd (none why.learned.old why.entry why.learned.learns)
      shown_untold s shown _ (undone shard first why past) is = shows_more [] shown (marks.Undo first) refl is
      shown_untold s shown _ (applied_next rec held) is = shows_more [] shown (marks.Apply (applied_of s.own) rec) refl is
      shown_untold s shown _ (confirmed rec o why) is = shows_more [] shown (marks.Confirm s.own.confirmed rec) refl is
      shown_untold s shown _ (written output some why) is = shows_more [] shown (marks.Out output) refl is

      step_untold : Notices n None (consumer_step app n event)
      step_untold =
          consumer_walk app _ n event
          (unsent_sites (Notices n None)
          (record {
            starts = (refl, (tt, refl));
            restarts = λ e. (refl, (tt, refl));
            learns = λ t entry why w. absurd (none t.state entry why);
            shows = λ t mark why w. (w.0, shown_untold t.state t.marks mark why w.1);
            stores = λ t item own why w. w;
            changes = λ t own why w. w;
          }))

  pub consumer_notices : (n : Node (ConsumerState A)) (event : Event) → HasNoticed n (consumer_step app n event)
  consumer_notices n event =
      on_turns app n event (HasNoticed n)
      (record {
        starts = (None, (refl, (tt, refl)));
        decides = λ from slot count entry comes. after_decided n from slot count entry;
        ending = λ t w. (w.0, finished app (Notices n w.0) (others_kept n w.0) t w.1);
        others = λ none. (None, step_untold n event none);
      })
