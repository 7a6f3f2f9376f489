-- A step of a consumer keeps what its marks and items tell of what it has.
use Rattle.std.proofs.Common.{◌≡◌, ℕ, ◌≤◌, List, [], ◌∷◌, ◌++◌, slice_get, Some, append_assoc, append-nil, refl, sym, subst, arith}
use Rattle.fix_ante.specs.declared.spots.Owner.{Owner}
use Rattle.cut_core.specs.declared.effects.Effect.TheVariants.{Removed}
use Rattle.msg_wire.specs.Valid.{IsValidEvent}
use Rattle.app_law.specs.declared.any_app.AnyApp.{AnyApp}
use Rattle.app_law.specs.AnyApps.{any_output}
use Rattle.node_rules.specs.Names.{AppKind, Record, Item, Mark, Event}
use Rattle.node_rules.specs.Names.items
use Rattle.node_rules.specs.Names.marks
use Rattle.node_rules.specs.Turns.{Turn, started, own_of, agreed}
use Rattle.consumer_node.specs.Apps.{any_meaning}
use Rattle.consumer_node.specs.States.{ConsumerState, applied}
use Rattle.consumer_node.specs.Rules.{cut_to}
use Rattle.consumer_node.specs.Speculation.{apply, with_confirmed}
use Rattle.consumer_node.specs.Restart.{reset_own}
use Rattle.consumer_node.specs.Sound.{IsConsumer}
use Rattle.consumer_node.specs.Steps.{consumer_step}
use Rattle.consumer_node.proofs.Owners.{agreement_by}
use Rattle.consumer_node.proofs.Reached.{reached_none}
use Rattle.consumer_node.proofs.Places.{Stage, between_rules, entry_known, removal_shown, output_due, StagedSites}
use Rattle.consumer_node.proofs.Turns.{Keeps, kept_sites}
use Rattle.consumer_node.proofs.Walk.{staged_walk}
use Rattle.safety_consumers.proofs.EachConsumer.{Consumer}
use Rattle.safety_consumers.proofs.Removals.{first_uncovered}
use Rattle.safety_consumers.proofs.Telling.{Tells, of_lists, tells_known, tells_notice, tells_undo, tells_reset, tells_apply, tells_out, tells_confirm}
use Rattle.safety_consumers.proofs.Stages.{Both, both_sites}

-- the output that is still to go out at a stage
abbrev pub due_at : Stage → List ℕ
due_at (output_due output) = output
due_at _ = []

-- a removal that is known moves no confirmed position
abbrev pub LeavesConfirmed : Stage → ℕ → Type 0
LeavesConfirmed (entry_known effect) confirmed = (shard first : ℕ) → effect ≡ Removed shard first → confirmed ≤ first
LeavesConfirmed (removal_shown first) confirmed = confirmed ≤ first
LeavesConfirmed _ confirmed = Unit {0}

-- what a consumer is between and inside its rules, by its own crate
pub kept_start : (n : Consumer) → IsConsumer n → Keeps any_meaning n between_rules (started n)
kept_start n is = record {
  base = is.base;
  own = is.own;
  given = record { leads = refl; reached = reached_none any_meaning n.own.base; stable = λ outputs. tt; sends = tt };
}

module _ (kind : AppKind) (shown : List Mark) (stored : List Item) (n : Consumer) (event : Event) (valid : IsValidEvent event) where
  abbrev pub TellsIn : List Mark → List Item → List ℕ → ConsumerState AnyApp → Type 0
  TellsIn more kept due s = Tells kind (shown ++ more) (stored ++ kept) due s.confirmed s.base s.pending

  abbrev pub TellsAt : Stage → Turn (ConsumerState AnyApp) → Type 0
  TellsAt stage t = TellsIn t.marks t.stable (due_at stage) (own_of t) × LeavesConfirmed stage (own_of t).confirmed

  abbrev pub Telling : Stage → Turn (ConsumerState AnyApp) → Type 0
  Telling = Both any_meaning (Keeps any_meaning n) TellsAt n event

  -- one mark more, and one item more
  mark_more : (before : List Mark) (mark : Mark) (kept : List Item) (due : List ℕ) (s : ConsumerState AnyApp)
      → Tells kind ((shown ++ before) ++ mark ∷ []) kept due s.confirmed s.base s.pending
      → Tells kind (shown ++ (before ++ mark ∷ [])) kept due s.confirmed s.base s.pending
  mark_more before mark kept due s is = subst (λ l. Tells kind l kept due s.confirmed s.base s.pending) (append_assoc shown before (mark ∷ [])) is

  item_more : (all : List Mark) (kept : List Item) (item : Item) (due : List ℕ) (s : ConsumerState AnyApp)
      → Tells kind all ((stored ++ kept) ++ item ∷ []) due s.confirmed s.base s.pending
      → Tells kind all (stored ++ (kept ++ item ∷ [])) due s.confirmed s.base s.pending
  item_more all kept item due s is = subst (λ l. Tells kind all l due s.confirmed s.base s.pending) (append_assoc stored kept (item ∷ [])) is

  confirmed_one : (t : Turn (ConsumerState AnyApp)) (rec : Record) (o : Owner) → slice_get (own_of t).pending 0 ≡ Some rec
      → TellsIn t.marks t.stable [] (own_of t)
      → TellsIn (t.marks ++ marks.Confirm (own_of t).confirmed rec ∷ []) (t.stable ++ items.Confirmed rec (any_output (own_of t).base rec) ∷ [])
      (any_output (own_of t).base rec) (with_confirmed any_meaning rec o (own_of t))
  confirmed_one t rec o oldest is =
      let output = any_output (own_of t).base rec in
      let item : Item = items.Confirmed rec output in
      let mark : Mark = marks.Confirm (own_of t).confirmed rec in
      let after = with_confirmed any_meaning rec o (own_of t) in
      mark_more t.marks mark (stored ++ (t.stable ++ item ∷ [])) output after
      (item_more ((shown ++ t.marks) ++ mark ∷ []) t.stable item output after (tells_confirm rec oldest is))

  pub telling_sites : StagedSites any_meaning Telling n event
  telling_sites =
      both_sites any_meaning (Keeps any_meaning n) TellsAt n event (kept_sites any_meaning n event valid)
      (record {
        holds = λ t from local rec comes w. w.1;
        learns = λ t entry told w. (
          item_more (shown ++ t.marks) t.stable (items.Known entry) [] (own_of t) (tells_known w.1.0 entry),
          λ shard first e.
              let room = first_uncovered (agreed t) entry shard first (agreement_by t.state.base w.0.base).sound e in
              omega (arith, room, w.0.own.confirmed),
        );
        notices = λ t shard first w.
            (mark_more t.marks (marks.Notice first) (stored ++ t.stable) [] (own_of t) (tells_notice first w.1.0), w.1.1 shard first refl);
        undoes = λ t first past w.
            (mark_more t.marks (marks.Undo first) (stored ++ t.stable) [] (own_of (cut_to first t)) (tells_undo first w.1.1 w.1.0), tt);
        undoes_none = λ t first none w. (w.1.0, tt);
        moves_none = λ t effect stays w. (w.1.0, tt);
        closes = λ t w. w.1;
        applies = λ t rec held w. (mark_more t.marks (marks.Apply (applied t) rec) (stored ++ t.stable) [] (own_of (apply t rec)) (tells_apply rec w.1.0), tt);
        leaves_none = λ t none w. w.1;
        confirms = λ t rec o why w. (confirmed_one t rec o why.oldest w.1.0, tt);
        gives = λ t output some w. (mark_more t.marks (marks.Out output) (stored ++ t.stable) [] (own_of t) (tells_out output w.1.0), tt);
        gives_none = λ t output none w. (subst (λ due. TellsIn t.marks t.stable due (own_of t)) none w.1.0, tt);
        restarts = λ same w. (mark_more [] (marks.Undo n.own.confirmed) (stored ++ []) [] (reset_own n.own) (tells_reset w.1.0), tt);
      })

  pub telling_start : IsConsumer n → Tells kind shown stored [] n.own.confirmed n.own.base n.own.pending → Telling between_rules (started n)
  telling_start sound is = (
    kept_start n sound,
    (of_lists (sym (append-nil shown)) (sym (append-nil stored)) is, tt),
  )

  pub step_tells : IsConsumer n → Tells kind shown stored [] n.own.confirmed n.own.base n.own.pending
      → TellsIn (consumer_step any_meaning n event).marks (consumer_step any_meaning n event).stable [] (consumer_step any_meaning n event).state.own
  step_tells sound is = (staged_walk any_meaning Telling n event telling_sites (telling_start sound is)).1.0
