-- A whole step of a sequencer, as the machine of one slot follows it; and that the slot's entry, once it is known, is chosen by the votes.
use Rattle.std.proofs.Common.{◌≡◌, ◌∙◌, ℕ, List, [], ◌∷◌, ◌++◌, length, Some, inl, inr, refl, sym, ap, subst, append_assoc, append-nil}
use Rattle.std.specs.List.{slice_get}
use Rattle.majority.specs.Votes.{IsChosenByVotes}
use Rattle.majority.specs.Slot.{SlotState}
use Rattle.majority.proofs.Decided.{IsChosenAt_counted}
use Rattle.majority.proofs.Majorities.{most_from_test}
use Rattle.msg_wire.specs.Nodes.{number_of}
use Rattle.node_rules.specs.Names.{Event, Message}
use Rattle.node_rules.specs.Nodes.{Base, Node, with_own}
use Rattle.node_rules.proofs.Telling.{with_base, with_entry}
use Rattle.node_rules.specs.Turns.{Turn}
use Rattle.node_rules.specs.Rules.{with_seen, with_tick}
use Rattle.node_rules.proofs.Lists.{all_push, all_weaken}
use Rattle.node_rules.proofs.Places.{Comes, SitesAfter}
use Rattle.node_rules.proofs.Kept.{keeping_node}
use Rattle.seq_node.specs.States.{SequencerState}
use Rattle.seq_node.proofs.Orderly.{standing}
use Rattle.seq_node.proofs.Keeps.{IsOrderlyAs, sequencer_keeping, sequencer_keeps}
use Rattle.seq_node.proofs.Places.{Learns, told, chosen, over, sequencer_places}
use Rattle.runs.specs.Names.{NodeId, Config, Entry, Item, What}
use Rattle.runs.specs.Names.items
use Rattle.safety_frame.proofs.Names.{IsNamed}
use Rattle.safety_frame.proofs.NodeKinds.{sequencers}
use Rattle.safety_agreement.proofs.Mirrors.{attempt_at, at_slot, IsSaid, said_still, Mirrors, moves_none, moves_on}
use Rattle.safety_agreement.proofs.Machine.{stands_there}
use Rattle.safety_agreement.proofs.Changing.{Follows, nothing_follows, with_item}
use Rattle.safety_agreement.proofs.Storing.{stores_follow}
use Rattle.safety_agreement.proofs.Counting.{changes_follow, learns_follow, reset_follows}
use Rattle.safety_agreement.proofs.Saying.{says_follow}
use Rattle.safety_agreement.proofs.Midways.{Named, at_end, chosen_on, Given, Midway}

module _ (cfg : Config) (slot : ℕ) (me : NodeId) (start : SlotState Entry) (earlier : List Item) (n : Node SequencerState) (event : Event)
    (given : Given cfg slot me start earlier n event) where
  abbrev i : ℕ
  i = number_of me

  abbrev Mid : Turn SequencerState → Type 0
  Mid t = Midway cfg slot me start earlier t

  -- what comes was said, now too
  told_now : (t : Turn SequencerState) (w : Mid t) (from : NodeId) (what : What) → Comes n event from what → IsSaid slot w.state.sent from what
  told_now t w from what comes = said_still slot start.sent w.state.sent w.moves.sent from what (given.told from what comes)

  -- the machine goes on
  goes_on : (t : Turn SequencerState) (w : Mid t) (s : Node SequencerState) (stable : List Item)
      → Follows cfg.seqs slot i w.state s.own (earlier ++ stable) → IsNamed cfg me s → IsOrderlyAs Named s
      → ((entry : Entry) → slice_get s.base.known slot ≡ Some entry → IsChosenByVotes cfg.seqs w.state.votes entry)
      → Mid (record { state = s; stable = stable; sends = t.sends; marks = t.marks })
  goes_on t w s stable f named is known = record {
    state = f.next;
    sound = f.sound;
    moves = moves_on i start w.state f.next w.moves f.moves;
    mirrors = f.mirrors;
    said = all_weaken (λ (m : Message). IsSaid slot w.state.sent me m.what) (λ (m : Message). IsSaid slot f.next.sent me m.what) t.sends
        (λ m was. said_still slot w.state.sent f.next.sent f.moves.sent me m.what was) w.said;
    named = named;
    is = is;
    known = λ entry at. chosen_on cfg.seqs i w.state f.next entry f.moves (known entry at);
  }

  -- the node's own part stays, and the machine where it is
  stands_still : (t : Turn SequencerState) (w : Mid t) (base : Base) → IsOrderlyAs Named (with_base base t.state) → IsNamed cfg me (with_base base t.state)
      → ((entry : Entry) → slice_get base.known slot ≡ Some entry → IsChosenByVotes cfg.seqs w.state.votes entry)
      → Mid (record t { state = with_base base t.state })
  stands_still t w base is named known =
      goes_on t w (with_base base t.state) t.stable
      (nothing_follows cfg.seqs slot i w.state t.state.own (earlier ++ t.stable) given.within w.sound w.mirrors t.state.own refl refl) named is known

  -- one item more
  with_one : (t : Turn SequencerState) (state : SlotState Entry) (own : SequencerState) (item : Item)
      → Follows cfg.seqs slot i state own ((earlier ++ t.stable) ++ item ∷ []) → Follows cfg.seqs slot i state own (earlier ++ (t.stable ++ item ∷ []))
  with_one t state own item f = subst (Follows cfg.seqs slot i state own) (append_assoc earlier t.stable (item ∷ [])) f

  -- an entry that is learned is chosen
  learned_chosen : (t : Turn SequencerState) (w : Mid t) (entry : Entry) → Learns n event t.state entry → length t.state.base.known ≡ slot
      → IsChosenByVotes cfg.seqs w.state.votes entry
  learned_chosen t w entry (told is) here =
      chosen_on cfg.seqs i start w.state entry w.moves (given.decided is.from (length t.state.base.known) is.count entry is.comes here)
  learned_chosen t w entry (chosen a stands sending most) here =
      let slot_is = (standing t.state a w.is.0 stands).slot ∙ here in
      let stood = w.mirrors.attempt ∙ (ap (attempt_at slot) stands ∙ at_slot slot a slot_is) in
      let count = (stands_there cfg.seqs i w.state given.within w.sound a.attempt stood).count in (
        a.attempt.ballot,
        IsChosenAt_counted cfg.seqs i w.state a.attempt entry w.sound stood sending
            (most_from_test cfg.seqs a.attempt.n a.attempt.acceptances count most),
      )

  learns_mid : (t : Turn SequencerState) (w : Mid t) (entry : Entry) → Learns n event t.state entry → (more : Entry)
      → slice_get (t.state.base.known ++ entry ∷ []) slot ≡ Some more
      → IsChosenByVotes cfg.seqs w.state.votes more
  learns_mid t w entry why more at = elim (at_end t.state.base.known entry more slot at) [
    | inl before ↦ w.known more before
    | inr last ↦ subst (IsChosenByVotes cfg.seqs w.state.votes) last.1 (learned_chosen t w entry why last.0)
  ]

  keep : SitesAfter sequencer_places over (λ (t : Turn SequencerState). IsOrderlyAs Named t.state) n event
  keep = keeping_node sequencer_places (sequencer_keeping Named) n event (sequencer_keeps n event given.valid Named) given.valid given.is

  abbrev starts_mid : Mid (record { state = n; stable = []; sends = []; marks = [] })
  starts_mid = record {
    state = start;
    sound = given.sound;
    moves = moves_none i start;
    mirrors = subst (Mirrors slot i start n.own) (sym (append-nil earlier)) given.mirrors;
    said = tt;
    named = given.named;
    is = given.is;
    known = given.known;
  }

  pub step_mid : Mid (sequencers.step n event)
  step_mid =
      sequencers.walk Mid n event
      (record {
        starts = starts_mid;
        restarts = λ e. goes_on (record { state = n; stable = []; sends = []; marks = [] }) starts_mid (sequencers.places.reset n) []
            (reset_follows cfg slot me given.within n start (earlier ++ []) given.sound starts_mid.mirrors) given.named (keep.restarts e) given.known;
        learns = λ t entry why w. goes_on t w (with_entry over entry t.state) (t.stable ++ items.Known entry ∷ [])
            (with_one t w.state (over t.state entry) (items.Known entry)
            (with_item cfg.seqs slot i w.state (over t.state entry) (earlier ++ t.stable) (items.Known entry) (λ b v e. cc)
            (learns_follow cfg slot me given.within n event t.state w.state (earlier ++ t.stable) w.sound w.mirrors w.named (told_now t w) entry)))
            w.named (keep.learns t entry why w.is) (learns_mid t w entry why);
        sees = λ t from at count entry why w. stands_still t w (with_seen count t).state.base (keep.sees t from at count entry why w.is) w.named w.known;
        ticks = λ t why w. stands_still t w (with_tick t).state.base (keep.ticks t why w.is) w.named w.known;
        asks = λ t to why w. record {
          state = w.state;
          sound = w.sound;
          moves = w.moves;
          mirrors = w.mirrors;
          said = all_push _ t.sends _ w.said tt;
          named = w.named;
          is = w.is;
          known = w.known;
        };
        says = λ t to what why w.
            let f = says_follow cfg slot me given.within n event t.state w.state (earlier ++ t.stable) w.sound w.mirrors to what why in
            record {
              state = f.follows.next;
              sound = f.follows.sound;
              moves = moves_on i start w.state f.follows.next w.moves f.follows.moves;
              mirrors = f.follows.mirrors;
              said = all_push _ t.sends _
                  (all_weaken (λ (m : Message). IsSaid slot w.state.sent me m.what) (λ (m : Message). IsSaid slot f.follows.next.sent me m.what) t.sends
                  (λ m was. said_still slot w.state.sent f.follows.next.sent f.follows.moves.sent me m.what was) w.said)
                  f.said;
              named = w.named;
              is = w.is;
              known = λ entry at. chosen_on cfg.seqs i w.state f.follows.next entry f.follows.moves (w.known entry at);
            };
        shows = λ t mark why w. absurd why;
        stores = λ t item own why w. goes_on t w (with_own own t.state) (t.stable ++ item ∷ [])
            (with_one t w.state own item
            (stores_follow cfg slot me given.within n event t.state w.state (earlier ++ t.stable) w.sound w.mirrors w.named (told_now t w) item own why))
            w.named (keep.stores t item own why w.is) w.known;
        changes = λ t own why w. goes_on t w (with_own own t.state) t.stable
            (changes_follow cfg slot me given.within n event t.state w.state (earlier ++ t.stable) w.sound w.mirrors w.named (told_now t w) own why)
            w.named (keep.changes t own why w.is) w.known;
      })
