-- What a player keeps of a script as it is played.
use Rattle.std.proofs.Common.{◌≡◌, ℕ, zero, suc, ◌+◌, ◌%◌, ◌<◌, ◌≤◌, ◌==◌, ◌||◌, Bool, true, false, not, List, ◌∷◌, length, map, get_or, Option, Some, None, refl, sym, ap, ◌∙◌, inl, inr, arith}
use Rattle.std.specs.Prelude.{slice_set, nat_lt, if◌then◌else◌}
use Rattle.std.specs.List.{range_with_len, slice_get, position_from}
use Rattle.std.specs.Option.{option_map_or, option_or}
use Rattle.std.proofs.lemmas.Bool.{eqb-true, eq-eqb, ne_eqb, or_cases, or_left, false_from_ne_true, ltb-true}
use Rattle.std.proofs.lemmas.List.{length-append}
use Rattle.std.proofs.lemmas.List.FromFn.{length-range_with_len, get_or-range_with_len}
use Rattle.std.proofs.lemmas.Option.{slice_get_within, slice_get-get_or, get_or_from_slice_get}
use Rattle.world.specs.inside.Names.{Past, sent, nodes_of, PlayError, NodeId, Config, Message, Event, Input, HistoryEntry}
use Rattle.world.specs.declared.errors.PlayError.TheVariants.{NoMessage}
use Rattle.runs.specs.Names.nodes
use Rattle.runs.specs.Names.events
use Rattle.runs.specs.Names.inputs
use Rattle.world.specs.Playing.{Playing, nothing_played, entry_made, happen, settle, deliver, next_open, tick_next, drain_once, drained, played, length_fault, input_fault}
use Rattle.world.specs.inside.PlayerSteps.{PlayerState, is_settled, flags_of, kept_of, happens, settles, delivers, ticks_next, drains_once, drains, plays, IsSentBefore}
use Rattle.world.proofs.Lists.{set_map, flags_more, first_unset}

-- the settled messages were sent
abbrev pub IsWhole : Playing → Type 0
IsWhole p = (n : ℕ) → is_settled p n ≡ true → n < length (sent p.past)

-- this is what is kept of the script
pub record Keeps (cfg : Config) (s : PlayerState) (p : Playing) : Type 0 where
  pub same : s ≡ kept_of cfg p
  pub whole : IsWhole p

-- ---- one entry

abbrev flagged : Config → Past → ℕ → List Bool → PlayerState
flagged cfg past turn flags = record { cfg = cfg; past = past; settled = flags; turn = turn }

pub keeps_happen : (cfg : Config) (node : NodeId) (event : Event) (s : PlayerState) (p : Playing) → Keeps cfg s p
    → Keeps cfg (happens node event s) (happen cfg node event p)
keeps_happen cfg node event s p keeps =
    let whole = keeps.whole in
    let e : HistoryEntry = entry_made cfg p.past node event in
    let clear : (k : ℕ) → 0 + length (sent p.past) ≤ k → is_settled p k ≡ false = λ k above. false_from_ne_true (is_settled p k) (λ set. absurd (omega (arith, whole k set, above))) in
    record {
      same =
          ap (happens node event) keeps.same
          ∙ ap (flagged cfg (e ∷ p.past) p.turn)
          (sym (flags_more (is_settled p) 0 (length (sent p.past)) (length e.sends) clear)
          ∙ ap (λ (n : ℕ). map (is_settled p) (range_with_len 0 n)) (sym (length-append (sent p.past) e.sends)));
      whole = λ n set. omega (arith, whole n set, length-append (sent p.past) e.sends);
    }

-- ---- one message settled

only_here : (n j k : ℕ) → slice_get (range_with_len 0 n) j ≡ Some k → k ≡ j
only_here n j k there =
    let within : j < n = omega (arith, slice_get_within (range_with_len 0 n) j k there, length-range_with_len 0 n) in
    omega (arith, get_or_from_slice_get (range_with_len 0 n) j k 0 there, get_or-range_with_len 0 n j 0 within)

same_settles : (cfg : Config) (number : ℕ) (p : Playing) → number < length (sent p.past) → settles number (kept_of cfg p) ≡ kept_of cfg (settle number p)
same_settles cfg number p sent_one =
    let xs : List ℕ = range_with_len 0 (length (sent p.past)) in
    let here : is_settled (settle number p) number ≡ true = or_left (number == number) (is_settled p number) (eq-eqb number number refl) in
    let at : get_or xs number 0 ≡ number = omega (arith, get_or-range_with_len 0 (length (sent p.past)) number 0 sent_one) in
    let there : slice_get xs number ≡ Some number = slice_get-get_or xs number 0 (omega (arith, sent_one, length-range_with_len 0 (length (sent p.past)))) ∙ ap (λ (k : ℕ). Some k) at in
    let others : (j k : ℕ) → (j ≡ number → ⊥) → slice_get xs j ≡ Some k → is_settled p k ≡ is_settled (settle number p) k =
    λ j k apart at. ap (λ (b : Bool). b || is_settled p k) (sym (ne_eqb number k (λ e. apart (sym (only_here (length (sent p.past)) j k at) ∙ sym e)))) in
    ap (flagged cfg p.past p.turn)
    (ap (slice_set (flags_of p) number) (sym here) ∙ set_map (is_settled p) (is_settled (settle number p)) xs number number there others)

pub keeps_settle : (cfg : Config) (number : ℕ) (s : PlayerState) (p : Playing) → number < length (sent p.past) → Keeps cfg s p
    → Keeps cfg (settles number s) (settle number p)
keeps_settle cfg number s p sent_one keeps = record {
  same = ap (settles number) keeps.same ∙ same_settles cfg number p sent_one;
  whole = λ n set. elim (or_cases (number == n) (is_settled p n) set) [
    | inl here ↦ omega (arith, eqb-true number n here, sent_one)
    | inr before ↦ keeps.whole n before
  ];
}

-- ---- a message delivered

keeps_message : (cfg : Config) (number : ℕ) (message : Option Message) (p : Playing) → slice_get (sent p.past) number ≡ message → IsWhole p
    → Keeps cfg
    (option_map_or (λ (m : Message). happens m.to (events.Deliver m) (settles number (kept_of cfg p))) message (kept_of cfg p))
    (option_map_or (λ (m : Message). happen cfg m.to (events.Deliver m) (settle number p)) message p)
keeps_message cfg number None p there whole = record { same = refl; whole = whole }
keeps_message cfg number (Some m) p there whole =
    let sent_one : number < length (sent p.past) = slice_get_within (sent p.past) number m there in
    keeps_happen cfg m.to (events.Deliver m) (settles number (kept_of cfg p)) (settle number p)
    (keeps_settle cfg number (kept_of cfg p) p sent_one (record { same = refl; whole = whole }))

pub keeps_deliver : (cfg : Config) (number : ℕ) (s : PlayerState) (p : Playing) → Keeps cfg s p → Keeps cfg (delivers number s) (deliver cfg number p)
keeps_deliver cfg number s p keeps =
    let kept : Keeps cfg (delivers number (kept_of cfg p)) (deliver cfg number p) = keeps_message cfg number (slice_get (sent p.past) number) p refl keeps.whole in
    record { same = ap (delivers number) keeps.same ∙ kept.same; whole = kept.whole }

-- ---- a drain

keeps_turn : (cfg : Config) (node : Option NodeId) (p : Playing) → IsWhole p
    → Keeps cfg
    (option_map_or (λ n. happens n events.Tick (record (kept_of cfg p) { turn = (p.turn + 1) % length (nodes_of cfg) })) node (kept_of cfg p))
    (option_map_or (λ n. happen cfg n events.Tick (record p { turn = (p.turn + 1) % length (nodes_of cfg) })) node p)
keeps_turn cfg None p whole = record { same = refl; whole = whole }
keeps_turn cfg (Some node) p whole =
    keeps_happen cfg node events.Tick (record (kept_of cfg p) { turn = (p.turn + 1) % length (nodes_of cfg) }) (record p { turn = (p.turn + 1) % length (nodes_of cfg) }) (record { same = refl; whole = whole })

keeps_open : (cfg : Config) (number : Option ℕ) (p : Playing) → IsWhole p
    → Keeps cfg (option_map_or (λ n. delivers n (kept_of cfg p)) number (ticks_next (kept_of cfg p))) (option_map_or (λ n. deliver cfg n p) number (tick_next cfg p))
keeps_open cfg None p whole = keeps_turn cfg (slice_get (nodes_of cfg) p.turn) p whole
keeps_open cfg (Some number) p whole = keeps_deliver cfg number (kept_of cfg p) p (record { same = refl; whole = whole })

-- the first flag that isn't set is that of the least open message
open_is : (p : Playing) → position_from not 0 (flags_of p) ≡ next_open p
open_is p = first_unset (is_settled p) 0 (length (sent p.past))

keeps_once : (cfg : Config) (s : PlayerState) (p : Playing) → Keeps cfg s p → Keeps cfg (drains_once s) (drain_once cfg p)
keeps_once cfg s p keeps =
    let kept = keeps_open cfg (next_open p) p keeps.whole in
    record {
      same =
          ap drains_once keeps.same
          ∙ ap (λ (o : Option ℕ). option_map_or (λ n. delivers n (kept_of cfg p)) o (ticks_next (kept_of cfg p))) (open_is p)
          ∙ kept.same;
      whole = kept.whole;
    }

pub keeps_drained : (cfg : Config) (count : ℕ) (s : PlayerState) (p : Playing) → Keeps cfg s p → Keeps cfg (drains count s) (drained cfg count p)
keeps_drained cfg zero s p keeps = keeps
keeps_drained cfg (suc count) s p keeps = keeps_once cfg (drains count s) (drained cfg count p) (keeps_drained cfg count s p keeps)

-- ---- an input

pub keeps_played : (cfg : Config) (given : Input) (s : PlayerState) (p : Playing) → IsSentBefore (length (sent p.past)) given → Keeps cfg s p
    → Keeps cfg (plays s given) (played cfg p given)
keeps_played cfg (inputs.Submit client body) s p sent_one keeps = keeps_happen cfg (nodes.Client client) (events.Submit 0 body) s p keeps
keeps_played cfg (inputs.Deliver number) s p sent_one keeps = keeps_deliver cfg number s p keeps
keeps_played cfg (inputs.Lose number) s p sent_one keeps = keeps_settle cfg number s p sent_one keeps
keeps_played cfg (inputs.Tick node) s p sent_one keeps = keeps_happen cfg node events.Tick s p keeps
keeps_played cfg (inputs.Restart node) s p sent_one keeps = keeps_happen cfg node events.Restart s p keeps
keeps_played cfg (inputs.Command node command) s p sent_one keeps = keeps_happen cfg node (events.Command command) s p keeps
keeps_played cfg (inputs.Drain count) s p sent_one keeps = keeps_drained cfg count s p keeps

pub keeps_nothing : (cfg : Config) → Keeps cfg (kept_of cfg nothing_played) nothing_played
keeps_nothing cfg = record { same = refl; whole = λ n set. absurd (cc) }

-- ---- an input that isn't refused names a message that was sent

message_there : (at number count : ℕ) (b : Bool) (later : Option PlayError) → nat_lt number count ≡ b
    → option_or (if b then None else Some (NoMessage at number count)) later ≡ None → number < count
message_there at number count true later e none = ltb-true number count e
message_there at number count false later e none = absurd (cc)

pub sent_before : (at : ℕ) (p : Playing) (given : Input) → input_fault at p given ≡ None → IsSentBefore (length (sent p.past)) given
sent_before at p (inputs.Deliver number) none = message_there at number (length (sent p.past)) (nat_lt number (length (sent p.past))) (length_fault at p (inputs.Deliver number)) refl none
sent_before at p (inputs.Lose number) none = message_there at number (length (sent p.past)) (nat_lt number (length (sent p.past))) (length_fault at p (inputs.Lose number)) refl none
sent_before at p _ none = tt
