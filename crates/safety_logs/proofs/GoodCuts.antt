-- What is good at a slot stays so, and what is good after all that a sequencer knows is good at its next slot: so the wishes of attempts are.
use Rattle.std.proofs.Common.{◌≡◌, ℕ, ◌<◌, ◌∷◌, List, length, take, Some, refl, sym, subst}
use Rattle.msg_wire.specs.Valid.{IsValidConfig}
use Rattle.net_model.specs.Pasts.{Past}
use Rattle.seq_node.specs.States.{SlotAttempt}
use Rattle.runs.specs.Names.{Config, Entry, HistoryEntry}
use Rattle.runs.specs.Names.nodes
use Rattle.runs.specs.Runs.{IsPastOf}
use Rattle.runs.specs.Kinds.{sequencer_after}
use Rattle.runs.specs.Known.{agreed_after}
use Rattle.runs.specs.Marks.{IsPrefix}
use Rattle.safety_frame.specs.AgreedList.{agreed_list}
use Rattle.safety_frame.proofs.Lists.{length_stays}
use Rattle.safety_frame.proofs.NodeKinds.{after, sequencers}
use Rattle.safety_frame.proofs.StableItems.{known_is}
use Rattle.safety_frame.proofs.StableParts.{sequencer_known}
use Rattle.safety_logs.specs.Counting.{counted}
use Rattle.safety_logs.specs.Cuts.{IsGoodAttempt, IsGoodAfter, IsGoodAt}
use Rattle.safety_logs.proofs.AgreedLists.{same_take, taken_front, sequencer_begins, agreed_grows}
use Rattle.safety_logs.proofs.Fronts.{no_longer}
use Rattle.safety_logs.proofs.Growing.{held_grows}
use Rattle.safety_logs.proofs.Wishes.{good_later, wishes_are_good}

-- the agreed list and the logs only grow
pub good_on : (cfg : Config) (valid : IsValidConfig cfg) (e : HistoryEntry) (past : Past) → IsPastOf cfg (e ∷ past) → (slot : ℕ) (entry : Entry)
    → IsGoodAt cfg past slot entry → IsGoodAt cfg (e ∷ past) slot entry
good_on cfg valid e past run slot entry is =
    let before : List Entry = agreed_list cfg past in
    let now : List Entry = agreed_list cfg (e ∷ past) in
    let grown = agreed_grows cfg valid e past run in
    record {
      agreed = length_stays before now slot grown is.agreed;
      good =
          subst (λ l. IsGoodAfter cfg (e ∷ past) l entry) (sym (same_take slot before now grown is.agreed))
          (good_later (λ shard. counted cfg (agreed_after cfg (take slot before)) shard past)
          (λ shard. counted cfg (agreed_after cfg (take slot before)) shard (e ∷ past)) (agreed_after cfg (take slot before)) entry
          (λ shard. (held_grows cfg e past shard valid run).counts (agreed_after cfg (take slot before))) is.good);
    }

-- after what begins the agreed list
pub good_next : (cfg : Config) (past : Past) (known : List Entry) (entry : Entry) → IsPrefix known (agreed_list cfg past) → IsGoodAfter cfg past known entry
    → IsGoodAt cfg past (length known) entry
good_next cfg past known entry begins good = record {
  agreed = no_longer known (agreed_list cfg past) begins;
  good = subst (λ l. IsGoodAfter cfg past l entry) (sym (taken_front known (agreed_list cfg past) begins)) good;
}

pub good_wishes : (cfg : Config) (past : Past) → IsValidConfig cfg → IsPastOf cfg past → (number : ℕ) (a : SlotAttempt) → number < cfg.seqs
    → (sequencer_after cfg number past).own.attempt ≡ Some a → IsGoodAt cfg past a.slot a.attempt.wish
good_wishes cfg past valid run number a here stands =
    let n = after sequencers cfg (nodes.Seq number) past in
    let known : List Entry = n.base.known in
    let good =
    subst (IsGoodAttempt (λ shard. counted cfg (agreed_after cfg known) shard past) (agreed_after cfg known) (length known)) stands (wishes_are_good cfg past valid run number here) in
    let begins =
    subst (λ l. IsPrefix l (agreed_list cfg past)) (sym (known_is sequencers sequencer_known cfg valid past run (nodes.Seq number) refl here))
    (sequencer_begins cfg valid past run number) in
    subst (λ (slot : ℕ). IsGoodAt cfg past slot a.attempt.wish) (sym good.0) (good_next cfg past known a.attempt.wish begins good.1)
