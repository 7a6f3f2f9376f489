-- Of every run: both replicas have what known entries cover, since each of them is chosen, and a cut that was voted for is good.
use Rattle.std.proofs.Common.{◌≡◌, ◌∙◌, ℕ, ◌*◌, ◌<◌, ◌≤◌, List, [], ◌∷◌, ◌++◌, length, Some, Contains, append_assoc, append-nil, sym, ap, subst, arith}
use Rattle.std.specs.List.{slice_get}
use Rattle.std.proofs.lemmas.List.Elements.{All-contains}
use Rattle.fix_ante.specs.Windows.{first_of}
use Rattle.cut_core.specs.Agreements.{Agreement, agreement_from}
use Rattle.cut_core.specs.Map.{covered_locals}
use Rattle.cut_core.proofs.AgreeingLemmas.{applied_all_push}
use Rattle.majority.proofs.Lists.{Contains_here}
use Rattle.msg_wire.specs.Valid.{IsValidConfig}
use Rattle.net_model.specs.Pasts.{Past}
use Rattle.runs.specs.Names.{NodeId, Config, Entry}
use Rattle.runs.specs.Names.nodes
use Rattle.runs.specs.Names.items
use Rattle.runs.specs.Runs.{IsPastOf}
use Rattle.runs.specs.Known.{known_at, agreed_after}
use Rattle.runs.specs.Marks.{IsPrefix}
use Rattle.runs.specs.Maps.{WasKnown}
use Rattle.runs.specs.Chosen.{HasAccepted}
use Rattle.runs.specs.Logs.{CoveredIsHeld}
use Rattle.safety_frame.specs.AgreedList.{agreed_list}
use Rattle.safety_frame.specs.EveryRun.{OfEveryRun}
use Rattle.safety_frame.proofs.Known.{known_folds_hold, agreed_is_longest}
use Rattle.safety_frame.proofs.Lists.{begins_itself, begins_more, begins_on}
use Rattle.safety_agreement.proofs.Chosen.{each_known_is_chosen}
use Rattle.safety_logs.specs.Counting.{held_log, counted}
use Rattle.safety_logs.specs.Cuts.{IsGoodAfter, IsGoodAt}
use Rattle.safety_logs.specs.Held.{CoveredIsCommon}
use Rattle.safety_logs.proofs.AgreedLists.{taken_front, agreed_begins}
use Rattle.safety_logs.proofs.Covering.{entry_counts}
use Rattle.safety_logs.proofs.CutClauses.{cuts_are_good}
use Rattle.safety_logs.proofs.Backups.{backup_is_a_prefix}
use Rattle.safety_logs.proofs.Fronts.{after_front}
use Rattle.safety_logs.proofs.Growing.{common_of}

one_of : (count : ℕ) (voters : List ℕ) → count < 2 * length voters → (voter : ℕ) × Contains voters voter
one_of count [] most = absurd (omega (arith, most))
one_of count (voter ∷ voters) most = (voter, Contains_here voter voters)

module _ (cfg : Config) (valid : IsValidConfig cfg) (past : Past) (run : IsPastOf cfg past) where
  -- a known entry is good after those before it
  known_good : (node : NodeId) (before : List Entry) (entry : Entry) (rest : List Entry) → IsPrefix (before ++ entry ∷ rest) (known_at cfg node past)
      → IsGoodAfter cfg past before entry
  known_good node before entry rest p =
      let known : List Entry = known_at cfg node past in
      let begins = begins_on before (before ++ entry ∷ rest) known (begins_more before (entry ∷ rest)) p in
      let at : slice_get known (length before) ≡ Some entry =
      ap (λ l. slice_get l (length before)) (p.1 ∙ append_assoc before (entry ∷ rest) p.0) ∙ after_front before (entry ∷ (rest ++ p.0)) in
      let chosen = each_known_is_chosen cfg past valid run node (length before) entry at in
      let voter = one_of cfg.seqs chosen.1 chosen.2.most in
      let is : IsGoodAt cfg past (length before) entry =
      (cuts_are_good cfg past valid run).accepted (nodes.Seq voter.0) (items.Accepted (length before) chosen.0 entry)
      (All-contains (HasAccepted cfg past (length before) chosen.0 entry) chosen.1 voter.0 chosen.3 voter.1) in
      let agreed : List Entry = agreed_list cfg past in
      let begins_agreed =
      begins_on before known agreed begins (agreed_begins cfg valid past run node) in
      subst (λ l. IsGoodAfter cfg past l entry) (taken_front before agreed begins_agreed) is.good

  counted_on : (node : NodeId) (before rest : List Entry) → IsPrefix (before ++ rest) (known_at cfg node past)
      → ((shard : ℕ) → covered_locals (agreed_after cfg before) shard ≤ counted cfg (agreed_after cfg before) shard past)
      → (shard : ℕ) → covered_locals (agreed_after cfg (before ++ rest)) shard ≤ counted cfg (agreed_after cfg (before ++ rest)) shard past
  counted_on node before [] p so_far shard =
      subst (λ l. covered_locals (agreed_after cfg l) shard ≤ counted cfg (agreed_after cfg l) shard past) (sym (append-nil before)) (so_far shard)
  counted_on node before (entry ∷ rest) p so_far shard =
      let known : List Entry = known_at cfg node past in
      let next : (before ++ entry ∷ []) ++ rest ≡ before ++ entry ∷ rest = append_assoc before (entry ∷ []) rest in
      let begins = begins_on before (before ++ entry ∷ rest) known (begins_more before (entry ∷ rest)) p in
      let sound = ((known_folds_hold cfg past valid run).consistent before (node, begins)).sound in
      let good = known_good node before entry rest p in
      let pushed = applied_all_push (agreement_from (first_of cfg.rounds cfg.table)) before entry in
      subst (λ l. covered_locals (agreed_after cfg l) shard ≤ counted cfg (agreed_after cfg l) shard past) next
      (counted_on node (before ++ entry ∷ []) rest (subst (λ l. IsPrefix l known) (sym next) p)
      (λ other.
      subst (λ (a : Agreement). covered_locals a other ≤ counted cfg a other past) (sym pushed)
      (entry_counts (agreed_after cfg before) sound (λ s. counted cfg (agreed_after cfg before) s past) entry other good (so_far other))) shard)

  pub known_counts : (known : List Entry) → WasKnown cfg past known → (shard : ℕ) → covered_locals (agreed_after cfg known) shard
      ≤ counted cfg (agreed_after cfg known) shard past
  known_counts known was = counted_on was.0 [] known was.1 (λ shard. omega arith)

pub covered_is_held : OfEveryRun CoveredIsHeld
covered_is_held cfg past valid run node shard =
    let within = known_counts cfg valid past run (known_at cfg node past) (node, begins_itself (known_at cfg node past)) shard in
    record { primary = omega (arith, within); backup = omega (arith, within) }

pub covered_is_common : OfEveryRun CoveredIsCommon
covered_is_common cfg past valid run shard =
    let agreed : List Entry = agreed_list cfg past in
    let was = (agreed_is_longest cfg past run).was_known in
    let counts = known_counts cfg valid past run agreed (nodes.Seq was.0, was.1) shard in
    let within : covered_locals (agreed_after cfg agreed) shard ≤ length (held_log cfg shard past) = omega (arith, counts) in
    record { within = within; common = common_of cfg past shard (covered_locals (agreed_after cfg agreed) shard) (backup_is_a_prefix cfg past valid run) within }
