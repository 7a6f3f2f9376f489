-- Each notice comes with a removal that its node learns, and names the first position that it moves.
use Rattle.std.proofs.Common.{◌≡◌, ℕ, List, [], ◌∷◌, Contains, Option, Some, None, refl, ap, subst, inl, inr}
use Rattle.std.specs.List.{cons_option}
use Rattle.cut_core.specs.declared.effects.Effect.{Effect}
use Rattle.cut_core.specs.declared.effects.Effect.TheVariants.{Removed}
use Rattle.cut_core.specs.Effects.{effect_of}
use Rattle.majority.proofs.Lists.{Contains_cases, Contains_none}
use Rattle.msg_wire.specs.Valid.{IsValidConfig}
use Rattle.net_model.specs.Pasts.{Past, Throughout}
use Rattle.node_rules.proofs.Lists.{all_weaken}
use Rattle.runs.specs.Names.{Config, Entry, Mark, HistoryEntry}
use Rattle.runs.specs.Names.marks
use Rattle.runs.specs.Known.{known_at, agreed_at}
use Rattle.runs.specs.Marks.{notice_in}
use Rattle.runs.specs.Runs.{IsPastOf}
use Rattle.runs.specs.Speculating.{IsTrueNotice, NoticesAreTrue}
use Rattle.safety_frame.specs.EveryRun.{OfEveryRun}
use Rattle.safety_frame.proofs.Lists.{from_members}
use Rattle.safety_agreement.proofs.OtherKinds.{on_kind}
use Rattle.safety_marks.specs.Removals.{first_in}
use Rattle.safety_marks.specs.Shown.{IsOther}
use Rattle.safety_marks.proofs.Lists.{read_member}
use Rattle.safety_marks.proofs.Notices.{known_with, firsts_with}
use Rattle.safety_marks.proofs.Others.{AllOther, sequencer_others, client_others}
use Rattle.safety_marks.proofs.Entries.{EntryNotices, entry_notices}

the_removal : (effect : Effect) (first : ℕ) → Contains (cons_option (first_in effect) []) first → (shard : ℕ) × (effect ≡ Removed shard first)
the_removal (Removed shard moved) first c = elim (Contains_cases moved first [] c) [
  | inl same ↦ (shard, ap (λ (n : ℕ). Removed shard n) same)
  | inr later ↦ absurd (Contains_none first later)
]
the_removal _ first c = absurd (Contains_none first c)

module _ (cfg : Config) (past : Past) (e : HistoryEntry) where
  by_learned : (first : ℕ) (learned : Option Entry) → known_at cfg e.node (e ∷ past) ≡ known_with (known_at cfg e.node past) learned
      → Contains (firsts_with (agreed_at cfg e.node past) learned) first → IsTrueNotice cfg past e (marks.Notice first)
  by_learned first None known c = absurd (Contains_none first c)
  by_learned first (Some entry) known c =
      let is = the_removal (effect_of (agreed_at cfg e.node past) entry) first c in
      (entry, is.0, known, is.1)

  is_true : EntryNotices cfg e past → (mark : Mark) → Contains e.marks mark → IsTrueNotice cfg past e mark
  is_true is (marks.Notice first) there =
      by_learned first is.learned is.known
      (subst (λ (firsts : List ℕ). Contains firsts first) is.shows.1 (read_member notice_in first e.marks (marks.Notice first) there refl))
  is_true is _ there = tt

  other_true : (mark : Mark) → IsOther mark → IsTrueNotice cfg past e mark
  other_true (marks.Notice first) other = absurd other
  other_true _ other = tt

  all_true : EntryNotices cfg e past → NoticesAreTrue cfg past e
  all_true is = from_members (IsTrueNotice cfg past e) e.marks (is_true is)

  others_true : AllOther e.marks → NoticesAreTrue cfg past e
  others_true others = all_weaken IsOther (IsTrueNotice cfg past e) e.marks other_true others

entry_true : (cfg : Config) (valid : IsValidConfig cfg) (e : HistoryEntry) (past : Past) → IsPastOf cfg (e ∷ past) → NoticesAreTrue cfg past e
entry_true cfg valid e past run =
    on_kind e.node (λ one. others_true cfg past e (sequencer_others cfg e past run.0 one))
    (λ one apart. all_true cfg past e (entry_notices cfg valid e past run (inl one)))
    (λ one apart. others_true cfg past e (client_others cfg e past run.0 one))
    (λ one apart. all_true cfg past e (entry_notices cfg valid e past run (inr one)))

pub notices_are_true : OfEveryRun (λ cfg. Throughout (NoticesAreTrue cfg))
notices_are_true cfg [] valid run = tt
notices_are_true cfg (e ∷ past) valid run = (entry_true cfg valid e past run, notices_are_true cfg past valid run.1)
