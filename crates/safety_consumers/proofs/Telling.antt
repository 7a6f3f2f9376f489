-- What a consumer's marks and items so far tell of what it has, and how one more of them changes it as its state.
use Rattle.std.proofs.Common.{◌≡◌, ◌∙◌, ℕ, ◌+◌, ◌-◌, ◌≤◌, List, [], ◌∷◌, ◌++◌, map, length, take}
use Rattle.std.proofs.Common.{drop, slice_get, Some, append_assoc, append-nil, refl, sym, ap, subst, arith}
use Rattle.std.specs.List.{concat, range_with_len}
use Rattle.std.proofs.lemmas.List.{length-append, length-map, map-append}
use Rattle.std.proofs.lemmas.List.Elements.{filter_map-append}
use Rattle.std.proofs.lemmas.List.FromFn.{length-range_with_len}
use Rattle.std.proofs.lemmas.List.Folds.{concat-append}
use Rattle.std.proofs.lemmas.List.Sums.{fold-append}
use Rattle.std.proofs.Math.Seq.{take-append_seam, take-append-add}
use Rattle.fix_ante.proofs.LocalLemmas.{range_with_len_append}
use Rattle.app_law.specs.declared.any_app.AnyApp.{AnyApp}
use Rattle.app_law.specs.AnyApps.{any_fresh, any_next, any_output}
use Rattle.app_law.specs.Folds.{fold_of}
use Rattle.app_law.proofs.Folds.{fold_of_append}
use Rattle.node_rules.specs.Names.{AppKind, Record, Entry, Item, Mark}
use Rattle.node_rules.specs.Names.items
use Rattle.node_rules.specs.Names.marks
use Rattle.runs.specs.Marks.{EachAfter, confirmation_in, confirmations, after_mark, applied_by, output_in, outputs, kept_confirmation_in, kept_confirmations}
use Rattle.runs.specs.Consumers.{outputs_from}
use Rattle.runs.specs.Outputs.{IsApplyAtEnd}
use Rattle.safety_consumers.proofs.Lists.{each_push, first_of}

-- the positions and records that marks confirm
abbrev pub positions_in : List Mark → List ℕ
positions_in shown = map (λ c. c.0) (confirmations shown)

abbrev pub records_in : List Mark → List Record
records_in shown = map (λ c. c.1) (confirmations shown)

-- the records that items keep, and their outputs
abbrev pub kept_in : List Item → List Record
kept_in stored = map (λ c. c.0) (kept_confirmations stored)

abbrev pub written_in : List Item → List (List ℕ)
written_in stored = map (λ c. c.1) (kept_confirmations stored)

-- of a consumer with so many confirmed records, with this state after them and these records beyond, and this output that is still to go out
pub record Tells (kind : AppKind) (shown : List Mark) (stored : List Item) (due : List ℕ) (confirmed : ℕ) (base : AnyApp) (pending : List Record) : Type 0 where
  pub counted : positions_in shown ≡ range_with_len 0 confirmed
  pub applied : applied_by shown ≡ records_in shown ++ pending
  pub at_end : EachAfter IsApplyAtEnd [] shown
  pub after_all : base ≡ fold_of any_next (any_fresh kind) (records_in shown)
  pub kept : kept_in stored ≡ records_in shown
  pub written : written_in stored ≡ outputs_from (any_fresh kind) (records_in shown)
  pub out : concat (outputs shown) ++ due ≡ concat (written_in stored)

-- of the same marks and items
pub of_lists : {kind : AppKind} {shown more : List Mark} {stored kept : List Item} {due : List ℕ} {confirmed : ℕ} {base : AnyApp} {pending : List Record}
    → shown ≡ more → stored ≡ kept → Tells kind shown stored due confirmed base pending → Tells kind more kept due confirmed base pending
of_lists {kind} {shown} {more} {stored} {kept} {due} {confirmed} {base} {pending} same_marks same_items is =
    subst (λ l. Tells kind l kept due confirmed base pending) same_marks (subst (λ l. Tells kind shown l due confirmed base pending) same_items is)

module _ {kind : AppKind} {shown : List Mark} {stored : List Item} {due : List ℕ} {confirmed : ℕ} {base : AnyApp} {pending : List Record}
    (is : Tells kind shown stored due confirmed base pending) where
  pub confirmed_count : length (confirmations shown) ≡ confirmed
  confirmed_count = sym (length-map (confirmations shown) (λ c. c.0)) ∙ (ap length is.counted ∙ length-range_with_len 0 confirmed)

  pub confirmed_long : length (records_in shown) ≡ confirmed
  confirmed_long = length-map (confirmations shown) (λ c. c.1) ∙ confirmed_count

  pub applied_long : length (applied_by shown) ≡ confirmed + length pending
  applied_long = omega (arith, ap length is.applied, length-append (records_in shown) pending, confirmed_long)

  -- ---- a mark that confirms nothing

  pub other_mark : (mark : Mark) (later : List ℕ) (recs : List Record) → confirmations (mark ∷ []) ≡ []
      → after_mark (applied_by shown) mark ≡ records_in shown ++ recs → concat (outputs (mark ∷ [])) ++ later ≡ due → IsApplyAtEnd shown mark
      → Tells kind (shown ++ mark ∷ []) stored later confirmed base recs
  other_mark mark later recs none left goes at_end =
      let same : confirmations (shown ++ mark ∷ []) ≡ confirmations shown =
      filter_map-append confirmation_in shown (mark ∷ []) ∙ (ap (λ l. confirmations shown ++ l) none ∙ append-nil (confirmations shown)) in
      let list : records_in (shown ++ mark ∷ []) ≡ records_in shown = ap (map (λ c. c.1)) same in
      let first = concat (outputs shown) in
      let more = concat (outputs (mark ∷ [])) in
      record {
        counted = ap (map (λ c. c.0)) same ∙ is.counted;
        applied = fold-append after_mark [] shown (mark ∷ []) ∙ (left ∙ ap (λ l. l ++ recs) (sym list));
        at_end = each_push IsApplyAtEnd [] shown mark is.at_end at_end;
        after_all = is.after_all ∙ ap (fold_of any_next (any_fresh kind)) (sym list);
        kept = is.kept ∙ sym list;
        written = is.written ∙ ap (outputs_from (any_fresh kind)) (sym list);
        out =
            ap (λ l. concat l ++ later) (filter_map-append output_in shown (mark ∷ []))
            ∙ (ap (λ l. l ++ later) (concat-append (outputs shown) (outputs (mark ∷ [])))
            ∙ (append_assoc first more later ∙ (ap (λ l. first ++ l) goes ∙ is.out)));
      }

  -- an entry that is known
  pub tells_known : (entry : Entry) → Tells kind shown (stored ++ items.Known entry ∷ []) due confirmed base pending
  tells_known entry =
      let same : kept_confirmations (stored ++ items.Known entry ∷ []) ≡ kept_confirmations stored =
      filter_map-append kept_confirmation_in stored (items.Known entry ∷ []) ∙ append-nil (kept_confirmations stored) in
      record {
        counted = is.counted;
        applied = is.applied;
        at_end = is.at_end;
        after_all = is.after_all;
        kept = ap (map (λ c. c.0)) same ∙ is.kept;
        written = ap (map (λ c. c.1)) same ∙ is.written;
        out = is.out ∙ ap (λ l. concat (map (λ c. c.1) l)) (sym same);
      }

module _ {kind : AppKind} {shown : List Mark} {stored : List Item} {confirmed : ℕ} {base : AnyApp} {pending : List Record} where
  pub tells_notice : (first : ℕ) → Tells kind shown stored [] confirmed base pending
      → Tells kind (shown ++ marks.Notice first ∷ []) stored [] confirmed base pending
  tells_notice first is = other_mark is (marks.Notice first) [] pending refl is.applied refl tt

  -- back to a position that isn't confirmed
  pub tells_undo : (first : ℕ) → confirmed ≤ first → Tells kind shown stored [] confirmed base pending
      → Tells kind (shown ++ marks.Undo first ∷ []) stored [] confirmed base (take (first - confirmed) pending)
  tells_undo first within is =
      let far : first ≡ length (records_in shown) + (first - confirmed) = omega (arith, confirmed_long is, within) in
      let left : take first (applied_by shown) ≡ records_in shown ++ take (first - confirmed) pending =
      ap (take first) is.applied
      ∙ (ap (λ k. take k (records_in shown ++ pending)) far ∙ take-append-add (records_in shown) pending (first - confirmed)) in
      other_mark is (marks.Undo first) [] (take (first - confirmed) pending) refl left refl tt

  -- a restart's
  pub tells_reset : Tells kind shown stored [] confirmed base pending → Tells kind (shown ++ marks.Undo confirmed ∷ []) stored [] confirmed base []
  tells_reset is =
      let left : take confirmed (applied_by shown) ≡ records_in shown ++ [] =
      ap (take confirmed) is.applied
      ∙ (ap (λ k. take k (records_in shown ++ pending)) (sym (confirmed_long is))
      ∙ (take-append_seam (records_in shown) pending ∙ sym (append-nil (records_in shown)))) in
      other_mark is (marks.Undo confirmed) [] [] refl left refl tt

  pub tells_apply : (rec : Record) → Tells kind shown stored [] confirmed base pending
      → Tells kind (shown ++ marks.Apply (confirmed + length pending) rec ∷ []) stored [] confirmed base (pending ++ rec ∷ [])
  tells_apply rec is =
      other_mark is (marks.Apply (confirmed + length pending) rec) [] (pending ++ rec ∷ []) refl
      (ap (λ l. l ++ rec ∷ []) is.applied ∙ append_assoc (records_in shown) pending (rec ∷ [])) refl (sym (applied_long is))

  pub tells_out : (output : List ℕ) → Tells kind shown stored output confirmed base pending
      → Tells kind (shown ++ marks.Out output ∷ []) stored [] confirmed base pending
  tells_out output is =
      other_mark is (marks.Out output) [] pending refl is.applied (append-nil (output ++ []) ∙ append-nil output) tt

-- ---- the oldest record is confirmed

pub written_more : (state : AnyApp) (log : List Record) (rec : Record)
    → outputs_from state (log ++ rec ∷ []) ≡ outputs_from state log ++ any_output (fold_of any_next state log) rec ∷ []
written_more state [] rec = refl
written_more state (first ∷ log) rec = ap (λ l. any_output state first ∷ l) (written_more (any_next state first) log rec)

module _ {kind : AppKind} {shown : List Mark} {stored : List Item} {confirmed : ℕ} {base : AnyApp} {pending : List Record} (rec : Record) where
  pub tells_confirm : slice_get pending 0 ≡ Some rec → Tells kind shown stored [] confirmed base pending
      → Tells kind (shown ++ marks.Confirm confirmed rec ∷ []) (stored ++ items.Confirmed rec (any_output base rec) ∷ []) (any_output base rec) (confirmed + 1)
      (any_next base rec) (drop 1 pending)
  tells_confirm oldest is =
      let mark : Mark = marks.Confirm confirmed rec in
      let output : List ℕ = any_output base rec in
      let item : Item = items.Confirmed rec output in
      let log = records_in shown in
      let more : confirmations (shown ++ mark ∷ []) ≡ confirmations shown ++ (confirmed, rec) ∷ [] = filter_map-append confirmation_in shown (mark ∷ []) in
      let list : records_in (shown ++ mark ∷ []) ≡ log ++ rec ∷ [] =
      ap (map (λ c. c.1)) more ∙ map-append (λ c. c.1) (confirmations shown) ((confirmed, rec) ∷ []) in
      let keeps : kept_confirmations (stored ++ item ∷ []) ≡ kept_confirmations stored ++ (rec, output) ∷ [] =
      filter_map-append kept_confirmation_in stored (item ∷ []) in
      let writes : written_in (stored ++ item ∷ []) ≡ written_in stored ++ output ∷ [] =
      ap (map (λ c. c.1)) keeps ∙ map-append (λ c. c.1) (kept_confirmations stored) ((rec, output) ∷ []) in
      let next : confirmed ≡ 0 + confirmed = omega arith in
      record {
        counted =
            ap (map (λ c. c.0)) more
            ∙ (map-append (λ c. c.0) (confirmations shown) ((confirmed, rec) ∷ [])
            ∙ (ap (λ l. l ++ confirmed ∷ []) is.counted
            ∙ (ap (λ k. range_with_len 0 confirmed ++ k ∷ []) next ∙ range_with_len_append 0 confirmed 1)));
        applied =
            fold-append after_mark [] shown (mark ∷ [])
            ∙ (is.applied
            ∙ (ap (λ l. log ++ l) (first_of pending rec oldest)
            ∙ (sym (append_assoc log (rec ∷ []) (drop 1 pending)) ∙ ap (λ l. l ++ drop 1 pending) (sym list))));
        at_end = each_push IsApplyAtEnd [] shown mark is.at_end tt;
        after_all =
            ap (λ (s : AnyApp). any_next s rec) is.after_all
            ∙ (sym (fold_of_append any_next (any_fresh kind) log (rec ∷ [])) ∙ ap (fold_of any_next (any_fresh kind)) (sym list));
        kept =
            ap (map (λ c. c.0)) keeps
            ∙ (map-append (λ c. c.0) (kept_confirmations stored) ((rec, output) ∷ []) ∙ (ap (λ l. l ++ rec ∷ []) is.kept ∙ sym list));
        written =
            writes
            ∙ (ap (λ l. l ++ output ∷ []) is.written
            ∙ (ap (λ (s : AnyApp). outputs_from (any_fresh kind) log ++ any_output s rec ∷ []) is.after_all
            ∙ (sym (written_more (any_fresh kind) log rec) ∙ ap (outputs_from (any_fresh kind)) (sym list))));
        out =
            ap (λ l. concat l ++ output) (filter_map-append output_in shown (mark ∷ []) ∙ append-nil (outputs shown))
            ∙ (ap (λ l. l ++ output) (sym (append-nil (concat (outputs shown))) ∙ is.out)
            ∙ (ap (λ l. concat (written_in stored) ++ l) (sym (append-nil output))
            ∙ (sym (concat-append (written_in stored) (output ∷ [])) ∙ ap concat (sym writes))));
      }
