-- The summary of what was gathered from a history is the summary of the history.
use Rattle.std.proofs.Common.{◌≡◌, ℕ, ◌+◌, Bool, true, false, cond, List, [], ◌∷◌, ◌++◌, length, map, refl, sym, ap, subst, ◌∙◌, fold, sum_by, count_by, arith}
use Rattle.std.specs.List.{range_with_len, flat_map}
use Rattle.net_model.specs.Pasts.{Past, past_of, shown, marks_of}
use Rattle.runs.specs.Names.{Config, Record, Mark, HistoryEntry}
use Rattle.runs.specs.Names.nodes
use Rattle.runs.specs.Names.marks
use Rattle.runs.specs.Marks.{confirmations}
use Rattle.report_text.specs.Positions.{differ_line, count_differing}
use Rattle.report_text.specs.inside.Confirming.{differing}
use Rattle.report_text.specs.inside.Consuming.{Consumed}
use Rattle.report_text.specs.inside.Submitting.{Submitted}
use Rattle.report_text.specs.inside.Gathering.{Gathered, gathered_of, numbered_lines}
use Rattle.report_text.specs.Summary.{is_data, count_submitted, count_acked, over_clients, totals_lines, quiet_line, summary_of_consumer, summary_of}
use Rattle.report_text.specs.inside.Summing.{confirms_data, data_among, all_submitted, all_acked, summed_consumer, summed_lines}
use Rattle.report_text.proofs.Confirmations.{differing_is}
use Rattle.report_text.proofs.Consumptions.{IsConsumed}
use Rattle.report_text.proofs.Submissions.{IsSubmitted}
use Rattle.report_text.proofs.Gatherings.{Numbered, Numbered_weaker, numbered_lines_is, IsGathered, IsGathered_all, confirmed_all}

-- ---- records of clients

abbrev tally_marks : ℕ → List Mark → ℕ
tally_marks a shown = fold (λ s m. s + cond (confirms_data m) 1 0) a shown

abbrev tally_records : ℕ → List Record → ℕ
tally_records a recs = fold (λ s r. s + cond (is_data r) 1 0) a recs

abbrev confirmed : List Mark → List Record
confirmed shown = map (λ c. c.1) (confirmations shown)

passed : (a : ℕ) (later : List Mark) → tally_marks a later ≡ tally_records a (confirmed later) → tally_marks (a + 0) later ≡ tally_records a (confirmed later)
passed a later h = let none : a + 0 ≡ a = omega arith in ap (λ n. tally_marks n later) none ∙ h

same_tally : (a : ℕ) (shown : List Mark) → tally_marks a shown ≡ tally_records a (confirmed shown)
same_tally a [] = refl
same_tally a (marks.Confirm position rec ∷ later) = same_tally (a + cond (is_data rec) 1 0) later
same_tally a (marks.Apply position rec ∷ later) = passed a later (same_tally a later)
same_tally a (marks.Undo first ∷ later) = passed a later (same_tally a later)
same_tally a (marks.Out bytes ∷ later) = passed a later (same_tally a later)
same_tally a (marks.Notice first ∷ later) = passed a later (same_tally a later)
same_tally a (marks.Promise position rec ∷ later) = passed a later (same_tally a later)
same_tally a (marks.Ack number position ∷ later) = passed a later (same_tally a later)

summed_consumer_is : (cfg : Config) (past : Past) (number : ℕ) (c : Consumed) → IsConsumed number past c → summed_consumer cfg number c ≡ summary_of_consumer cfg past number
summed_consumer_is cfg past number c h = rw (h.said.marks, h.said.log, same_tally 0 (marks_of (nodes.Consumer number) past)) refl

-- ---- sums over clients

sum_front : {A : Type 0} (f : A → ℕ) (xs : List A) (a : ℕ) → fold (λ s x. s + f x) a xs ≡ a + sum_by f xs
sum_front f [] a = omega arith
sum_front f (x ∷ xs) a =
    let h1 : fold (λ s y. s + f y) (a + f x) xs ≡ a + f x + sum_by f xs = sum_front f xs (a + f x) in
    let h2 : sum_by f (x ∷ xs) ≡ 0 + f x + sum_by f xs = sum_front f xs (0 + f x) in
    let h3 : a + f x + sum_by f xs ≡ a + sum_by f (x ∷ xs) = omega (arith, h2) in
    h1 ∙ h3

module _ (past : Past) where
  -- a sum over the clients, of what each has, is the sum of what is counted of each
  total_is : (total : List Submitted → ℕ) (size : Submitted → ℕ) (count : ℕ → ℕ) → total [] ≡ 0
      → ((s : Submitted) (clients : List Submitted) → total (s ∷ clients) ≡ size s + total clients)
      → ((number : ℕ) (s : Submitted) → IsSubmitted (nodes.Client number) past s → size s ≡ count number)
      → (n : ℕ) (clients : List Submitted) → Numbered (λ number. IsSubmitted (nodes.Client number) past) n clients
      → total clients ≡ sum_by count (range_with_len n (length clients))
  total_is total size count none more sized n [] h = none
  total_is total size count none more sized n (s ∷ clients) h =
      let here : size s ≡ count n = sized n s h.0 in
      let rest = total_is total size count none more sized (n + 1) clients h.1 in
      let sum = sum_front count (range_with_len (n + 1) (length clients)) (0 + count n) in
      omega (arith, more s clients, here, rest, sum)

  submitted_is : (clients : List Submitted) → Numbered (λ number. IsSubmitted (nodes.Client number) past) 0 clients
      → all_submitted clients ≡ sum_by (count_submitted past) (range_with_len 0 (length clients))
  submitted_is = total_is all_submitted (λ s. length s.bodies) (count_submitted past) refl (λ s clients. refl) (λ number s is. ap length is.bodies) 0

  acked_is : (clients : List Submitted) → Numbered (λ number. IsSubmitted (nodes.Client number) past) 0 clients
      → all_acked clients ≡ sum_by (count_acked past) (range_with_len 0 (length clients))
  acked_is = total_is all_acked (λ s. length s.acked) (count_acked past) refl (λ s clients. refl) (λ number s is. ap length is.acked) 0

-- ---- the summary

same_parts : {a b c a' b' c' : List ℕ} (d : List ℕ) → a ≡ a' → b ≡ b' → c ≡ c' → a ++ b ++ c ++ d ≡ a' ++ b' ++ c' ++ d
same_parts d p q r = cc

pub summed_lines_is : (cfg : Config) (quiet : Bool) (history : List HistoryEntry) → summed_lines cfg quiet (gathered_of cfg history) ≡ summary_of cfg history quiet
summed_lines_is cfg quiet history =
    let past : Past = past_of history in
    let g : Gathered = gathered_of cfg history in
    let h : IsGathered cfg past g = IsGathered_all cfg history in
    let submitted : all_submitted g.clients ≡ over_clients cfg (count_submitted past) = submitted_is past g.clients h.clients ∙ ap (λ count. sum_by (count_submitted past) (range_with_len 0 count)) h.client_count in
    let acked : all_acked g.clients ≡ over_clients cfg (count_acked past) = acked_is past g.clients h.clients ∙ ap (λ count. sum_by (count_acked past) (range_with_len 0 count)) h.client_count in
    let totals : totals_lines (all_submitted g.clients) (all_acked g.clients) ≡ totals_lines (over_clients cfg (count_submitted past)) (over_clients cfg (count_acked past)) = rw (submitted, acked) refl in
    let consumers : numbered_lines (summed_consumer cfg) 0 g.consumers ≡ flat_map (summary_of_consumer cfg past) (range_with_len 0 cfg.consumers) =
    numbered_lines_is (summed_consumer cfg) (summary_of_consumer cfg past) 0 g.consumers (Numbered_weaker (λ number. IsConsumed number past) (λ number c. summed_consumer cfg number c ≡ summary_of_consumer cfg past number) 0 g.consumers (λ m c _ held. summed_consumer_is cfg past m c held) h.consumers)
    ∙ ap (λ count. flat_map (summary_of_consumer cfg past) (range_with_len 0 count)) h.consumer_count in
    let differ : differ_line (differing g.confirmed) ≡ differ_line (count_differing (confirmations (shown past))) = ap differ_line (ap differing (confirmed_all cfg history) ∙ differing_is (shown past)) in
    same_parts (quiet_line quiet) totals consumers differ
