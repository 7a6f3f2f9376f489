-- The report of what was gathered from a history is the report of the history.
use Rattle.std.proofs.Common.{◌≡◌, ℕ, zero, suc, ◌+◌, ◌≤◌, ◌==◌, false, List, [], ◌∷◌, ◌++◌, length, replicate, slice_get, slice_set, take, Some, None, refl, sym, ap, subst, ◌∙◌, fold, arith}
use mathlib.Core.List.{reverse_aux}
use Rattle.std.specs.List.{AllByRecursion, range_with_len, flat_map}
use Rattle.std.specs.Option.{option_map_or}
use Rattle.std.proofs.lemmas.Bool.Decides.{nat_tests}
use Rattle.std.proofs.lemmas.List.{length-replicate, length-reverse}
use Rattle.std.proofs.lemmas.List.Folds.{fold_along}
use Rattle.cut_core.specs.Agreements.{agreement_from}
use Rattle.msg_wire.specs.Nodes.{same_node}
use Rattle.msg_wire.specs.Steps.{AreValidMessages}
use Rattle.net_model.specs.Pasts.{Past, past_of, sent, shown}
use Rattle.node_rules.specs.Nodes.{first_window}
use Rattle.runs.specs.Names.{NodeId, Config, Message, Mark, HistoryEntry}
use Rattle.runs.specs.Names.nodes
use Rattle.runs.specs.Marks.{confirmations}
use Rattle.report_text.specs.Slots.{slot_lines}
use Rattle.report_text.specs.Positions.{log_lines, count_differing, differ_line}
use Rattle.report_text.specs.Consumers.{lines_of_consumer, consumer_lines}
use Rattle.report_text.specs.Clients.{lines_of_client, client_lines}
use Rattle.report_text.specs.Report.{head_lines, report_of}
use Rattle.report_text.specs.inside.Telling.{with_messages, IsValidTold, told_lines}
use Rattle.report_text.specs.inside.Confirming.{with_marks, confirmed_lines, differing}
use Rattle.report_text.specs.inside.Consuming.{Consumed, nothing_consumed, with_own_marks, consumed_lines}
use Rattle.report_text.specs.inside.Submitting.{Submitted, nothing_submitted, with_own_entry, submitted_lines}
use Rattle.report_text.specs.inside.Gathering.{Gathered, before_entries, changed_at, consumers_after, clients_after, with_entry, gathered_of, numbered_lines, gathered_lines}
use Rattle.report_text.proofs.Keyed.{itself}
use Rattle.report_text.proofs.Tellings.{told_lines_is, valid_messages}
use Rattle.report_text.proofs.Confirmations.{confirmed_lines_is, differing_is}
use Rattle.report_text.proofs.Consumptions.{IsConsumed, IsConsumed_none, IsConsumed_own, IsConsumed_other, consumed_lines_is}
use Rattle.report_text.proofs.Submissions.{IsSubmitted, IsSubmitted_none, IsSubmitted_own, IsSubmitted_other, submitted_lines_is}

-- ---- members of a list, each with its number

-- it holds of each member, with its number
abbrev pub Numbered : {A : Type 0} → (ℕ → A → Type 0) → ℕ → List A → Type 0
Numbered P n [] = Unit {0}
Numbered P n (x ∷ xs) = P n x × Numbered P (n + 1) xs

pub Numbered_weaker : {A : Type 0} (P Q : ℕ → A → Type 0) (n : ℕ) (xs : List A) → ((m : ℕ) (x : A) → n ≤ m → P m x → Q m x) → Numbered P n xs → Numbered Q n xs
Numbered_weaker P Q n [] step h = tt
Numbered_weaker P Q n (x ∷ xs) step h = (step n x (omega arith) h.0, Numbered_weaker P Q (n + 1) xs (λ m y above. step m y (omega arith)) h.1)

changed_later : {A : Type 0} (f : A → A) (x : A) (xs : List A) (at : ℕ) → changed_at f (x ∷ xs) (suc at) ≡ x ∷ changed_at f xs at
changed_later f x xs at = elim (slice_get xs at) as (λ o. option_map_or (λ y. slice_set (x ∷ xs) (suc at) (f y)) o (x ∷ xs) ≡ x ∷ option_map_or (λ y. slice_set xs at (f y)) o xs) [ None ↦ refl | Some y ↦ refl ]

-- the member of one number is changed
Numbered_changed : {A : Type 0} (P Q : ℕ → A → Type 0) (f : A → A) (number : ℕ) → ((x : A) → P number x → Q number (f x))
    → ((m : ℕ) (x : A) → (number == m) ≡ false → P m x → Q m x)
    → (at n : ℕ) (xs : List A) → number ≡ n + at → Numbered P n xs → Numbered Q n (changed_at f xs at)
Numbered_changed P Q f number own other at n [] is h = tt
Numbered_changed P Q f number own other zero n (x ∷ xs) is h =
    let here : number ≡ n = omega arith in
    (subst (λ m. P m x → Q m (f x)) here (own x) h.0, Numbered_weaker P Q (n + 1) xs (λ m y above. other m y (grind (arith, nat_tests))) h.1)
Numbered_changed P Q f number own other (suc at) n (x ∷ xs) is h =
    rw (changed_later f x xs at) (other n x (grind (arith, nat_tests)) h.0, Numbered_changed P Q f number own other at (n + 1) xs (omega arith) h.1)

Numbered_replicate : {A : Type 0} (P : ℕ → A → Type 0) (x : A) → ((m : ℕ) → P m x) → (n count : ℕ) → Numbered P n (replicate count x)
Numbered_replicate P x each n zero = tt
Numbered_replicate P x each n (suc count) = (each n, Numbered_replicate P x each (n + 1) count)

length_changed : {A : Type 0} (f : A → A) (xs : List A) (at : ℕ) → length (changed_at f xs at) ≡ length xs
length_changed f [] at = refl
length_changed f (x ∷ xs) zero = refl
length_changed f (x ∷ xs) (suc at) = ap length (changed_later f x xs at) ∙ ap suc (length_changed f xs at)

pub numbered_lines_is : {A : Type 0} (f : ℕ → A → List ℕ) (g : ℕ → List ℕ) (n : ℕ) (xs : List A) → Numbered (λ m x. f m x ≡ g m) n xs
    → numbered_lines f n xs ≡ flat_map g (range_with_len n (length xs))
numbered_lines_is f g n [] h = refl
numbered_lines_is f g n (x ∷ xs) h = ap (λ first. first ++ numbered_lines f (n + 1) xs) h.0 ∙ ap (λ rest. g n ++ rest) (numbered_lines_is f g (n + 1) xs h.1)

same_parts : {a b c d e f a' b' c' d' e' f' : List ℕ} → a ≡ a' → b ≡ b' → c ≡ c' → d ≡ d' → e ≡ e' → f ≡ f'
    → a ++ b ++ c ++ d ++ e ++ f ≡ a' ++ b' ++ c' ++ d' ++ e' ++ f'
same_parts p q r s t u = cc

-- ---- what was gathered from a past

pub record IsGathered (cfg : Config) (past : Past) (g : Gathered) : Type 0 where
  pub consumers : Numbered (λ number. IsConsumed number past) 0 g.consumers
  pub consumer_count : length g.consumers ≡ cfg.consumers
  pub clients : Numbered (λ number. IsSubmitted (nodes.Client number) past) 0 g.clients
  pub client_count : length g.clients ≡ length cfg.homes

IsGathered_none : (cfg : Config) (messages : List Message) (marks : List Mark) → IsGathered cfg [] (before_entries cfg messages marks)
IsGathered_none cfg messages marks = record {
  consumers = Numbered_replicate (λ number. IsConsumed number []) nothing_consumed (λ number. IsConsumed_none number) 0 cfg.consumers;
  consumer_count = length-replicate cfg.consumers nothing_consumed;
  clients = Numbered_replicate (λ number. IsSubmitted (nodes.Client number) []) nothing_submitted (λ number. IsSubmitted_none (nodes.Client number)) 0 (length cfg.homes);
  client_count = length-replicate (length cfg.homes) nothing_submitted;
}

module _ (past : Past) (e : HistoryEntry) where
  consumers_same : (consumers : List Consumed) → ((number : ℕ) → same_node e.node (nodes.Consumer number) ≡ false)
      → Numbered (λ number. IsConsumed number past) 0 consumers → Numbered (λ number. IsConsumed number (e ∷ past)) 0 consumers
  consumers_same consumers other h = Numbered_weaker (λ number. IsConsumed number past) (λ number. IsConsumed number (e ∷ past)) 0 consumers (λ m c _ held. IsConsumed_other m past e c (other m) held) h

  clients_same : (clients : List Submitted) → ((number : ℕ) → same_node e.node (nodes.Client number) ≡ false)
      → Numbered (λ number. IsSubmitted (nodes.Client number) past) 0 clients → Numbered (λ number. IsSubmitted (nodes.Client number) (e ∷ past)) 0 clients
  clients_same clients other h = Numbered_weaker (λ number. IsSubmitted (nodes.Client number) past) (λ number. IsSubmitted (nodes.Client number) (e ∷ past)) 0 clients (λ m c _ held. IsSubmitted_other (nodes.Client m) past e c (other m) held) h

  consumers_more : (node : NodeId) (consumers : List Consumed) → e.node ≡ node → Numbered (λ number. IsConsumed number past) 0 consumers
      → Numbered (λ number. IsConsumed number (e ∷ past)) 0 (consumers_after node e consumers)
  consumers_more (nodes.Consumer number) consumers is h =
      Numbered_changed (λ m. IsConsumed m past) (λ m. IsConsumed m (e ∷ past)) (λ c. with_own_marks number c e.marks) number
      (λ c held. IsConsumed_own number past e c (ap (λ node. same_node node (nodes.Consumer number)) is ∙ itself number) held)
      (λ m c apart held. IsConsumed_other m past e c (ap (λ node. same_node node (nodes.Consumer m)) is ∙ apart) held)
      number 0 consumers (omega arith) h
  consumers_more (nodes.Client number) consumers is h = consumers_same consumers (λ m. ap (λ node. same_node node (nodes.Consumer m)) is) h
  consumers_more (nodes.Seq number) consumers is h = consumers_same consumers (λ m. ap (λ node. same_node node (nodes.Consumer m)) is) h
  consumers_more (nodes.Shard number side) consumers is h = consumers_same consumers (λ m. ap (λ node. same_node node (nodes.Consumer m)) is) h

  clients_more : (node : NodeId) (clients : List Submitted) → e.node ≡ node → Numbered (λ number. IsSubmitted (nodes.Client number) past) 0 clients
      → Numbered (λ number. IsSubmitted (nodes.Client number) (e ∷ past)) 0 (clients_after node e clients)
  clients_more (nodes.Client number) clients is h =
      Numbered_changed (λ m. IsSubmitted (nodes.Client m) past) (λ m. IsSubmitted (nodes.Client m) (e ∷ past)) (λ c. with_own_entry c e) number
      (λ c held. IsSubmitted_own (nodes.Client number) past e c (ap (λ node. same_node node (nodes.Client number)) is ∙ itself number) held)
      (λ m c apart held. IsSubmitted_other (nodes.Client m) past e c (ap (λ node. same_node node (nodes.Client m)) is ∙ apart) held)
      number 0 clients (omega arith) h
  clients_more (nodes.Consumer number) clients is h = clients_same clients (λ m. ap (λ node. same_node node (nodes.Client m)) is) h
  clients_more (nodes.Seq number) clients is h = clients_same clients (λ m. ap (λ node. same_node node (nodes.Client m)) is) h
  clients_more (nodes.Shard number side) clients is h = clients_same clients (λ m. ap (λ node. same_node node (nodes.Client m)) is) h

consumer_count_after : (node : NodeId) (e : HistoryEntry) (consumers : List Consumed) → length (consumers_after node e consumers) ≡ length consumers
consumer_count_after (nodes.Consumer number) e consumers = length_changed (λ c. with_own_marks number c e.marks) consumers number
consumer_count_after node e consumers = refl

client_count_after : (node : NodeId) (e : HistoryEntry) (clients : List Submitted) → length (clients_after node e clients) ≡ length clients
client_count_after (nodes.Client number) e clients = length_changed (λ c. with_own_entry c e) clients number
client_count_after node e clients = refl

IsGathered_more : (cfg : Config) (past : Past) (g : Gathered) (e : HistoryEntry) → IsGathered cfg past g → IsGathered cfg (e ∷ past) (with_entry g e)
IsGathered_more cfg past g e h = record {
  consumers = consumers_more past e e.node g.consumers refl h.consumers;
  consumer_count = consumer_count_after e.node e g.consumers ∙ h.consumer_count;
  clients = clients_more past e e.node g.clients refl h.clients;
  client_count = client_count_after e.node e g.clients ∙ h.client_count;
}

-- ---- a whole history

-- one item more
pub fold_next : {A B : Type 0} (f : B → A → B) (z : B) (xs : List A) (index : ℕ)
    → fold f z (take (suc index) xs) ≡ option_map_or (f (fold f z (take index xs))) (slice_get xs index) (fold f z (take index xs))
fold_next f z [] zero = refl
fold_next f z [] (suc index) = refl
fold_next f z (x ∷ xs) zero = refl
fold_next f z (x ∷ xs) (suc index) = fold_next f (f z x) xs index

newest_first : (history : List HistoryEntry) (past : Past) → fold (λ past e. e ∷ past) past history ≡ reverse_aux history past
newest_first [] past = refl
newest_first (e ∷ history) past = newest_first history (e ∷ past)

pub IsGathered_all : (cfg : Config) (history : List HistoryEntry) → IsGathered cfg (past_of history) (gathered_of cfg history)
IsGathered_all cfg history =
    subst (λ past. IsGathered cfg past (gathered_of cfg history)) (newest_first history [])
    (fold_along (λ past e. e ∷ past) with_entry (IsGathered cfg) (λ past g e h. IsGathered_more cfg past g e h) []
    (before_entries cfg (sent (past_of history)) (shown (past_of history))) history (IsGathered_none cfg (sent (past_of history)) (shown (past_of history))))

-- entries leave what was told and confirmed as it is
told_stays : (g : Gathered) (entries : List HistoryEntry) → (fold with_entry g entries).told ≡ g.told
told_stays g [] = refl
told_stays g (e ∷ entries) = told_stays (with_entry g e) entries

confirmed_stays : (g : Gathered) (entries : List HistoryEntry) → (fold with_entry g entries).confirmed ≡ g.confirmed
confirmed_stays g [] = refl
confirmed_stays g (e ∷ entries) = confirmed_stays (with_entry g e) entries

told_all : (cfg : Config) (history : List HistoryEntry) → (gathered_of cfg history).told ≡ with_messages [] (sent (past_of history))
told_all cfg history = told_stays (before_entries cfg (sent (past_of history)) (shown (past_of history))) history

pub confirmed_all : (cfg : Config) (history : List HistoryEntry) → (gathered_of cfg history).confirmed ≡ with_marks [] (shown (past_of history))
confirmed_all cfg history = confirmed_stays (before_entries cfg (sent (past_of history)) (shown (past_of history))) history

pub gathered_lines_is : (cfg : Config) (history : List HistoryEntry) → gathered_lines cfg (length history) (gathered_of cfg history) ≡ report_of cfg history
gathered_lines_is cfg history =
    let past : Past = past_of history in
    let g : Gathered = gathered_of cfg history in
    let h : IsGathered cfg past g = IsGathered_all cfg history in
    let told : told_lines (agreement_from (first_window cfg)) g.told ≡ slot_lines cfg (sent past) =
    ap (told_lines (agreement_from (first_window cfg))) (told_all cfg history) ∙ told_lines_is cfg (sent past) in
    let confirmed : confirmed_lines g.confirmed ≡ log_lines (confirmations (shown past)) = ap confirmed_lines (confirmed_all cfg history) ∙ confirmed_lines_is (shown past) in
    let consumers : numbered_lines (consumed_lines cfg) 0 g.consumers ≡ consumer_lines cfg past =
    numbered_lines_is (consumed_lines cfg) (lines_of_consumer cfg past) 0 g.consumers (Numbered_weaker (λ number. IsConsumed number past) (λ number c. consumed_lines cfg number c ≡ lines_of_consumer cfg past number) 0 g.consumers (λ m c _ held. consumed_lines_is cfg past m c held) h.consumers)
    ∙ ap (λ count. flat_map (lines_of_consumer cfg past) (range_with_len 0 count)) h.consumer_count in
    let clients : numbered_lines submitted_lines 0 g.clients ≡ client_lines cfg past =
    numbered_lines_is submitted_lines (lines_of_client past) 0 g.clients (Numbered_weaker (λ number. IsSubmitted (nodes.Client number) past) (λ number c. submitted_lines number c ≡ lines_of_client past number) 0 g.clients (λ m c _ held. submitted_lines_is past m c held) h.clients)
    ∙ ap (λ count. flat_map (lines_of_client past) (range_with_len 0 count)) h.client_count in
    let differ : differ_line (differing g.confirmed) ≡ differ_line (count_differing (confirmations (shown past))) = ap differ_line (ap differing (confirmed_all cfg history) ∙ differing_is (shown past)) in
    let head : head_lines (length history) ≡ head_lines (length past) = ap head_lines (sym (length-reverse history)) in
    same_parts head told confirmed consumers clients differ

-- where each message is valid, each slot that was told has an entry that can be applied
pub valid_told : (cfg : Config) (history : List HistoryEntry) → AreValidMessages (sent (past_of history))
    → AllByRecursion IsValidTold (gathered_of cfg history).told
valid_told cfg history h = rw (told_all cfg history) (valid_messages [] (sent (past_of history)) h tt)
