-- A history, gathered from its messages, its marks and its entries, and the report of what was gathered.
use Rattle.std.specs.Prelude.{ℕ, ◌+◌, List, [], ◌∷◌, ◌++◌, length, replicate, fold, slice_get, slice_set}
use Rattle.std.specs.Option.{option_map_or}
use Rattle.cut_core.specs.Agreements.{agreement_from}
use Rattle.node_rules.specs.Nodes.{first_window}
use Rattle.net_model.specs.Pasts.{past_of, sent, shown}
use Rattle.runs.specs.Names.{NodeId, Config, Message, Mark, HistoryEntry}
use Rattle.runs.specs.Names.nodes
use Rattle.report_text.specs.Positions.{differ_line}
use Rattle.report_text.specs.Report.{head_lines}
use Rattle.report_text.specs.inside.Telling.{Told, with_messages, told_lines}
use Rattle.report_text.specs.inside.Confirming.{Confirmed, with_marks, confirmed_lines, differing}
use Rattle.report_text.specs.inside.Consuming.{Consumed, nothing_consumed, with_own_marks, consumed_lines}
use Rattle.report_text.specs.inside.Submitting.{Submitted, nothing_submitted, with_own_entry, submitted_lines}

-- what was told and confirmed, and what each consumer and each client showed, by number
pub record Gathered : Type 0 where
  pub told : Told
  pub confirmed : Confirmed
  pub consumers : List Consumed
  pub clients : List Submitted

-- all that messages told and marks confirmed, and nothing yet of any node
abbrev pub before_entries : Config → List Message → List Mark → Gathered
before_entries cfg messages marks = record {
  told = with_messages [] messages;
  confirmed = with_marks [] marks;
  consumers = replicate cfg.consumers nothing_consumed;
  clients = replicate (length cfg.homes) nothing_submitted;
}

-- a member of a list is changed, where there is one at the place
abbrev pub changed_at : {A : Type 0} → (A → A) → List A → ℕ → List A
changed_at f xs at = option_map_or (λ x. slice_set xs at (f x)) (slice_get xs at) xs

abbrev pub consumers_after : NodeId → HistoryEntry → List Consumed → List Consumed
consumers_after (nodes.Consumer number) e consumers = changed_at (λ c. with_own_marks number c e.marks) consumers number
consumers_after _ e consumers = consumers

abbrev pub clients_after : NodeId → HistoryEntry → List Submitted → List Submitted
clients_after (nodes.Client number) e clients = changed_at (λ c. with_own_entry c e) clients number
clients_after _ e clients = clients

-- one entry more: what its node showed and was given
abbrev pub with_entry : Gathered → HistoryEntry → Gathered
with_entry g e = record g {
  consumers = consumers_after e.node e g.consumers;
  clients = clients_after e.node e g.clients;
}

abbrev pub gathered_of : Config → List HistoryEntry → Gathered
gathered_of cfg history = fold with_entry (before_entries cfg (sent (past_of history)) (shown (past_of history))) history

-- ---- as text

-- members of a list, each with its number
abbrev pub numbered_lines : {A : Type 0} → (ℕ → A → List ℕ) → ℕ → List A → List ℕ
numbered_lines f number [] = []
numbered_lines f number (x ∷ xs) = f number x ++ numbered_lines f (number + 1) xs

abbrev pub gathered_lines : Config → ℕ → Gathered → List ℕ
gathered_lines cfg entries g =
    head_lines entries
    ++ told_lines (agreement_from (first_window cfg)) g.told
    ++ confirmed_lines g.confirmed
    ++ numbered_lines (consumed_lines cfg) 0 g.consumers
    ++ numbered_lines submitted_lines 0 g.clients
    ++ differ_line (differing g.confirmed)
