-- What a client's entries show, gathered in order, is its submissions and its acknowledgements.
use Rattle.std.proofs.Common.{◌≡◌, ℕ, true, false, cond, [], ◌∷◌, ◌++◌, refl, ap, ◌∙◌, sym, append-nil}
use Rattle.std.proofs.lemmas.List.Elements.{filter_map-append}
use Rattle.msg_wire.specs.Nodes.{same_node}
use Rattle.net_model.specs.Pasts.{Past, marks_of, marks_at, body_in, body_at, submissions_of}
use Rattle.runs.specs.Names.{NodeId, HistoryEntry}
use Rattle.runs.specs.Names.nodes
use Rattle.runs.specs.Marks.{acks, ack_in}
use Rattle.report_text.specs.Clients.{lines_of_client}
use Rattle.report_text.specs.inside.Submitting.{Submitted, nothing_submitted, with_own_entry, submitted_lines}

pub record IsSubmitted (node : NodeId) (past : Past) (s : Submitted) : Type 0 where
  pub bodies : s.bodies ≡ submissions_of node past
  pub acked : s.acked ≡ acks (marks_of node past)

pub IsSubmitted_none : (node : NodeId) → IsSubmitted node [] nothing_submitted
IsSubmitted_none node = record { bodies = refl; acked = refl }

-- its own entry, and one of another node
pub IsSubmitted_own : (node : NodeId) (past : Past) (e : HistoryEntry) (s : Submitted) → same_node e.node node ≡ true → IsSubmitted node past s
    → IsSubmitted node (e ∷ past) (with_own_entry s e)
IsSubmitted_own node past e s own h =
    let at : marks_at node e ≡ e.marks = ap (λ b. cond b e.marks []) own in
    let body : body_at node e ≡ body_in e.event = ap (λ b. cond b (body_in e.event) []) own in
    record {
      bodies = rw body (ap (λ bodies. bodies ++ body_in e.event) h.bodies);
      acked = rw at (ap (λ acked. acked ++ acks e.marks) h.acked ∙ sym (filter_map-append ack_in (marks_of node past) e.marks));
    }

pub IsSubmitted_other : (node : NodeId) (past : Past) (e : HistoryEntry) (s : Submitted) → same_node e.node node ≡ false → IsSubmitted node past s
    → IsSubmitted node (e ∷ past) s
IsSubmitted_other node past e s other h =
    let at : marks_at node e ≡ [] = ap (λ b. cond b e.marks []) other in
    let body : body_at node e ≡ [] = ap (λ b. cond b (body_in e.event) []) other in
    record {
      bodies = rw (body, append-nil) h.bodies;
      acked = rw (at, append-nil) h.acked;
    }

pub submitted_lines_is : (past : Past) (number : ℕ) (s : Submitted) → IsSubmitted (nodes.Client number) past s
    → submitted_lines number s ≡ lines_of_client past number
submitted_lines_is past number s h = rw (h.bodies, h.acked) refl
