-- What a replica tells clients is read off its log and what it knows: a covered record's position, or the number after the covered ones of a gone shard.
use Rattle.std.proofs.Common.{◌≡◌, ◌∙◌, ℕ, suc, ◌+◌, ◌≤◌, ◌==◌, ◌&&◌, true, List, [], ◌∷◌, length, take, Option, Some, None, refl, sym, ap, subst, inl, inr, arith}
use Rattle.std.specs.List.{AllByRecursion, slice_get}
use Rattle.std.specs.Option.{option_map}
use Rattle.std.proofs.lemmas.Bool.{cases_Bool, cond-true, cond-false, and_parts, eqb-true}
use Rattle.std.proofs.lemmas.List.{take-append-le}
use Rattle.std.proofs.lemmas.Option.{same_Some}
use Rattle.fix_ante.specs.Windows.{first_of}
use Rattle.cut_core.specs.Agreements.{Agreement, agreement_from}
use Rattle.cut_core.specs.Fold.{applied}
use Rattle.cut_core.specs.Map.{gone_end, placed}
use Rattle.cut_core.proofs.AgreeingLemmas.{applied_all_push, covered_applied}
use Rattle.cut_core.proofs.GoneEnds.{gone_end_applied_all}
use Rattle.cut_core.proofs.Indices.{index_of_append, option_or_some}
use Rattle.fix_ante.specs.Layout.{index_of}
use Rattle.msg_wire.specs.Nodes.{number_of, same_node}
use Rattle.msg_wire.specs.Valid.{IsValidConfig, IsNodeOf}
use Rattle.net_model.specs.Pasts.{Past}
use Rattle.node_rules.specs.Names.{NodeId, Entry, Record, Item, Message, What, Event}
use Rattle.node_rules.specs.Names.nodes
use Rattle.node_rules.specs.Names.records
use Rattle.node_rules.specs.Names.whats
use Rattle.node_rules.specs.Nodes.{Base, Node, agreed_by, knowing}
use Rattle.node_rules.proofs.Places.{Comes}
use Rattle.node_rules.proofs.Telling.{Tells, telling}
use Rattle.shard_log.specs.ShardLog.{expected_of, local_of}
use Rattle.shard_node.specs.States.{ReplicaState}
use Rattle.shard_node.specs.Steps.{replica_step}
use Rattle.shard_node.proofs.Places.{Says, reports, copies, tells_length, promises, fetched, confirms, acks_again, acks_fate, fates, Stores, appends, copied, fills, Changes, holds, covers, cuts, promises_on}
use Rattle.runs.specs.Names.{Side, Config, HistoryEntry}
use Rattle.runs.specs.Runs.{IsPastOf}
use Rattle.runs.specs.Known.{agreed_after, agreed_at, log_at}
use Rattle.runs.specs.Marks.{IsPrefix}
use Rattle.runs.proofs.SameNodes.{same_node_is}
use Rattle.safety_frame.proofs.Lists.{begins_itself, begins_more, index_stays, length_stays}
use Rattle.safety_frame.proofs.Names.{IsNamed, states_named}
use Rattle.safety_frame.proofs.NodeKinds.{after, replicas}
use Rattle.safety_frame.proofs.Pasts.{own_state}
use Rattle.safety_frame.proofs.StableItems.{known_is, log_is}
use Rattle.safety_frame.proofs.StableParts.{replica_known}

-- ---- a record's local

next_local : (at : Option ℕ) (local : ℕ) → option_map (λ l. l + 1) at ≡ Some local → (l : ℕ) × (at ≡ Some l) × (local ≡ suc l)
next_local None local e = absurd (cc)
next_local (Some l) local e = let same : l + 1 ≡ local = same_Some (l + 1) local e in (l, refl, omega arith)

-- where a client's number is found there is the client's record of it
pub found_at : (client number : ℕ) (log : List Record) (local : ℕ) → local_of client number log ≡ Some local
    → (body : List ℕ) × (slice_get log local ≡ Some (records.Data client number body))
found_at client number [] local e = absurd (cc)
found_at client number (records.Noop ∷ rest) local e =
    let next = next_local (local_of client number rest) local e in
    let found = found_at client number rest next.0 next.1 in
    (found.0, ap (slice_get (records.Noop ∷ rest)) next.2 ∙ found.1)
found_at client number (records.Data owner own body ∷ rest) local e =
    let log = records.Data owner own body ∷ rest in
    let test = (owner == client) && (own == number) in
    let later = option_map (λ l. l + 1) (local_of client number rest) in
    elim (cases_Bool test) [
      | inl here ↦
          let parts = and_parts (owner == client) (own == number) here in
          let first : 0 ≡ local = same_Some 0 local (sym (cond-true test (Some 0) later here) ∙ e) in
          let rec : ℕ → ℕ → Option Record = λ c n. Some (records.Data c n body) in (
            body,
            ap (slice_get log) (sym first) ∙ (ap (λ c. rec c own) (eqb-true owner client parts.0) ∙ ap (rec client) (eqb-true own number parts.1)),
          )
      | inr other ↦
          let next = next_local (local_of client number rest) local (sym (cond-false test (Some 0) later other) ∙ e) in
          let found = found_at client number rest next.0 next.1 in
          (found.0, ap (slice_get log) next.2 ∙ found.1)
    ]

-- ---- what clients are told, of a log and of what is agreed

-- a covered local has the client's record of the number, and its position is this
pub record IsPlacedRecord (a : Agreement) (shard : ℕ) (log : List Record) (client number position : ℕ) : Type 0 where
  pub local : ℕ
  pub body : List ℕ
  pub place : placed a shard local ≡ Some position
  pub at : slice_get log local ≡ Some (records.Data client number body)

-- the shard is gone with an end that the log reaches, the client asked, and is expected to go on with this number
pub record IsNextAfter (n : Node ReplicaState) (event : Event) (a : Agreement) (shard : ℕ) (log : List Record) (to : NodeId) (next : ℕ) : Type 0 where
  pub first : ℕ
  pub least : ℕ
  pub comes : Comes n event to (whats.AskFate first least)
  pub end : ℕ
  pub gone : gone_end a shard ≡ Some end
  pub reached : end ≤ length log
  pub expected : next ≡ expected_of (number_of to) first (take end log)

module _ (n : Node ReplicaState) (event : Event) where
  abbrev pub ClientIsTold : Agreement → ℕ → List Record → What → NodeId → Type 0
  ClientIsTold a shard log (whats.Ack number position) to = IsPlacedRecord a shard log (number_of to) number position
  ClientIsTold a shard log (whats.Fate next) to = IsNextAfter n event a shard log to next
  ClientIsTold a shard log _ to = Unit {0}

  -- it stays true with longer logs, and where ends and places stay
  told_more : (a b : Agreement) (shard : ℕ) (log longer : List Record) → ((end : ℕ) → gone_end a shard ≡ Some end → gone_end b shard ≡ Some end)
      → ((local position : ℕ) → placed a shard local ≡ Some position → placed b shard local ≡ Some position) → IsPrefix log longer
      → (what : What) (to : NodeId)
      → ClientIsTold a shard log what to → ClientIsTold b shard longer what to
  told_more a b shard log longer ends places p (whats.Ack number position) to is = record {
    local = is.local;
    body = is.body;
    place = places is.local position is.place;
    at = index_stays log longer is.local (records.Data (number_of to) number is.body) p is.at;
  }
  told_more a b shard log longer ends places p (whats.Fate next) to is =
      let same : take is.end longer ≡ take is.end log = ap (take is.end) p.1 ∙ take-append-le is.end log p.0 is.reached in
      record {
        first = is.first;
        least = is.least;
        comes = is.comes;
        end = is.end;
        gone = ends is.end is.gone;
        reached = length_stays log longer is.end p is.reached;
        expected = is.expected ∙ ap (expected_of (number_of to) is.first) (sym same);
      }
  told_more a b shard log longer ends places p _ to is = tt

  -- ---- a step

  abbrev pub OfNode : Node ReplicaState → Message → Type 0
  OfNode s m = ClientIsTold (agreed_by s.base) (number_of s.base.me) s.own.log m.what m.to

  says : (s : Node ReplicaState) (to : NodeId) (what : What) → Says n event s to what
      → ClientIsTold (agreed_by s.base) (number_of s.base.me) s.own.log what to
  says s to _ (reports _ i at) = tt
  says s _ _ (copies local rec primary at) = tt
  says s from _ (tells_length _ local rec comes) = tt
  says s to _ (promises _ i position rec there why) = tt
  says s from _ (fetched _ local rec comes durable at) = tt
  says s _ _ (confirms local position client number body primary why) = record { local = local; body = body; place = why.place; at = why.at }
  says s from _ (acks_again _ first number body local position comes low stands place) =
      let found = found_at (number_of from) number s.own.log local stands in
      record { local = local; body = found.0; place = place; at = found.1 }
  says s from _ (acks_fate _ least next local position why below stands place) =
      let found = found_at (number_of from) least s.own.log local stands in
      record { local = local; body = found.0; place = place; at = found.1 }
  says s from _ (fates _ least next why above) = record {
    first = why.first;
    least = least;
    comes = why.comes;
    end = why.end;
    gone = why.gone;
    reached = why.reached;
    expected = why.expected;
  }

  -- an entry more
  agreed_next : (b : Base) (entry : Entry) → agreed_by (knowing entry b) ≡ applied (agreed_by b) entry
  agreed_next b entry = applied_all_push (agreement_from (first_of b.cfg.rounds b.cfg.table)) b.known entry

  placed_next : (a : Agreement) (entry : Entry) (shard local position : ℕ) → placed a shard local ≡ Some position
      → placed (applied a entry) shard local ≡ Some position
  placed_next a entry shard local position at =
      let more = covered_applied a entry in
      ap (λ os. index_of os shard local) more.1 ∙ (index_of_append a.covered more.0 shard local ∙ option_or_some _ _ position at)

  learned : (s : Node ReplicaState) (entry : Entry) (m : Message) → OfNode s m
      → ClientIsTold (agreed_by (knowing entry s.base)) (number_of s.base.me) s.own.log m.what m.to
  learned s entry m is =
      let shard = number_of s.base.me in
      let a = agreed_by s.base in
      subst (λ (b : Agreement). ClientIsTold b shard s.own.log m.what m.to) (sym (agreed_next s.base entry))
      (told_more a (applied a entry) shard s.own.log s.own.log (λ end at. gone_end_applied_all a (entry ∷ []) shard end at)
      (placed_next a entry shard) (begins_itself s.own.log) m.what m.to is)

  grows : (s : Node ReplicaState) (item : Item) (own : ReplicaState) → Stores n event s item own → IsPrefix s.own.log own.log
  grows s _ _ (appends from first number body comes there low room expected) = begins_more s.own.log _
  grows s _ _ (copied from rec comes room) = begins_more s.own.log _
  grows s _ _ (fills from wanted comes there short) = begins_more s.own.log _

  keeps : (s : Node ReplicaState) (own : ReplicaState) → Changes n event s own → IsPrefix s.own.log own.log
  keeps s _ (holds from len comes) = begins_itself s.own.log
  keeps s _ (covers before entry learned) = begins_itself s.own.log
  keeps s _ (cuts first why) = begins_itself s.own.log
  keeps s _ (promises_on durable primary free) = begins_itself s.own.log

  longer : (s : Node ReplicaState) (log : List Record) (m : Message) → IsPrefix s.own.log log → OfNode s m
      → ClientIsTold (agreed_by s.base) (number_of s.base.me) log m.what m.to
  longer s log m p is =
      told_more (agreed_by s.base) (agreed_by s.base) (number_of s.base.me) s.own.log log (λ end at. at) (λ local position at. at) p m.what m.to is

  pub step_tells : Tells OfNode (replica_step n event)
  step_tells =
      replicas.walk (Tells OfNode) n event
      (telling replicas.places replicas.learns OfNode n event
      (record {
        asks = λ s to why. tt;
        says = says;
        learns = λ s entry m why is. learned s entry m is;
        sees = λ s count m is. is;
        ticks = λ s m is. is;
        stores = λ s item own m why is. longer s own.log m (grows s item own why) is;
        changes = λ s own m why is. longer s own.log m (keeps s own why) is;
      }))

-- ---- every run

-- what a replica's step tells clients is so of its log and of what it knows then
module _ (cfg : Config) (valid : IsValidConfig cfg) (shard : ℕ) (side : Side) (e : HistoryEntry) (past : Past) (run : IsPastOf cfg (e ∷ past))
    (own : same_node e.node (nodes.Shard shard side) ≡ true) where
  abbrev node : NodeId
  node = nodes.Shard shard side

  abbrev was : Node ReplicaState
  was = after replicas cfg node past

  abbrev left : Node ReplicaState
  left = (replica_step was e.event).state

  here : IsNodeOf cfg node
  here = subst (IsNodeOf cfg) (same_node_is e.node node own) run.0.within

  left_is : after replicas cfg node (e ∷ past) ≡ left
  left_is = own_state replicas cfg node e past valid run own

  named : IsNamed cfg node left
  named = subst (IsNamed cfg node) left_is (states_named replicas cfg valid (e ∷ past) run node refl here)

  agreed_is : agreed_by left.base ≡ agreed_at cfg node (e ∷ past)
  agreed_is =
      let known = ap (λ s. s.base.known) (sym left_is) ∙ known_is replicas replica_known cfg valid (e ∷ past) run node refl here in
      ap (λ c. agreed_after c left.base.known) named.0 ∙ ap (agreed_after cfg) known

  pub sends_tell : AllByRecursion
      (λ (m : Message). ClientIsTold was e.event (agreed_at cfg node (e ∷ past)) shard (log_at cfg shard side (e ∷ past)) m.what m.to)
      (replicas.step was e.event).sends
  sends_tell =
      let sends = (replicas.step was e.event).sends in
      let log = ap (λ s. s.own.log) (sym left_is) ∙ log_is cfg valid (e ∷ past) run node refl here in
      subst (λ l. AllByRecursion (λ (m : Message). ClientIsTold was e.event (agreed_at cfg node (e ∷ past)) shard l m.what m.to) sends) log
      (subst (λ a. AllByRecursion (λ (m : Message). ClientIsTold was e.event a shard left.own.log m.what m.to) sends) agreed_is
      (subst (λ me. AllByRecursion (λ (m : Message). ClientIsTold was e.event (agreed_by left.base) (number_of me) left.own.log m.what m.to) sends) named.1
      (step_tells was e.event)))
