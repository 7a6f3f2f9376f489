-- A frame that brings a message whole was sent whole, by a step that sent just that message.
use Rattle.std.proofs.Common.{◌≡◌, ℕ, zero, suc, ◌<◌, ◌-◌, inl, inr, List, [], ◌∷◌, ◌++◌, take, drop, length, get_or, sym, ap, ◌∙◌, subst, arith}
use Rattle.std.specs.Prelude.{Contains}
use Rattle.std.specs.List.{AllByRecursion}
use Rattle.std.proofs.lemmas.List.{append-nil, take-append-drop, length-drop}
use Rattle.std.proofs.lemmas.List.Elements.{Contains-append_cases}
use Rattle.node_links.specs.declared.frame.Frame.{Frame}
use Rattle.msg_wire.specs.Messages.{message_spelling}
use Rattle.msg_wire.specs.Valid.{IsValidMessage}
use Rattle.msg_wire.proofs.MessageLaws.{messages_apart}
use Rattle.net_model.specs.declared.journal.Stamped.{Stamped}
use Rattle.net_model.specs.Journals.{all_steps}
use Rattle.net_model.specs.Names.{Message}
use Rattle.net_model.specs.Sources.{IsSentBelow}
use Rattle.frame_sources.proofs.Carrying.{here, behind}
use Rattle.frame_sources.specs.Frames.{IsOfStep, NodeSteps, own_steps, TookReceived, ReceivedOfSteps, ReceivedMeansSent}

-- a spelling without its last byte is no spelling
cut_is_none : (m n : Message) → IsValidMessage m → IsValidMessage n → take (length (message_spelling m) - 1) (message_spelling m) ≡ message_spelling n
    → 0 < length (message_spelling m) → ⊥
cut_is_none m n valid_m valid_n same some =
    let k = length (message_spelling m) - 1 in
    let rest = drop k (message_spelling m) in
    let whole : message_spelling n ++ rest ≡ message_spelling m ++ [] =
    ap (λ front. front ++ rest) (sym same) ∙ take-append-drop k (message_spelling m) ∙ sym (append-nil (message_spelling m)) in
    let apart = messages_apart n m rest [] valid_n valid_m whole in
    let none : length rest ≡ 0 = ap length apart.1 in
    omega (arith, none, some, length-drop k (message_spelling m))

same_message : (m n : Message) → IsValidMessage m → IsValidMessage n → message_spelling m ≡ message_spelling n → m ≡ n
same_message m n valid_m valid_n same = (messages_apart m n [] [] valid_m valid_n (ap (λ bytes. bytes ++ []) same)).0

some_bytes : (m : Message) → 0 < length (message_spelling m)
some_bytes m = omega arith

-- the step that a frame is of sent the message that it brings
sent_by : (steps : List Stamped) (f : Frame) (m : Message) (stamp : ℕ) → IsOfStep steps f → IsValidMessage m → f.bytes ≡ message_spelling m
    → f.stamp < stamp → IsSentBelow steps m stamp
sent_by steps f m stamp of valid whole below =
    elim of.carried [
      | inl carried ↦
          let same = same_message of.message m of.valid valid (sym (ap (λ (g : Frame). g.bytes) carried) ∙ whole) in
          record {
            by = of.by;
            there = of.there;
            below = subst (λ n. n < stamp) (ap (λ (g : Frame). g.stamp) carried) below;
            sends = subst (Contains of.by.entry.sends) same of.sends;
          }
      | inr carried ↦
          absurd (cut_is_none of.message m of.valid valid (sym (ap (λ (g : Frame). g.bytes) carried) ∙ whole) (some_bytes of.message))
    ]

-- ---- several nodes

node_of : (all : List NodeSteps) (x : Stamped) → Contains (all_steps (own_steps all)) x → (n : NodeSteps) × Contains all n × Contains n.own.steps x
node_of [] x there = absurd (omega (arith, there.1))
node_of (n ∷ all) x there =
    elim (Contains-append_cases n.own.steps (all_steps (own_steps all)) x there) [
      | inl own ↦ (n, here n all, own)
      | inr later ↦ let found = node_of all x later in (found.0, behind n all found.0 found.1, found.2)
    ]

holds_at : {X : Type 0} → (P : X → Type 0) (xs : List X) (x : X) (i : ℕ) → AllByRecursion P xs → i < length xs → get_or xs i x ≡ x → P x
holds_at P [] x i each within at = absurd (omega (arith, within))
holds_at P (y ∷ ys) x zero each within at = subst P at each.0
holds_at P (y ∷ ys) x (suc i) each within at = holds_at P ys x i each.1 (omega (arith, within)) at

all_of : {X : Type 0} → (P : X → Type 0) (xs : List X) (x : X) → AllByRecursion P xs → Contains xs x → P x
all_of P xs x each there = holds_at P xs x there.0 each there.1 there.2

pub received_means_sent : ReceivedMeansSent
received_means_sent all took received x message there takes =
    let node = node_of all x there in
    let came = all_of TookReceived all node.0 took node.1 x message node.2 takes in
    let of = all_of (ReceivedOfSteps (own_steps all)) all node.0 received node.1 came.frame came.there in
    sent_by (all_steps (own_steps all)) came.frame message x.stamp of came.valid came.whole came.below
