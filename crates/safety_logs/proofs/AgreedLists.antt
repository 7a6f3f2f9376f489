-- Known lists in a run begin the agreed list, whose entries are chosen and which grows at its end.
use Rattle.std.proofs.Common.{◌≡◌, ◌∙◌, ℕ, ◌≤◌, List, [], ◌∷◌, ◌++◌, length, take, refl, sym, ap, arith}
use Rattle.std.proofs.lemmas.List.{take-append-le, take_all}
use Rattle.msg_wire.specs.Valid.{IsValidConfig}
use Rattle.net_model.specs.Pasts.{Past}
use Rattle.runs.specs.Names.{NodeId, Config, HistoryEntry}
use Rattle.runs.specs.Names.nodes
use Rattle.runs.specs.Runs.{IsPastOf}
use Rattle.runs.specs.Known.{known_at}
use Rattle.runs.specs.Marks.{IsPrefix}
use Rattle.runs.specs.Chosen.{AreChosen, KnownIsAgreed}
use Rattle.safety_frame.specs.AgreedList.{agreed_list}
use Rattle.safety_frame.proofs.Known.{agreed_is_longest}
use Rattle.safety_frame.proofs.Lists.{begins_on}
use Rattle.safety_frame.proofs.Pasts.{known_grows}
use Rattle.safety_agreement.proofs.KnownLists.{agreed_is_chosen}

-- ---- beginnings of one list

pub shorter : {A : Type 0} (xs ys zs : List A) → IsPrefix xs zs → IsPrefix ys zs → length xs ≤ length ys → IsPrefix xs ys
shorter [] ys zs p q few = (ys, refl)
shorter (x ∷ xs) [] zs p q few = absurd (omega (arith, few))
shorter (x ∷ xs) (y ∷ ys) zs p q few =
    let same : x ∷ (xs ++ p.0) ≡ y ∷ (ys ++ q.0) = sym p.1 ∙ q.1 in
    let head : x ≡ y = cc in
    let tail : xs ++ p.0 ≡ ys ++ q.0 = cc in
    let rest = shorter xs ys (xs ++ p.0) (p.0, refl) (q.0, tail) (omega (arith, few)) in
    (rest.0, ap (λ l. y ∷ l) rest.1 ∙ ap (λ h. h ∷ (xs ++ rest.0)) (sym head))

-- its members up to where the beginning ends
pub same_take : {A : Type 0} (n : ℕ) (xs ys : List A) → IsPrefix xs ys → n ≤ length xs → take n ys ≡ take n xs
same_take n xs ys p within = ap (take n) p.1 ∙ take-append-le n xs p.0 within

pub taken_front : {A : Type 0} (xs ys : List A) → IsPrefix xs ys → take (length xs) ys ≡ xs
taken_front xs ys p = same_take (length xs) xs ys p (omega arith) ∙ take_all (length xs) xs (omega arith)

-- ---- of a run

module _ (cfg : Config) (valid : IsValidConfig cfg) (past : Past) (run : IsPastOf cfg past) where
  -- all known lists begin the agreed one
  pub whole : KnownIsAgreed cfg past
  whole = (agreed_list cfg past, agreed_is_chosen cfg past valid run)

  pub agreed_chosen : AreChosen cfg past (agreed_list cfg past)
  agreed_chosen = (agreed_is_chosen cfg past valid run).chosen

  pub agreed_begins : (node : NodeId) → IsPrefix (known_at cfg node past) (agreed_list cfg past)
  agreed_begins = (agreed_is_chosen cfg past valid run).begins

  pub sequencer_begins : (number : ℕ) → IsPrefix (known_at cfg (nodes.Seq number) past) (agreed_list cfg past)
  sequencer_begins number = agreed_begins (nodes.Seq number)

pub agreed_grows : (cfg : Config) (valid : IsValidConfig cfg) (e : HistoryEntry) (past : Past) → IsPastOf cfg (e ∷ past)
    → IsPrefix (agreed_list cfg past) (agreed_list cfg (e ∷ past))
agreed_grows cfg valid e past run =
    let was = (agreed_is_longest cfg past run.1).was_known in
    let knower : NodeId = nodes.Seq was.0 in
    begins_on (agreed_list cfg past) (known_at cfg knower past) (agreed_list cfg (e ∷ past)) was.1
    (begins_on (known_at cfg knower past) (known_at cfg knower (e ∷ past)) (agreed_list cfg (e ∷ past)) (known_grows cfg knower e past)
    (sequencer_begins cfg valid (e ∷ past) run was.0))
