-- A step of any kind of node by whether an entry is told: by the rules for it where one is, and else knowing that none is.
use Rattle.std.proofs.Common.{◌≡◌, ◌∙◌, ◌⊎◌, ℕ, Bool, true, false, refl, sym, ap, subst, inl, inr}
use Rattle.std.proofs.lemmas.Bool.{false≢true}
use Rattle.cut_core.specs.Agreements.{Agreement}
use Rattle.msg_wire.specs.Heeded.{is_heeded}
use Rattle.node_rules.specs.Names.{NodeId, Entry, Message, What, Event}
use Rattle.node_rules.specs.Names.whats
use Rattle.node_rules.specs.Names.events
use Rattle.node_rules.specs.Nodes.{Node}
use Rattle.node_rules.specs.Turns.{Turn, started}
use Rattle.node_rules.specs.Rules.{heed, decided}
use Rattle.node_rules.proofs.Lists.{on_test}
use Rattle.node_rules.proofs.Places.{Comes, IsTold}
use Rattle.safety_logs.proofs.ReplicaSteps.{is_decided, tells_entry}

module _ {S : Type 0} (n : Node S) (event : Event) where
  abbrev pub IsUntold : Type 0
  IsUntold = (s : Node S) (entry : Entry) → IsTold n event s entry → ⊥

  pub untold : tells_entry event ≡ false → IsUntold
  untold other s entry told =
      let says : is_decided told.comes.message.what ≡ true = ap is_decided told.comes.says in
      false≢true (sym other ∙ (ap tells_entry told.comes.same ∙ says))

  -- the rule for a learned entry, what a step ends with, and the whole step
  pub record OnTold (rule : Agreement → Entry → Turn S → Turn S) (ends : Turn S → Turn S) (whole : Turn S) (W : Turn S → Type 0) : Type 0 where
    pub starts : W (started n)
    pub decides : (from : NodeId) (slot count : ℕ) (entry : Entry) → Comes n event from (whats.Decided slot count entry)
        → W (decided rule from slot count entry (started n))
    pub ending : (t : Turn S) → W t → W (ends t)
    pub others : IsUntold → W whole

  module _ (rule : Agreement → Entry → Turn S → Turn S) (hear : NodeId → What → Turn S → Turn S) (ends : Turn S → Turn S) (whole : Turn S)
      (W : Turn S → Type 0) (on : OnTold rule ends whole W)
      (hears : (from : NodeId) (slot count : ℕ) (entry : Entry)
      → hear from (whats.Decided slot count entry) (started n) ≡ decided rule from slot count entry (started n)) where
    heard : (from : NodeId) (what : What) → is_decided what ≡ true → Comes n event from what → W (hear from what (started n))
    heard from (whats.Decided slot count entry) is comes = subst W (sym (hears from slot count entry)) (on.decides from slot count entry comes)
    heard from _ is comes = absurd (cc)

    told_or_not : (m : Message) (b : Bool) → event ≡ events.Deliver m → is_decided m.what ≡ b → W (ends (heed hear m (started n))) ⊎ (b ≡ false)
    told_or_not m true same is =
        inl (on.ending (heed hear m (started n))
        (on_test W (is_heeded n.base.cfg n.base.me m) (hear m.from m.what (started n)) (started n)
        (λ heeded. heard m.from m.what is (record { message = m; same = same; by = refl; says = refl; heeded = heeded })) (λ _. on.starts)))
    told_or_not m false same is = inr refl

    -- where a message is delivered
    pub delivered : (m : Message) → event ≡ events.Deliver m → whole ≡ ends (heed hear m (started n)) → W whole
    delivered m same is =
        elim (told_or_not m (is_decided m.what) same refl) [
          | inl told ↦ subst W (sym is) told
          | inr other ↦ on.others (untold (ap tells_entry same ∙ other))
        ]
