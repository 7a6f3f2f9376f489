-- What is good of a sequencer: what its attempt wishes for and was told, and the last votes of its acceptors.
use Rattle.std.proofs.Common.{ℕ, ◌==◌, nat_lt, Option, Some, None, subst}
use Rattle.std.proofs.lemmas.Bool.{eqb-true}
use Rattle.majority.specs.Acceptors.{AcceptorState, with_promise, with_vote}
use Rattle.majority.specs.Proposers.{greater_report, value_of_report}
use Rattle.net_model.specs.Pasts.{Past}
use Rattle.node_rules.proofs.Lists.{on_test}
use Rattle.seq_node.specs.States.{SlotAttempt, SequencerState, acceptor_at}
use Rattle.runs.specs.Names.{Config, Entry, Item}
use Rattle.runs.specs.Names.items
use Rattle.safety_frame.specs.StableItems.{after_item}
use Rattle.safety_logs.specs.Cuts.{IsGoodAt, IsGoodItem}

module _ (cfg : Config) (past : Past) where
  -- a vote that is told or kept
  abbrev pub MayBeGood : ℕ → Option (ℕ × Entry) → Type 0
  MayBeGood slot None = Unit {0}
  MayBeGood slot (Some vote) = IsGoodAt cfg past slot vote.1

  -- its attempt, in what it wishes for and was told
  abbrev pub AttemptIsGood : Option SlotAttempt → Type 0
  AttemptIsGood None = Unit {0}
  AttemptIsGood (Some a) = IsGoodAt cfg past a.slot a.attempt.wish × MayBeGood a.slot a.attempt.reported

  abbrev pub AcceptorsAreGood : SequencerState → Type 0
  AcceptorsAreGood s = (slot : ℕ) → MayBeGood slot (acceptor_at s slot).accepted

  pub greater_good : (slot : ℕ) (p q : Option (ℕ × Entry)) → MayBeGood slot p → MayBeGood slot q → MayBeGood slot (greater_report p q)
  greater_good slot None q one other = other
  greater_good slot (Some p) None one other = one
  greater_good slot (Some p) (Some q) one other = on_test (MayBeGood slot) (nat_lt p.0 q.0) (Some q) (Some p) (λ _. other) (λ _. one)

  pub reported_good : (slot : ℕ) (vote : Option (ℕ × Entry)) (wish : Entry) → MayBeGood slot vote → IsGoodAt cfg past slot wish
      → IsGoodAt cfg past slot (value_of_report vote wish)
  reported_good slot None wish told wished = wished
  reported_good slot (Some vote) wish told wished = told

  -- an acceptor with an item more
  pub acceptor_good : (slot : ℕ) (own : AcceptorState Entry) (item : Item) → MayBeGood slot own.accepted → IsGoodItem cfg past item
      → MayBeGood slot (after_item slot own item).accepted
  acceptor_good slot own (items.Promised at ballot) was is =
      on_test (λ (a : AcceptorState Entry). MayBeGood slot a.accepted) (at == slot) (with_promise ballot own) own (λ _. was) (λ _. was)
  acceptor_good slot own (items.Accepted at ballot entry) was is =
      on_test (λ (a : AcceptorState Entry). MayBeGood slot a.accepted) (at == slot) (with_vote ballot entry own) own
      (λ here. subst (λ (k : ℕ). IsGoodAt cfg past k entry) (eqb-true at slot here) is) (λ _. was)
  acceptor_good slot own _ was is = was
