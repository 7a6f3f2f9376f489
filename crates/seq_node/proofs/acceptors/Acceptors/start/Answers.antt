use Rattle.std.proofs.Common.{◌≡◌, ℕ, ◌+◌, Some, None, option_map, ap, subst, ◌∙◌}
use Rattle.majority.specs.Acceptors.{AcceptorState}
use Rattle.majority.specs.Proposers.{Attempt, ballot_for, attempt_started, IsStartError}
use Rattle.node_rules.specs.Names.{Entry}
use Rattle.seq_node.specs.States.{reaching}
use Rattle.seq_node.specs.Attempts.{ballot_below}
use Rattle.seq_node.proofs.Ballots.{reached, started_below, not_started}
use Rattle.seq_node.proofs.acceptors.Acceptors.start.Goals as goal

pub returns-in-Ok-clause-attempt : goal.returns-in-Ok-clause-attempt
returns-in-Ok-clause-attempt c =
    let make : ℕ → Attempt Entry = λ ballot. attempt_started c.args.replica c.args.seqs ballot c.args.value in
    let seen = c.self-2.view_is in
    let grown = c.in_ok-reach.ensures in
    let items : c.self-2.inside.items.items ≡ reaching (c.args.slot + 1) c.args.self.now = cc in
    subst (λ (acceptor : AcceptorState Entry). Some c.in-Ok.attempt ≡ option_map make (ballot_below (ballot_for c.args.replica c.args.seqs c.args.highest acceptor)))
    (reached c.args.self.now c.self-2.inside.items.items c.args.slot c.index_mut.result.now items c.index_mut.ensures.value)
    (ap (λ (attempt : Attempt Entry). Some attempt) c.in-Ok.ensures.attempt ∙ started_below make _ c.in-Ok.ensures.below)

pub returns-in-Err-NoBallot-clause-attempt : goal.returns-in-Err-NoBallot-clause-attempt
returns-in-Err-NoBallot-clause-attempt c =
    let make : ℕ → Attempt Entry = λ ballot. attempt_started c.args.replica c.args.seqs ballot c.args.value in
    let seen = c.self-2.view_is in
    let grown = c.in_ok-reach.ensures in
    let items : c.self-2.inside.items.items ≡ reaching (c.args.slot + 1) c.args.self.now = cc in
    let ballot : ℕ = ballot_for c.args.replica c.args.seqs c.args.highest c.index_mut.result.now in
    subst (λ (acceptor : AcceptorState Entry). None ≡ option_map make (ballot_below (ballot_for c.args.replica c.args.seqs c.args.highest acceptor)))
    (reached c.args.self.now c.self-2.inside.items.items c.args.slot c.index_mut.result.now items c.index_mut.ensures.value)
    (not_started make ballot (subst (IsStartError c.args.highest ballot) c.in-Err-NoBallot.field-0-is c.in-Err-NoBallot.ensures.cause).1)
