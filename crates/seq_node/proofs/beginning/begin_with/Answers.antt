use Rattle.std.proofs.Common.{◌≡◌, ℕ, Option, Some, ap, sym, subst, ◌∙◌}
use Rattle.std.specs.Option.{option_map_or}
use Rattle.node_rules.specs.Nodes.{Node, with_own}
use Rattle.node_rules.specs.Turns.{started}
use Rattle.seq_node.specs.States.{SequencerState}
use Rattle.seq_node.specs.Attempts.{attempt_stands, ballot_below, new_ballot}
use Rattle.seq_node.specs.Sound.{IsSequencer}
use Rattle.seq_node.proofs.UnderWays.{own_number, goes_begun}
use Rattle.seq_node.proofs.beginning.begin_with.Goals as goal

pub stand-requires : goal.stand-requires
stand-requires c = own_number c.args.seq.now c.requires.under_way

pub alone-requires : goal.alone-requires
alone-requires c =
    let n : Node SequencerState = c.args.seq.now in
    let stands : ℕ → ℕ → Node SequencerState = λ slot ballot. with_own (attempt_stands slot ballot c.args.value.now (started n)) n in
    let below : ballot_below (new_ballot _ (started n)) ≡ Some c.in-Some.ballot =
    ap (λ (slot : ℕ). ballot_below (new_ballot slot (started n))) (sym c.count-slot.ensures.count) ∙ sym c.in_ok-ballot.ensures.ballot ∙ c.in-Some.is in
    let made : c.stand.new.seq ≡ stands _ c.in-Some.ballot =
    c.in_ok-ballot.ensures.state
    ∙ ap (λ (o : Option ℕ). option_map_or (stands c.count-slot.result) o n) c.in-Some.is
    ∙ ap (λ (slot : ℕ). stands slot c.in-Some.ballot) c.count-slot.ensures.count in
    subst IsSequencer (sym made) (goes_begun n c.in-Some.ballot c.args.value.now c.requires.under_way c.requires.slot c.requires.valid below)
