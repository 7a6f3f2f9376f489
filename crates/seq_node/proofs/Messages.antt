-- What a sequencer says of the entries that it knows stays true as it learns more.
use Rattle.std.proofs.Common.{List, ◌++◌, ◌∷◌, [], ◌∙◌, arith}
use Rattle.std.proofs.lemmas.Bool.{ltb-true}
use Rattle.std.proofs.lemmas.List.{length-append}
use Rattle.std.proofs.lemmas.Option.{slice_get_within}
use Rattle.fix_ante.proofs.Entries.{slice_get_append_left}
use Rattle.node_rules.specs.Names.{NodeId, Entry, What, Event}
use Rattle.node_rules.specs.Names.whats
use Rattle.node_rules.specs.Nodes.{Node}
use Rattle.node_rules.proofs.Telling.{telling}
use Rattle.seq_node.specs.States.{SequencerState}
use Rattle.seq_node.specs.Messages.{IsTrueOf, MessagesAreTrue}
use Rattle.seq_node.proofs.Places.{Says, tells, announces, over, sequencer_places}
use Rattle.seq_node.proofs.Walk.{sequencer_walk}

said : (n : Node SequencerState) (event : Event) (s : Node SequencerState) (to : NodeId) (what : What) → Says n event s to what → IsTrueOf s.base.known what
said n event s to _ (tells _ slot entry why known here) = (ltb-true _ _ known, omega arith, here)
said n event s to _ (announces _ i slot entry at more here) = (omega arith, omega (arith, more), here)
said n event s to _ _ = tt

grows : (known more : List Entry) (what : What) → IsTrueOf known what → IsTrueOf (known ++ more) what
grows known more (whats.Decided slot count entry) before =
    (before.0, omega (arith, before.1, length-append known more), slice_get_append_left known more slot (slice_get_within known slot entry before.2) ∙ before.2)
grows known more _ before = tt

pub messages_are_true : MessagesAreTrue
messages_are_true n event =
    sequencer_walk
    (telling sequencer_places over (λ s m. IsTrueOf s.base.known m.what) n event
    (record {
      asks = λ s to why. tt;
      says = said n event;
      learns = λ s entry m why holds. grows s.base.known (entry ∷ []) m.what holds;
      sees = λ s count m holds. holds;
      ticks = λ s m holds. holds;
      stores = λ s item own m why holds. holds;
      changes = λ s own m why holds. holds;
    }))
