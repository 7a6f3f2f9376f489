-- A sequencer at its start, after a restart, and as the items of its vault give it.
use Rattle.std.specs.Prelude.{ℕ, List}
use Rattle.std.specs.List.{fold}
use Rattle.majority.specs.Acceptors.{AcceptorState, after_prepare, after_accept}
use Rattle.node_rules.specs.Names.{NodeId, Config, Entry, Item}
use Rattle.node_rules.specs.Names.items
use Rattle.node_rules.specs.Nodes.{Node, fresh_base, reset_base, fit_known, with_own}
use Rattle.seq_node.specs.States.{SequencerState, fresh_sequencer, only_acceptors, acceptor_at, with_acceptor}

abbrev pub fresh_node : Config → NodeId → Node SequencerState
fresh_node cfg me = record { base = fresh_base cfg me; own = fresh_sequencer }

-- a slot's acceptor after an item: a ballot below its promise leaves it
abbrev pub fit_acceptor : ℕ → (AcceptorState Entry → AcceptorState Entry) → Node SequencerState → Node SequencerState
fit_acceptor slot change n = with_own (with_acceptor slot (change (acceptor_at n.own slot)) n.own) n

-- one more item of the vault; one that doesn't fit is passed over
abbrev pub fit : Node SequencerState → Item → Node SequencerState
fit n (items.Known entry) = fit_known entry n
fit n (items.Promised slot ballot) = fit_acceptor slot (after_prepare ballot) n
fit n (items.Accepted slot ballot entry) = fit_acceptor slot (after_accept ballot entry) n
fit n _ = n

-- what the items alone give
abbrev pub restart_of : Config → NodeId → List Item → Node SequencerState
restart_of cfg me stored = fold fit (fresh_node cfg me) stored

-- what a restart leaves: the known entries and the acceptors
abbrev pub reset_of : Node SequencerState → Node SequencerState
reset_of n = record { base = reset_base n.base; own = only_acceptors n.own.acceptors }
