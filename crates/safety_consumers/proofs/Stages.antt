-- One more law over the stages of a consumer's step, beside one that holds there already; it looks at no message.
use Rattle.node_rules.specs.Names.{Event}
use Rattle.node_rules.specs.Nodes.{Node}
use Rattle.node_rules.specs.Turns.{Turn}
use Rattle.consumer_node.specs.Apps.{Meaning}
use Rattle.consumer_node.specs.States.{ConsumerState}
use Rattle.consumer_node.proofs.Places.{Stage, StageSites, StagedSites, Unsent}

module _ {A : Type 0} (app : Meaning A) (W V : Stage → Turn (ConsumerState A) → Type 0) (n : Node (ConsumerState A)) (event : Event) where
  abbrev pub Both : Stage → Turn (ConsumerState A) → Type 0
  Both stage t = W stage t × Unsent V stage t

  pub both_sites : StagedSites app W n event → StageSites app Both (Unsent V) n event → StagedSites app Both n event
  both_sites k s = record {
    asks = λ t to why w. (k.asks t to why w.0, w.1);
    says = λ t to what why w. (k.says t to what why w.0, w.1);
    sees = λ t from slot count entry comes w. (k.sees t from slot count entry comes w.0, w.1);
    ticks = λ t comes w. (k.ticks t comes w.0, w.1);
    rules = record {
      holds = λ t from local rec comes w. (k.rules.holds t from local rec comes w.0, s.holds t from local rec comes w);
      learns = λ t entry told w. (k.rules.learns t entry told w.0, s.learns t entry told w);
      notices = λ t shard first w. (k.rules.notices t shard first w.0, s.notices t shard first w);
      undoes = λ t first past w. (k.rules.undoes t first past w.0, s.undoes t first past w);
      undoes_none = λ t first none w. (k.rules.undoes_none t first none w.0, s.undoes_none t first none w);
      moves_none = λ t effect stays w. (k.rules.moves_none t effect stays w.0, s.moves_none t effect stays w);
      closes = λ t w. (k.rules.closes t w.0, s.closes t w);
      applies = λ t rec held w. (k.rules.applies t rec held w.0, s.applies t rec held w);
      leaves_none = λ t none w. (k.rules.leaves_none t none w.0, s.leaves_none t none w);
      confirms = λ t rec o why w. (k.rules.confirms t rec o why w.0, s.confirms t rec o why w);
      gives = λ t output some w. (k.rules.gives t output some w.0, s.gives t output some w);
      gives_none = λ t output none w. (k.rules.gives_none t output none w.0, s.gives_none t output none w);
      restarts = λ same w. (k.rules.restarts same w.0, s.restarts same w);
    };
  }
