-- Nodes at their start, which lack their vaults and their links alone.
use Rattle.std.specs.Prelude.{◌≡◌, ℕ, zero, suc, List, [], ◌∷◌, ◌++◌, length, map, None, false}
use Rattle.std.specs.List.{AllByRecursion}
use Rattle.link_faults.specs.Faults.{Holding, words_of}
use Rattle.msg_wire.specs.declared.config.Config.{Config}
use Rattle.msg_wire.specs.Valid.{IsValidConfig, IsNodeOf}
use Rattle.net_model.specs.declared.model.NodeModel.{Ghosts as NodeRules}
use Rattle.net_model.specs.Names.{NodeId}
use Rattle.cluster_seats.specs.declared.blank.Blank.{Blank}

-- the faults of the link from the node at one place to the one at another: its words begin, and nothing is held
abbrev pub new_holding : ℕ → ℕ → ℕ → Holding
new_holding seed from to = record { words = words_of seed from to; held = None }

-- of the links from one node to so many, in their order
abbrev pub new_faults : ℕ → ℕ → ℕ → List Holding
new_faults seed from zero = []
new_faults seed from (suc to) = new_faults seed from to ++ new_holding seed from to ∷ []

-- of the links from so many nodes
abbrev pub all_faults : ℕ → ℕ → ℕ → List (List Holding)
all_faults seed count zero = []
all_faults seed count (suc from) = all_faults seed count from ++ new_faults seed from count ∷ []

module _ {N : Type 0} where
  -- a node of its cluster at its start
  pub record IsBlank (rules : NodeRules N) (blank : Blank N) : Type 0 where
    pub valid : IsValidConfig blank.cfg
    pub here : IsNodeOf blank.cfg blank.name
    pub fresh : blank.node ≡ rules.fresh blank.cfg blank.name
    pub unspent : rules.is_spent blank.node ≡ false

  -- the node with this name, with these faults of its links
  pub record IsBlankOf (rules : NodeRules N) (cfg : Config) (name : NodeId) (faults : List Holding) (blank : Blank N) : Type 0 where
    pub start : IsBlank rules blank
    pub cfg_is : blank.cfg ≡ cfg
    pub name_is : blank.name ≡ name
    pub faults_are : blank.faults.items ≡ faults

  -- these nodes of a cluster in their order, with the faults of the links between them by this seed
  pub record AreBlanks (rules : NodeRules N) (cfg : Config) (seed : ℕ) (nodes : List NodeId) (blanks : List (Blank N)) : Type 0 where
    pub start : AllByRecursion (IsBlank rules) blanks
    pub cfgs : AllByRecursion (λ (blank : Blank N). blank.cfg ≡ cfg) blanks
    pub names : map (λ (blank : Blank N). blank.name) blanks ≡ nodes
    pub faults : map (λ (blank : Blank N). blank.faults.items) blanks ≡ all_faults seed (length nodes) (length nodes)
