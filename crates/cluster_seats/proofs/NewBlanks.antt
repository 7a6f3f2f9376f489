-- Blanks of nodes, and of one node more.
use Rattle.std.proofs.Common.{◌≡◌, ℕ, suc, ◌+◌, ◌<◌, List, [], ◌∷◌, ◌++◌, length, get_or, map, take, refl, sym, ap, ◌∙◌, subst, arith}
use Rattle.std.proofs.Math.Seq.{take-suc}
use Rattle.std.proofs.lemmas.List.{map-append}
use Rattle.msg_wire.specs.declared.config.Config.{Config}
use Rattle.net_model.specs.declared.model.NodeModel.{Ghosts as NodeRules}
use Rattle.net_model.specs.Names.{NodeId}
use Rattle.net_model.proofs.Merging.{all_append}
use Rattle.cluster_seats.specs.declared.blank.Blank.{Blank}
use Rattle.cluster_seats.specs.Blanks.{IsBlankOf, all_faults, new_faults}
use Rattle.cluster_seats.specs.inside.Midway.{AreFirstBlanks}

module _ {N : Type 0} (rules : NodeRules N) (cfg : Config) (seed : ℕ) (nodes : List NodeId) (count : ℕ) where
  pub no_blanks : AreFirstBlanks rules cfg seed nodes count 0 []
  no_blanks = record { start = tt; cfgs = tt; names = refl; faults = refl }

  one_more : (place : ℕ) (other : NodeId) (blanks : List (Blank N)) (blank : Blank N) → place < length nodes
      → IsBlankOf rules cfg (get_or nodes place other) (new_faults seed place count) blank → AreFirstBlanks rules cfg seed nodes count place blanks
      → AreFirstBlanks rules cfg seed nodes count (suc place) (blanks ++ blank ∷ [])
  one_more place other blanks blank below of first = record {
    start = all_append _ blanks (blank ∷ []) first.start (of.start, tt);
    cfgs = all_append (λ (b : Blank N). b.cfg ≡ cfg) blanks (blank ∷ []) first.cfgs (of.cfg_is, tt);
    names = map-append _ blanks (blank ∷ []) ∙ ap (λ l. l ++ blank.name ∷ []) first.names ∙ ap (λ n. take place nodes ++ n ∷ []) of.name_is
        ∙ sym (take-suc nodes place other below);
    faults = map-append _ blanks (blank ∷ []) ∙ ap (λ l. l ++ blank.faults.items ∷ []) first.faults
        ∙ ap (λ f. all_faults seed count place ++ f ∷ []) of.faults_are;
  }

  pub one_blank : (place : ℕ) (other : NodeId) (blanks more : List (Blank N)) (blank : Blank N) → place < length nodes → more ≡ blanks ++ blank ∷ []
      → IsBlankOf rules cfg (get_or nodes place other) (new_faults seed place count) blank → AreFirstBlanks rules cfg seed nodes count place blanks
      → AreFirstBlanks rules cfg seed nodes count (place + 1) more
  one_blank place other blanks more blank below pushed of first =
      let next : suc place ≡ place + 1 = omega arith in
      subst (λ n. AreFirstBlanks rules cfg seed nodes count n more) next
      (subst (AreFirstBlanks rules cfg seed nodes count (suc place)) (sym pushed) (one_more place other blanks blank below of first))
