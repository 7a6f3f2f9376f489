-- A node that isn't the cluster's takes no step: it stays as it was at its start, and shows nothing.
use Rattle.std.proofs.Common.{◌≡◌, ◌∙◌, false, [], ◌∷◌, refl, subst}
use Rattle.std.proofs.lemmas.Bool.{false_from_ne_true}
use Rattle.msg_wire.specs.Nodes.{same_node}
use Rattle.msg_wire.specs.Valid.{IsNodeOf}
use Rattle.net_model.specs.Pasts.{Past, marks_of}
use Rattle.runs.specs.Names.{NodeId, Config, HistoryEntry}
use Rattle.runs.specs.Runs.{IsPastOf}
use Rattle.runs.proofs.SameNodes.{same_node_is}
use Rattle.safety_frame.proofs.NodeKinds.{Kind, after}
use Rattle.safety_frame.proofs.Pasts.{other_state, other_shown}

module _ (cfg : Config) (node : NodeId) (out : IsNodeOf cfg node → ⊥) where
  pub strangers : (e : HistoryEntry) (past : Past) → IsPastOf cfg (e ∷ past) → same_node e.node node ≡ false
  strangers e past run = false_from_ne_true (same_node e.node node) (λ own. out (subst (IsNodeOf cfg) (same_node_is e.node node own) run.0.within))

  pub untouched : {S : Type 0} (k : Kind S) (past : Past) → IsPastOf cfg past → after k cfg node past ≡ k.fresh cfg node
  untouched k [] run = refl
  untouched k (e ∷ past) run = other_state k cfg node e past (strangers e past run) ∙ untouched k past run.1

  pub shows_nothing : (past : Past) → IsPastOf cfg past → marks_of node past ≡ []
  shows_nothing [] run = refl
  shows_nothing (e ∷ past) run = other_shown node e past (strangers e past run) ∙ shows_nothing past run.1
