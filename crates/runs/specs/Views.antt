-- What a consumer shows of itself after its first marks.
use Rattle.std.specs.Prelude.{ℕ, List, length, take}
use Rattle.net_model.specs.Pasts.{Past, marks_of}
use Rattle.runs.specs.Names.{Config, Mark}
use Rattle.runs.specs.Names.nodes
use Rattle.runs.specs.Marks.{confirmations, notices, applied_by}
use Rattle.runs.specs.Outputs.{shown_after}

-- noticed removals, applied and confirmed records, and the application's state as text
pub record View : Type 0 where
  pub epoch : ℕ
  pub applied : ℕ
  pub confirmed : ℕ
  pub text : List ℕ

abbrev pub view_of : Config → List Mark → View
view_of cfg shown = record {
  epoch = length (notices shown);
  applied = length (applied_by shown);
  confirmed = length (confirmations shown);
  text = shown_after cfg (applied_by shown);
}

-- after so many of the consumer's marks
abbrev pub view_after : Config → ℕ → Past → ℕ → View
view_after cfg consumer past ops = view_of cfg (take ops (marks_of (nodes.Consumer consumer) past))
