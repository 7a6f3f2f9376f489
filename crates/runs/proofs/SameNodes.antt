-- Nodes with one name are one: the lemmas of net_model, under this crate's name too.
pub use Rattle.net_model.proofs.SameNodes.{same_node_is, node_itself}
