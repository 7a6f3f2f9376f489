-- Names of nodes are text, and no two nodes have one name.
use Rattle.std.proofs.Common.{ℕ, zero, suc, ◌+◌, ◌<◌, List, [], ◌∷◌, arith}
use Rattle.std.specs.Str.{IsAscii, IsUtf8}
use Rattle.std.proofs.lemmas.Str.{IsUtf8-from_ascii}
use Rattle.spec_base.specs.declared.node.NodeId.{NodeId}
use Rattle.spec_base.specs.declared.node.NodeId.TheVariants as nodes
use Rattle.spec_base.specs.declared.node.Side.TheVariants as sides
use Rattle.spec_base.specs.Spelling.{IsValidNode, node_name}

ascii_nil : IsAscii []
ascii_nil i = omega arith

ascii_cons : (a : ℕ) (later : List ℕ) → a < 128 → IsAscii later → IsAscii (a ∷ later)
ascii_cons a later below is zero = below
ascii_cons a later below is (suc i) = is i

two_ascii : (a b : ℕ) → a < 128 → b < 128 → IsAscii (a ∷ b ∷ [])
two_ascii a b first second = ascii_cons a (b ∷ []) first (ascii_cons b [] second ascii_nil)

two_are_text : (a b : ℕ) → a < 128 → b < 128 → IsUtf8 (a ∷ b ∷ [])
two_are_text a b first second = IsUtf8-from_ascii (a ∷ b ∷ []) (two_ascii a b first second)

three_are_text : (a b c : ℕ) → a < 128 → b < 128 → c < 128 → IsUtf8 (a ∷ b ∷ c ∷ [])
three_are_text a b c first second third = IsUtf8-from_ascii (a ∷ b ∷ c ∷ []) (ascii_cons a (b ∷ c ∷ []) first (two_ascii b c second third))

pub name_is_text : (node : NodeId) → IsValidNode node → IsUtf8 (node_name node)
name_is_text (nodes.Seq number) valid = two_are_text 113 (48 + number) (omega arith) (omega (arith, valid))
name_is_text (nodes.Shard number sides.Primary) valid = three_are_text 115 (48 + number) 112 (omega arith) (omega (arith, valid)) (omega arith)
name_is_text (nodes.Shard number sides.Backup) valid = three_are_text 115 (48 + number) 98 (omega arith) (omega (arith, valid)) (omega arith)
name_is_text (nodes.Client number) valid = two_are_text 99 (48 + number) (omega arith) (omega (arith, valid))
name_is_text (nodes.Consumer number) valid = two_are_text 107 (48 + number) (omega arith) (omega (arith, valid))
