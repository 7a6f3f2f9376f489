-- Steps are in order by stamp and then by node: of two one comes first, and two lists in order are so when put into one.
use Rattle.std.proofs.Common.{◌≡◌, ℕ, ◌<◌, ◌≤◌, Bool, true, false, List, [], ◌∷◌, refl, arith}
use Rattle.std.specs.Prelude.{◌==◌, nat_lt, nat_le, ◌&&◌, ◌||◌, if◌then◌else◌}
use Rattle.std.specs.List.{AllByRecursion}
use Rattle.std.proofs.lemmas.Bool.Decides.{nat_tests}
use Rattle.msg_wire.specs.Nodes.{number_of}
use Rattle.net_model.specs.declared.journal.Stamped.{Stamped}
use Rattle.net_model.specs.Names.{NodeId}
use Rattle.net_model.specs.Merges.{kind_of, side_of, is_no_later_node, comes_first, IsInOrder, put_into, interleaved}
use Rattle.net_model.proofs.Interleaving.{all_interleaved}

-- ---- by a number, and at one number by another test

abbrev by_two : ℕ → ℕ → Bool → Bool
by_two a b rest = nat_lt a b || ((a == b) && rest)

total_two : (a b : ℕ) (r s : Bool) → (r ≡ false → s ≡ true) → by_two a b r ≡ false → by_two b a s ≡ true
total_two a b r s h e = grind (arith, nat_tests)

chain_two : (a b c : ℕ) (r s t : Bool) → (r ≡ true → s ≡ true → t ≡ true) → by_two a b r ≡ true → by_two b c s ≡ true → by_two a c t ≡ true
chain_two a b c r s t h e f = grind (arith, nat_tests)

at_most_two : (a b : ℕ) (r : Bool) → by_two a b r ≡ true → a ≤ b
at_most_two a b r e = grind (arith, nat_tests)

total_sides : (a b : ℕ) → nat_le a b ≡ false → nat_le b a ≡ true
total_sides a b e = grind (arith, nat_tests)

chain_sides : (a b c : ℕ) → nat_le a b ≡ true → nat_le b c ≡ true → nat_le a c ≡ true
chain_sides a b c e f = grind (arith, nat_tests)

-- ---- nodes and steps

total_nodes : (a b : NodeId) → is_no_later_node a b ≡ false → is_no_later_node b a ≡ true
total_nodes a b = total_two (kind_of a) (kind_of b) _ _ (total_two (number_of a) (number_of b) _ _ (total_sides (side_of a) (side_of b)))

chain_nodes : (a b c : NodeId) → is_no_later_node a b ≡ true → is_no_later_node b c ≡ true → is_no_later_node a c ≡ true
chain_nodes a b c =
    chain_two (kind_of a) (kind_of b) (kind_of c) _ _ _
    (chain_two (number_of a) (number_of b) (number_of c) _ _ _ (chain_sides (side_of a) (side_of b) (side_of c)))

pub other_first : (x y : Stamped) → comes_first x y ≡ false → comes_first y x ≡ true
other_first x y = total_two x.stamp y.stamp _ _ (total_nodes x.entry.node y.entry.node)

pub first_of_all : (x y z : Stamped) → comes_first x y ≡ true → comes_first y z ≡ true → comes_first x z ≡ true
first_of_all x y z = chain_two x.stamp y.stamp z.stamp _ _ _ (chain_nodes x.entry.node y.entry.node z.entry.node)

pub stamp_no_less : (x y : Stamped) → comes_first x y ≡ true → x.stamp ≤ y.stamp
stamp_no_less x y e = at_most_two x.stamp y.stamp _ e

-- a smaller stamp comes first
pub smaller_first : (x y : Stamped) → x.stamp < y.stamp → comes_first x y ≡ true
smaller_first x y less = grind (arith, nat_tests)

-- ---- two lists in order

abbrev IsFirstOf : Stamped → List Stamped → Type 0
IsFirstOf x = AllByRecursion (λ (y : Stamped). comes_first x y ≡ true)

first_through : (x y : Stamped) (later : List Stamped) → comes_first x y ≡ true → IsFirstOf y later → IsFirstOf x later
first_through x y [] e first = tt
first_through x y (z ∷ later) e first = (first_of_all x y z e first.0, first_through x y later e first.1)

ordered_choice : (b : Bool) (front back : List Stamped) → (b ≡ true → IsInOrder front) → (b ≡ false → IsInOrder back) → IsInOrder (if b then front else back)
ordered_choice true front back f g = f refl
ordered_choice false front back f g = g refl

ordered_put : (x : Stamped) (xs : List Stamped) → IsFirstOf x xs → ((ys : List Stamped) → IsInOrder ys → IsInOrder (interleaved comes_first xs ys))
    → (ys : List Stamped) → IsInOrder ys → IsInOrder (put_into comes_first x (interleaved comes_first xs) ys)
ordered_put x xs first h [] order = (all_interleaved _ comes_first xs [] first tt, h [] tt)
ordered_put x xs first h (y ∷ ys) order =
    ordered_choice (comes_first x y) _ _
    (λ e. (all_interleaved _ comes_first xs (y ∷ ys) first (e, first_through x y ys e order.0), h (y ∷ ys) order))
    (λ e. let f = other_first x y e in
    (all_interleaved _ comes_first (x ∷ xs) ys (f, first_through y x xs f first) order.0, ordered_put x xs first h ys order.1))

pub ordered : (xs ys : List Stamped) → IsInOrder xs → IsInOrder ys → IsInOrder (interleaved comes_first xs ys)
ordered [] ys f g = g
ordered (x ∷ xs) ys f g = ordered_put x xs f.0 (λ zs h. ordered xs zs f.1 h) ys g
