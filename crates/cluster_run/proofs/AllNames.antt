-- What holds of each name holds of each node's, and what holds of the nodes' disks and of all other names holds of each.
use Rattle.std.proofs.Common.{◌≡◌, ◌≢◌, ◌⊎◌, inl, inr, ℕ, true, false, List, [], ◌∷◌, Option, refl, sym, ap, ◌∙◌, subst}
use Rattle.std.proofs.Math.Dec.{eqb}
use Rattle.std.proofs.lemmas.Bool.Decides.{eqb_tells}
use Rattle.spec_base.specs.declared.node.NodeId.{NodeId}
use Rattle.spec_base.specs.Spelling.{node_name}
use Rattle.shelf_vaults.specs.Sights.{Sight, TellsBytes, AllTell, AreOn, IsNameOfNone}

-- two names are one, or two
same_list : (x y : ℕ) (a b : List ℕ) → ((eqb x y ≡ true) × (x ≡ y)) ⊎ ((eqb x y ≡ false) × (x ≢ y)) → (a ≡ b) ⊎ (a ≢ b)
    → ((x ∷ a) ≡ (y ∷ b)) ⊎ ((x ∷ a) ≢ (y ∷ b))
same_list x y a b (inl first) (inl rest) = let f = first.1 in inl cc
same_list x y a b (inl first) (inr rest) = inr (λ e. rest cc)
same_list x y a b (inr first) rest = inr (λ e. first.1 cc)

same_name : (a b : List ℕ) → (a ≡ b) ⊎ (a ≢ b)
same_name [] [] = inl refl
same_name [] (y ∷ b) = inr (λ e. absurd cc)
same_name (x ∷ a) [] = inr (λ e. absurd cc)
same_name (x ∷ a) (y ∷ b) = same_list x y a b (eqb_tells x y) (same_name a b)

module _ {D : Type 0} where
  -- what holds of each name holds of each node's
  pub all_on : (now : List ℕ → Sight D) (nodes : List NodeId) → ((name : List ℕ) → (now name).is_out ≡ false) → AreOn now nodes
  all_on now [] on = tt
  all_on now (node ∷ nodes) on = (on (node_name node), all_on now nodes on)

  pub all_tell : (seen : D → Option (List ℕ)) (now : List ℕ → Sight D) (nodes : List NodeId)
      → ((name : List ℕ) → TellsBytes seen (now name).kept) → AllTell seen now nodes
  all_tell seen now [] told = tt
  all_tell seen now (node ∷ nodes) told = (told (node_name node), all_tell seen now nodes told)

  -- a name is that of none of the nodes, or its disk is with theirs
  abbrev IsOneOrNone : (List ℕ → Sight D) → List NodeId → List ℕ → Type 0
  IsOneOrNone now nodes name = IsNameOfNone nodes name ⊎ ((now name).is_out ≡ false)

  one_or_none : (now : List ℕ → Sight D) (node : NodeId) (nodes : List NodeId) (name : List ℕ) → (now (node_name node)).is_out ≡ false
      → (name ≡ node_name node) ⊎ (name ≢ node_name node) → IsOneOrNone now nodes name → IsOneOrNone now (node ∷ nodes) name
  one_or_none now node nodes name on (inl is) others = inr (subst (λ n. (now n).is_out ≡ false) (sym is) on)
  one_or_none now node nodes name on (inr other) (inl none) = inl (other, none)
  one_or_none now node nodes name on (inr other) (inr back) = inr back

  among : (now : List ℕ → Sight D) (nodes : List NodeId) (name : List ℕ) → AreOn now nodes → IsOneOrNone now nodes name
  among now [] name on = inl tt
  among now (node ∷ nodes) name on = one_or_none now node nodes name on.0 (same_name name (node_name node)) (among now nodes name on.1)

  back_or_same : (before after : List ℕ → Sight D) (nodes : List NodeId) (name : List ℕ)
      → (IsNameOfNone nodes name → after name ≡ before name) → (before name).is_out ≡ false → IsOneOrNone after nodes name → (after name).is_out ≡ false
  back_or_same before after nodes name others on (inl none) = ap (λ s. s.is_out) (others none) ∙ on
  back_or_same before after nodes name others on (inr back) = back

  -- no disk is out, where those of the nodes came back and other names are as they were
  pub all_back : (before after : List ℕ → Sight D) (nodes : List NodeId) → AreOn after nodes
      → ((name : List ℕ) → IsNameOfNone nodes name → after name ≡ before name) → ((name : List ℕ) → (before name).is_out ≡ false)
      → (name : List ℕ) → (after name).is_out ≡ false
  all_back before after nodes back others on name = back_or_same before after nodes name (others name) (on name) (among after nodes name back)
