-- What lies beside a ring is the end of all that came out of it.
use Rattle.std.proofs.Common.{◌≡◌, ◌-◌, List, [], ◌∷◌, ◌++◌, length, take, sym, ap, ◌∙◌, append_assoc, length-append, arith}
use Rattle.std.proofs.lemmas.List.{take_at}
use Rattle.node_links.specs.Links.{gone_on}

module _ {T : Type 0} where
  -- what went on is what stands in front of what lies beside
  gone_is : (all gone beside : List T) → all ≡ gone ++ beside → gone_on all beside ≡ gone
  gone_is all gone beside e =
      ap (λ l. take (length l - length beside) l) e
      ∙ take_at gone beside (length (gone ++ beside) - length beside) (omega (arith, length-append gone beside))

  -- where the first that lies beside goes on, the rest lies beside
  pub parts_more : (all beside rest : List T) (x : T) → all ≡ gone_on all beside ++ beside → beside ≡ x ∷ rest → all ≡ gone_on all rest ++ rest
  parts_more all beside rest x e first =
      let gone = gone_on all beside ++ x ∷ [] in
      let parts : all ≡ gone ++ rest =
      e ∙ ap (λ l. gone_on all beside ++ l) first ∙ sym (append_assoc (gone_on all beside) (x ∷ []) rest) in
      parts ∙ ap (λ front. front ++ rest) (sym (gone_is all gone rest parts))
