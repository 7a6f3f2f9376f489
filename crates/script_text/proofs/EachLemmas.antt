-- Words judged one after another: what was read so far, and what is left.
use Rattle.std.proofs.Common.{◌≡◌, ℕ, List, [], ◌∷◌, ◌++◌, Ok, Err, refl, ap, sym, append_assoc, append-nil}
use Rattle.record_codec.specs.Reading.{◌>>=◌}
use Rattle.script_text.specs.Names.{ScriptKind}
use Rattle.script_text.specs.Judged.{Judged, each}

-- values in front of those that are still to be judged
abbrev pub with_front : {A : Type 0} → List A → Judged (List A) → Judged (List A)
with_front front (Ok rest) = Ok (front ++ rest)
with_front front (Err kind) = Err kind

module _ {A : Type 0} (judge : List ℕ → Judged A) where
  joined : (front : List A) (x : A) (r : Judged (List A)) → with_front front (r >>= λ rest. Ok (x ∷ rest)) ≡ with_front (front ++ x ∷ []) r
  joined front x (Ok rest) = ap Ok (sym (append_assoc front (x ∷ []) rest))
  joined front x (Err kind) = refl

  pub each_next : (front : List A) (word : List ℕ) (words all : List (List ℕ)) (x : A) → all ≡ word ∷ words → judge word ≡ Ok x
      → with_front front (each judge all) ≡ with_front (front ++ x ∷ []) (each judge words)
  each_next front word words all x all_is e = rw (all_is, e) (joined front x (each judge words))

  pub each_stop : (front : List A) (word : List ℕ) (words all : List (List ℕ)) (kind : ScriptKind) → all ≡ word ∷ words → judge word ≡ Err kind
      → with_front front (each judge all) ≡ Err kind
  each_stop front word words all kind all_is e = rw (all_is, e) refl

  pub each_end : (front : List A) (all : List (List ℕ)) → all ≡ [] → with_front front (each judge all) ≡ Ok front
  each_end front all all_is = rw (all_is, append-nil) refl
