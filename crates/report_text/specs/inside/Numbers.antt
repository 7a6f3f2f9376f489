-- Values under numbers, as they are kept: those of 0, 1, 2 and so on without a gap, and the others.
use Rattle.std.specs.Prelude.{ℕ, ◌+◌, ◌≤◌, List, [], ◌∷◌, ◌++◌, length}
use Rattle.std.specs.List.{AllByRecursion}
use Rattle.report_text.specs.declared.by_number.ByNumber.TheInside.{Inside}

-- values under the numbers from one on
abbrev pub numbered : {V : Type 0} → ℕ → List V → List (ℕ × V)
numbered n [] = []
numbered n (v ∷ vs) = (n, v) ∷ numbered (n + 1) vs

abbrev pub AreFrom : {V : Type 0} → ℕ → List (ℕ × V) → Type 0
AreFrom {V} n es = AllByRecursion (λ (e : ℕ × V). n ≤ e.0) es

abbrev pub by_number : {V : Type 0} → Inside V → List (ℕ × V)
by_number i = numbered 0 i.first.items ++ i.rest.entries

abbrev pub IsByNumber : {V : Type 0} → Inside V → Type 0
IsByNumber i = AreFrom (length i.first.items) i.rest.entries
