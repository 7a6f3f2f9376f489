-- Each step of the cell keeps its rule.
use Rattle.std.proofs.Common.{◌≡◌, ℕ, ◌≢◌, List, [], ◌∷◌, ◌++◌, set, refl, sym, subst, ◌∙◌, ⊎_elim, true≢false, ◌≤◌, zero-le, le_trans, arith}
use mathlib.Core.Option.{some}
use lib.ListN.{get_elem?}
use Rattle.crossbeam_utils.specs.Register.{Admits, TurnsAt, Forks, Merges}
use Rattle.atomic_table.proofs.Lists.{at_set, at_snoc}
use Rattle.view_cell.specs.declared.published.Published.{Published}
use Rattle.view_cell.specs.declared.cell.Knows.{Knows}
use Rattle.view_cell.proofs.Rising.{number_more}
use Rattle.view_cell.specs.inside.Cell.{newcomer, Fits, Keeps, handing, Looked, informed}

new_fits : (x : Published) → Fits x newcomer
new_fits x = record { book = λ tracked. absurd (true≢false (sym tracked)); rises = zero-le }

snoc_keeps : (x : Published) (views : List Knows) (w : Knows) → Keeps x views → Fits x w → Keeps x (views ++ w ∷ [])
snoc_keeps x views w h fits seat v at = ⊎_elim (λ e. h seat v e) (λ (same : w ≡ v). subst (Fits x) same fits) (at_snoc views w v seat at)

set_keeps : (x : Published) (views : List Knows) (seat : ℕ) (w : Knows) → Keeps x views → Fits x w → Keeps x (set views seat w)
set_keeps x views seat w h fits j u at =
    ⊎_elim (λ (t : (j ≡ seat) × (w ≡ u)). subst (Fits x) t.1 fits) (λ (t : (j ≢ seat) × (get_elem? views j ≡ some u)). h j u t.1) (at_set views seat j w u at)

handed_fits : (y : Published) (v : Knows) → Fits y (handing y v)
handed_fits y v = record { book = λ _. refl; rises = let e = number_more 0 v.handed y.look in omega arith }

pub admits : Admits Keeps newcomer
admits x views h = snoc_keeps x views newcomer h (new_fits x)

pub turns : (seat : ℕ) (v : Knows) (x y : Published) → y.seen.book ≡ x.seen.book → x.look.ops ≤ y.look.ops → TurnsAt Keeps seat v x y Looked
turns seat v x y one up views h at =
    let stays : (u : Knows) → Fits x u → Fits y u = λ u fits. record { book = λ tracked. fits.book tracked ∙ sym one; rises = le_trans fits.rises up } in
    let kept : Keeps y views = λ j u e. stays u (h j u e) in
    (handing y v, set_keeps y views seat (handing y v) kept (handed_fits y v), (refl, stays v (h seat v at)))

pub forks : (seat : ℕ) (v : Knows) → Forks Keeps seat v v v
forks seat v x views h at = snoc_keeps x (set views seat v) v (set_keeps x views seat v h (h seat v at)) (h seat v at)

pub merges : (seat : ℕ) (v : Knows) (other : ℕ) (w : Knows) → Merges Keeps seat v other w (informed v w) newcomer
merges seat v other w x views h at apart there =
    let theirs : Fits x w = ⊎_elim (λ (t : (other ≡ seat) × (informed v w ≡ w)). absurd (apart t.0)) (λ (t : (other ≢ seat) × (get_elem? views other ≡ some w)). h other w t.1) (at_set views seat other (informed v w) w there) in
    set_keeps x (set views seat (informed v w)) other newcomer (set_keeps x views seat (informed v w) h (record { book = theirs.book; rises = (h seat v at).rises })) (new_fits x)
