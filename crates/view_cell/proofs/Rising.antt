-- Beginnings of one history.
use Rattle.std.proofs.Common.{◌≡◌, ℕ, zero, suc, ◌≤◌, ◌<◌, List, [], ◌∷◌, ◌++◌, length, slice_index_or, Some, refl, ap, sym, subst, ◌∙◌, arith, le_refl}
use Rattle.std.specs.List.{All, Contains}
use Rattle.std.proofs.lemmas.List.Elements.{Contains-append_left, Contains-append_right, All-weaker, All-push}
use mathlib.Core.List.{IsPrefix}
use Rattle.view_cell.specs.declared.look.Look.{Look}
use Rattle.view_cell.specs.Looks.{IsRising, IsHistory, last_of, newest_of, last_number}

-- each list begins with itself
pub prefix_self : {A : Type 0} (xs : List A) → IsPrefix xs xs
prefix_self [] = ([], refl)
prefix_self (x ∷ xs) = (let r = prefix_self xs in r.0, ap (λ ys. x ∷ ys) (prefix_self xs).1)

pub le_last : (n : ℕ) (xs : List Look) → IsRising n xs → n ≤ last_number n xs
le_last n [] r = le_refl n
le_last n (x ∷ xs) r = let rest = le_last x.ops xs r.1 in let here = r.0 in omega arith

-- the last number of a history, whatever it is counted from
pub newest_number : (n : ℕ) (xs : List Look) (x : Look) → newest_of xs ≡ Some x → last_number n xs ≡ x.ops
newest_number n [] x e = absurd (cc (e))
newest_number n (y ∷ []) x e = cc (e)
newest_number n (y ∷ z ∷ zs) x e = newest_number y.ops (z ∷ zs) x e

-- a beginning of a rising list rises
pub rising_prefix : (n : ℕ) (xs zs : List Look) → IsPrefix xs zs → IsRising n zs → IsRising n xs
rising_prefix n [] zs p r = tt
rising_prefix n (x ∷ xs) [] p r = absurd (cc (p.1))
rising_prefix n (x ∷ xs) (z ∷ zs) p r =
    let heads : z ≡ x = cc (p.1) in
    let rest : IsPrefix xs zs = (p.0, cc (p.1)) in
    (subst (λ (y : Look). n < y.ops) heads r.0, rising_prefix x.ops xs zs rest (subst (λ (y : Look). IsRising y.ops zs) heads r.1))

-- of two beginnings of one rising list, the one with the lower last number begins the other
pub lower_begins : (n : ℕ) (xs ys zs : List Look) → IsRising n zs → IsPrefix xs zs → IsPrefix ys zs → last_number n xs ≤ last_number n ys → IsPrefix xs ys
lower_begins n [] ys zs r p q le = (ys, refl)
lower_begins n (x ∷ xs) [] zs r p q le =
    let mine = rising_prefix n (x ∷ xs) zs p r in
    let up = le_last x.ops xs mine.1 in let here = mine.0 in absurd (omega arith)
lower_begins n (x ∷ xs) (y ∷ ys) [] r p q le = absurd (cc (p.1))
lower_begins n (x ∷ xs) (y ∷ ys) (z ∷ zs) r p q le =
    let mine : z ≡ x = cc (p.1) in
    let theirs : z ≡ y = cc (q.1) in
    let one : y ≡ x = sym theirs ∙ mine in
    let r' : IsRising x.ops zs = subst (λ (u : Look). IsRising u.ops zs) mine r.1 in
    let le' : last_number x.ops xs ≤ last_number x.ops ys = subst (λ (u : Look). last_number x.ops xs ≤ last_number u.ops ys) one le in
    let rest = lower_begins x.ops xs ys zs r' (p.0, cc (p.1)) (q.0, cc (q.1)) le' in
    (rest.0, cc (one, rest.1))

-- the same of two beginnings of a history
pub older_begins : (xs ys zs : List Look) (x y : Look) → IsHistory zs → IsPrefix xs zs → IsPrefix ys zs → newest_of xs ≡ Some x → newest_of ys ≡ Some y
    → x.ops ≤ y.ops → IsPrefix xs ys
older_begins [] ys zs x y h p q a b le = absurd (cc (a))
older_begins (u ∷ us) [] zs x y h p q a b le = absurd (cc (b))
older_begins (u ∷ us) (v ∷ vs) [] x y h p q a b le = absurd h
older_begins (u ∷ us) (v ∷ vs) (z ∷ zs) x y h p q a b le =
    let mine : z ≡ u = cc (p.1) in
    let theirs : z ≡ v = cc (q.1) in
    let one : v ≡ u = sym theirs ∙ mine in
    let m : last_number u.ops us ≡ x.ops = newest_number 0 (u ∷ us) x a in
    let k : last_number v.ops vs ≡ y.ops = newest_number 0 (v ∷ vs) y b in
    let k' : last_number u.ops vs ≡ y.ops = subst (λ (w : Look). last_number w.ops vs ≡ y.ops) one k in
    let le' : last_number u.ops us ≤ last_number u.ops vs = omega (arith, m, k', le) in
    let rest = lower_begins u.ops us vs zs (subst (λ (w : Look). IsRising w.ops zs) mine h.1) (p.0, cc (p.1)) (q.0, cc (q.1)) le' in
    (rest.0, cc (one, rest.1))

-- a beginning of a history that has a newest look is a history
pub history_prefix : (xs zs : List Look) (x : Look) → IsPrefix xs zs → newest_of xs ≡ Some x → IsHistory zs → IsHistory xs
history_prefix [] zs x p e h = absurd (cc (e))
history_prefix (y ∷ ys) [] x p e h = absurd h
history_prefix (y ∷ ys) (z ∷ zs) x p e h =
    let heads : z ≡ y = cc (p.1) in
    (subst (λ (u : Look). u.ops ≡ 0) heads h.0, rising_prefix y.ops ys zs (p.0, cc (p.1)) (subst (λ (u : Look). IsRising u.ops zs) heads h.1))

-- a beginning with the last number of the whole is the whole
pub rising_whole : (n : ℕ) (xs zs : List Look) → IsRising n zs → IsPrefix xs zs → last_number n xs ≡ last_number n zs → xs ≡ zs
rising_whole n [] [] r p e = refl
rising_whole n [] (z ∷ zs) r p e = let up = le_last z.ops zs r.1 in let here = r.0 in absurd (omega arith)
rising_whole n (x ∷ xs) [] r p e = absurd (cc (p.1))
rising_whole n (x ∷ xs) (z ∷ zs) r p e =
    let heads : z ≡ x = cc (p.1) in
    let r' : IsRising x.ops zs = subst (λ (u : Look). IsRising u.ops zs) heads r.1 in
    let e' : last_number x.ops xs ≡ last_number x.ops zs = subst (λ (u : Look). last_number x.ops xs ≡ last_number u.ops zs) heads e in
    let rest = rising_whole x.ops xs zs r' (p.0, cc (p.1)) e' in cc (heads, rest)

pub history_whole : (xs zs : List Look) (x : Look) → IsHistory zs → IsPrefix xs zs → newest_of xs ≡ Some x → last_number 0 zs ≡ x.ops → xs ≡ zs
history_whole [] zs x h p a e = absurd (cc (a))
history_whole (u ∷ us) [] x h p a e = absurd h
history_whole (u ∷ us) (z ∷ zs) x h p a e =
    let heads : z ≡ u = cc (p.1) in
    let m : last_number u.ops us ≡ x.ops = newest_number 0 (u ∷ us) x a in
    let e' : last_number u.ops zs ≡ x.ops = subst (λ (w : Look). last_number w.ops zs ≡ x.ops) heads e in
    let rest = rising_whole u.ops us zs (subst (λ (w : Look). IsRising w.ops zs) heads h.1) (p.0, cc (p.1)) (m ∙ sym e') in cc (heads, rest)

-- one look more, with a number above the last
pub rising_more : (n : ℕ) (xs : List Look) (x : Look) → IsRising n xs → last_number n xs < x.ops → IsRising n (xs ++ x ∷ [])
rising_more n [] x r up = (up, tt)
rising_more n (y ∷ ys) x r up = (r.0, rising_more y.ops ys x r.1 up)

pub history_more : (xs : List Look) (x next : Look) → IsHistory xs → newest_of xs ≡ Some x → x.ops < next.ops → IsHistory (xs ++ next ∷ [])
history_more [] x next h e up = absurd h
history_more (y ∷ ys) x next h e up = let m : last_number y.ops ys ≡ x.ops = newest_number 0 (y ∷ ys) x e in (h.0, rising_more y.ops ys next h.1 (omega (arith, m, up)))

last_of_more : (first : Look) (xs : List Look) (x : Look) → last_of first (xs ++ x ∷ []) ≡ x
last_of_more first [] x = refl
last_of_more first (y ∷ ys) x = last_of_more y ys x

pub newest_more : (xs : List Look) (x : Look) → newest_of (xs ++ x ∷ []) ≡ Some x
newest_more [] x = refl
newest_more (y ∷ ys) x = ap Some (last_of_more y ys x)

pub number_more : (n : ℕ) (xs : List Look) (x : Look) → last_number n (xs ++ x ∷ []) ≡ x.ops
number_more n [] x = refl
number_more n (y ∷ ys) x = number_more y.ops ys x

-- an entry of a rising list is above n
above : (n : ℕ) (zs : List Look) → IsRising n zs → (x : Look) (k : ℕ) → k < length zs → slice_index_or zs k x ≡ x → n < x.ops
above n [] r x k lt at = absurd (omega arith)
above n (z ∷ zs) r x zero lt at = subst (λ (u : Look). n < u.ops) at r.0
above n (z ∷ zs) r x (suc k) lt at = let rest = above z.ops zs r.1 x k (omega arith) at in let here = r.0 in omega arith

-- what has a number up to a beginning's last stands in that beginning
rising_up_to : (n : ℕ) (ys zs : List Look) → IsRising n zs → IsPrefix ys zs → (x : Look) (k : ℕ) → k < length zs → slice_index_or zs k x ≡ x
    → x.ops ≤ last_number n ys → (k < length ys) × (slice_index_or ys k x ≡ x)
rising_up_to n [] zs r p x k lt at le = let up = above n zs r x k lt at in absurd (omega arith)
rising_up_to n (y ∷ ys) [] r p x k lt at le = absurd (omega arith)
rising_up_to n (y ∷ ys) (z ∷ zs) r p x zero lt at le = let heads : z ≡ y = cc (p.1) in (omega arith, sym heads ∙ at)
rising_up_to n (y ∷ ys) (z ∷ zs) r p x (suc k) lt at le =
    let heads : z ≡ y = cc (p.1) in
    let rest = rising_up_to y.ops ys zs (subst (λ (u : Look). IsRising u.ops zs) heads r.1) (p.0, cc (p.1)) x k (omega arith) at le in
    (let less = rest.0 in omega arith, rest.1)

pub history_up_to : (zs ys : List Look) (newest x : Look) → IsHistory zs → IsPrefix ys zs → newest_of ys ≡ Some newest → Contains zs x → x.ops ≤ newest.ops
    → Contains ys x
history_up_to [] ys newest x h p e c le = absurd h
history_up_to (z ∷ zs) [] newest x h p e c le = absurd (cc (e))
history_up_to (z ∷ zs) (y ∷ ys) newest x h p e (zero, lt, at) le = let heads : z ≡ y = cc (p.1) in (zero, omega arith, sym heads ∙ at)
history_up_to (z ∷ zs) (y ∷ ys) newest x h p e (suc k, lt, at) le =
    let heads : z ≡ y = cc (p.1) in
    let m : last_number y.ops ys ≡ newest.ops = newest_number 0 (y ∷ ys) newest e in
    let rest = rising_up_to y.ops ys zs (subst (λ (u : Look). IsRising u.ops zs) heads h.1) (p.0, cc (p.1)) x k (omega arith) at (omega (arith, m, le)) in
    (suc k, (let less = rest.0 in omega arith), rest.1)

-- the newest look stands in the list
pub newest_stands : (xs : List Look) (x : Look) → newest_of xs ≡ Some x → Contains xs x
newest_stands [] x e = absurd (cc (e))
newest_stands (y ∷ []) x e = (zero, omega arith, cc (e))
newest_stands (y ∷ z ∷ zs) x e = Contains-append_right (y ∷ []) (z ∷ zs) x (newest_stands (z ∷ zs) x e)

pub stands_later : (xs zs : List Look) (x : Look) → IsPrefix xs zs → Contains xs x → Contains zs x
stands_later xs zs x p c = subst (λ (l : List Look). Contains l x) p.1 (Contains-append_left xs p.0 x c)

-- what stood in a beginning stands in the whole
pub all_stand : (xs zs ys : List Look) → IsPrefix xs zs → All (Contains xs) ys → All (Contains zs) ys
all_stand xs zs ys p a = All-weaker (Contains xs) (Contains zs) (λ y. stands_later xs zs y p) ys a

-- the same with one look more, the newest of another beginning
pub all_stand_more : (xs ys zs looks : List Look) (x : Look) → IsPrefix xs zs → IsPrefix ys zs → newest_of ys ≡ Some x → All (Contains xs) looks
    → All (Contains zs) (looks ++ x ∷ [])
all_stand_more xs ys zs looks x p q e a = All-push (Contains zs) looks x (all_stand xs zs looks p a) (stands_later ys zs x q (newest_stands ys x e))
