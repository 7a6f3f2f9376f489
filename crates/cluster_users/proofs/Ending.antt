-- What the end of an episode does to the looks that a reader keeps.
use Rattle.std.proofs.Common.{◌≡◌, ℕ, zero, suc, ◌≤◌, ◌<◌, nat_le, nat_lt, cond, Bool, true, false, List, [], ◌∷◌, ◌++◌, length}
use Rattle.std.proofs.Common.{Option, None, Some, refl, ap, sym, subst, ◌∙◌, le_refl, le_trans, arith}
use Rattle.std.specs.List.{All, AllByRecursion, Contains}
use Rattle.std.proofs.lemmas.List.Elements.{All-from_recursion, All-filter, All-take, All-push, All-contains}
use Rattle.std.proofs.lemmas.Bool.{leb-true, ltb-true, ltb-false}
use mathlib.Core.List.{IsPrefix}
use Rattle.view_cell.specs.declared.look.Look.{Look}
use Rattle.view_cell.specs.Looks.{IsRising, IsHistory, newest_of, last_of, last_number}
use Rattle.view_cell.specs.Ends.{Showing, Watching}
use Rattle.view_cell.proofs.Rising.{le_last, newest_number, newest_more, newest_stands, history_prefix, history_up_to, all_stand}
use Rattle.cluster_users.specs.declared.notes.Notes.{Notes}
use Rattle.cluster_users.specs.Noting.{last_noted, episode_noted, told_after, told_last, up_to, RiseStrictly}
use Rattle.cluster_users.specs.inside.Readers.{IsUpTo, IsUpToBefore, IsReading}
use Rattle.cluster_users.specs.Reading.{Reading, GoesOn, Ends}
use Rattle.cluster_users.proofs.Items.{prefix_trans}
use Rattle.cluster_users.proofs.Rising.{strict_more}
use Rattle.cluster_users.proofs.Noted.{last_rise}
use Rattle.cluster_users.proofs.Looking.{noted_stand, up_to_later}

-- of a history only the newest look has its number or a greater one
last_alone : (z : Look) (zs : List Look) (x y : Look) → IsRising z.ops zs → last_of z zs ≡ x → Contains (z ∷ zs) y → x.ops ≤ y.ops → y ≡ x
last_alone z [] x y rising e (zero, lt, at) le = sym at ∙ e
last_alone z [] x y rising e (suc k, lt, at) le = absurd (omega (arith, lt))
last_alone z (w ∷ ws) x y rising e (zero, lt, at) le =
    let up = le_last w.ops ws rising.1 in
    let m : last_number w.ops ws ≡ x.ops = newest_number 0 (w ∷ ws) x (ap Some e) in
    let same : z.ops ≡ y.ops = ap (λ (u : Look). u.ops) at in
    absurd (omega (arith, up, m, same, le, rising.0))
last_alone z (w ∷ ws) x y rising e (suc k, lt, at) le = last_alone w ws x y rising.1 e (k, omega (arith, lt), at) le

newest_alone : (zs : List Look) (x y : Look) → IsHistory zs → newest_of zs ≡ Some x → Contains zs y → x.ops ≤ y.ops → y ≡ x
newest_alone [] x y history e stands le = absurd history
newest_alone (z ∷ zs) x y history e stands le = last_alone z zs x y history.1 (cc (e)) stands le

below_rest : (number : ℕ) (x : Look) (rest : List Look) (b : Bool) → nat_le x.ops number ≡ b → AllByRecursion (λ (y : Look). y.ops ≤ number) rest
    → AllByRecursion (λ (y : Look). y.ops ≤ number) (cond b (x ∷ rest) rest)
below_rest number x rest true e all = (leb-true x.ops number e, all)
below_rest number x rest false e all = all

below : (number : ℕ) (xs : List Look) → AllByRecursion (λ (y : Look). y.ops ≤ number) (up_to number xs)
below number [] = tt
below number (x ∷ xs) = below_rest number x (up_to number xs) (nat_le x.ops number) refl (below number xs)

all_below : (number : ℕ) (xs : List Look) → All (λ (y : Look). y.ops ≤ number) (up_to number xs)
all_below number xs = All-from_recursion (λ (y : Look). y.ops ≤ number) (up_to number xs) (below number xs)

rising_from : (n m : ℕ) (xs : List Look) → n ≤ m → IsRising m xs → IsRising n xs
rising_from n m [] le rising = tt
rising_from n m (x ∷ xs) le rising = (let up = rising.0 in omega (arith, le, up), rising.1)

rest_rises : (n number : ℕ) (x : Look) (rest : List Look) (b : Bool) → n < x.ops → IsRising x.ops rest → IsRising n (cond b (x ∷ rest) rest)
rest_rises n number x rest true up rising = (up, rising)
rest_rises n number x rest false up rising = rising_from n x.ops rest (omega (arith, up)) rising

up_to_rises : (n number : ℕ) (xs : List Look) → IsRising n xs → IsRising n (up_to number xs)
up_to_rises n number [] rising = tt
up_to_rises n number (x ∷ xs) rising = rest_rises n number x (up_to number xs) (nat_le x.ops number) rising.0 (up_to_rises x.ops number xs rising.1)

strict : (n : ℕ) (xs : List Look) → IsRising n xs → RiseStrictly xs
strict n [] rising = tt
strict n (x ∷ xs) rising = rising.1

strict_rest : (x : Look) (rest : List Look) (b : Bool) → IsRising x.ops rest → RiseStrictly (cond b (x ∷ rest) rest)
strict_rest x rest true rising = rising
strict_rest x rest false rising = strict x.ops rest rising

up_to_strict : (number : ℕ) (xs : List Look) → RiseStrictly xs → RiseStrictly (up_to number xs)
up_to_strict number [] rise = tt
up_to_strict number (x ∷ xs) rise = strict_rest x (up_to number xs) (nat_le x.ops number) (up_to_rises x.ops number xs rise)

-- what was told is kept, and what was kept before keeps its facts
cond_all : (P : Look → Type 0) (b : Bool) (kept : List Look) (told : Look) → All P kept → P told → All P (cond b (kept ++ told ∷ []) kept)
cond_all P true kept told all one = All-push P kept told all one
cond_all P false kept told all one = all

told_all : (P : Look → Type 0) (told : Look) (kept : List Look) (newest : Option Look) → All P kept → P told → All P (told_after told kept newest)
told_all P told kept None all one = All-push P kept told all one
told_all P told kept (Some y) all one = cond_all P (nat_lt y.ops told.ops) kept told all one

none_kept : (kept : List Look) → newest_of kept ≡ None → kept ≡ []
none_kept [] e = refl
none_kept (x ∷ xs) e = absurd (cc (e))

cond_rise : (b : Bool) (kept : List Look) (told y : Look) → nat_lt y.ops told.ops ≡ b → newest_of kept ≡ Some y → RiseStrictly kept
    → RiseStrictly (cond b (kept ++ told ∷ []) kept)
cond_rise true kept told y less e rise =
    let m = newest_number 0 kept y e in
    strict_more kept told rise (let up = ltb-true y.ops told.ops less in omega (arith, m, up))
cond_rise false kept told y less e rise = rise

told_rise : (told : Look) (kept : List Look) (newest : Option Look) → newest_of kept ≡ newest → RiseStrictly kept → RiseStrictly (told_after told kept newest)
told_rise told kept None e rise = subst (λ l. RiseStrictly (l ++ told ∷ [])) (sym (none_kept kept e)) tt
told_rise told kept (Some y) e rise = cond_rise (nat_lt y.ops told.ops) kept told y refl e rise

cond_newest : (b : Bool) (looks kept : List Look) (told y : Look) → nat_lt y.ops told.ops ≡ b → newest_of kept ≡ Some y → IsHistory looks
    → newest_of looks ≡ Some told
    → Contains looks y → newest_of (cond b (kept ++ told ∷ []) kept) ≡ Some told
cond_newest true looks kept told y less e history newest stands = newest_more kept told
cond_newest false looks kept told y less e history newest stands =
    e ∙ ap Some (newest_alone looks told y history newest stands (ltb-false y.ops told.ops less))

told_newest : (looks : List Look) (told : Look) (kept : List Look) (o : Option Look) → newest_of kept ≡ o → IsHistory looks → newest_of looks ≡ Some told
    → All (Contains looks) kept → newest_of (told_after told kept o) ≡ Some told
told_newest looks told kept None e history newest all = newest_more kept told
told_newest looks told kept (Some y) e history newest all =
    cond_newest (nat_lt y.ops told.ops) looks kept told y refl e history newest (All-contains (Contains looks) kept y all (newest_stands kept y e))

last_stand : (met : Bool) (begun : ℕ) (seen : List Look) (notes : Notes) (last : Look) → All (Contains seen) notes.kept → Contains seen last
    → All (Contains seen) (last_noted met begun notes last).kept
last_stand true begun seen notes last all one = noted_stand seen notes last all one
last_stand false begun seen notes last all one = All-take (Contains seen) begun notes.kept all

last_before : (met : Bool) (begun : ℕ) (notes : Notes) (last : Look) → (last_noted met begun notes last).before ≡ Some last.ops
last_before true begun notes last = refl
last_before false begun notes last = refl

-- the looks that are kept as an episode ends
pub record EndsSo (told : Showing) (s : Reading) : Type 0 where
  pub reads : IsReading s
  pub last : newest_of s.notes.kept ≡ Some told.newest
  pub stand : All (Contains told.looks) s.notes.kept

-- what is known of the pass as an episode ends
pub record Learned (told : Showing) (r s : Reading) : Type 0 where
  pub history : IsHistory s.pass.seen
  pub seen : IsPrefix r.pass.seen s.pass.seen
  pub begins : IsPrefix told.looks s.pass.seen
  pub newest : newest_of s.pass.seen ≡ Some s.pass.last
  pub rises : r.pass.last.ops ≤ s.pass.last.ops
  pub told_rises : told.newest.ops ≤ s.pass.last.ops

pub ends_so : (told : Showing) (r s : Reading) → IsReading r → newest_of told.looks ≡ Some told.newest → Learned told r s
    → s.notes ≡ episode_noted s.pass.met r.begun told.newest r.notes s.pass.last → EndsSo told s
ends_so told r s was newest now e = record {
  reads = record {
    rise = subst (λ (n : Notes). RiseStrictly n.kept) (sym e) rise;
    stand = subst (λ (n : Notes). All (Contains seen) n.kept) (sym e) (all_stand told.looks seen kept now.begins stand);
    up_to = subst (λ (n : Notes). IsUpTo n s.pass.last.ops) (sym e) low_last;
  };
  last = ap (λ (n : Notes). newest_of n.kept) e ∙ last;
  stand = subst (λ (n : Notes). All (Contains told.looks) n.kept) (sym e) stand;
}
  where
    seen : List Look
    seen = s.pass.seen

    all : List Look
    all = (last_noted s.pass.met r.begun r.notes s.pass.last).kept

    low : List Look
    low = up_to told.newest.ops all

    kept : List Look
    kept = told_last told.newest low

    history : IsHistory told.looks
    history = history_prefix told.looks seen told.newest now.begins newest now.history

    all_seen : All (Contains seen) all
    all_seen = last_stand s.pass.met r.begun seen r.notes s.pass.last (all_stand r.pass.seen seen r.notes.kept now.seen was.stand)
        (newest_stands seen s.pass.last now.newest)

    low_stand : All (Contains told.looks) low
    low_stand k d lt = history_up_to seen told.looks told.newest _ now.history now.begins newest
        (All-filter (λ (x : Look). nat_le x.ops told.newest.ops) (Contains seen) all all_seen k d lt) (all_below told.newest.ops all k d lt)

    stand : All (Contains told.looks) kept
    stand = told_all (Contains told.looks) told.newest low (newest_of low) low_stand (newest_stands told.looks told.newest newest)

    last : newest_of kept ≡ Some told.newest
    last = told_newest told.looks told.newest low (newest_of low) refl history newest low_stand

    low_last : IsUpTo (episode_noted s.pass.met r.begun told.newest r.notes s.pass.last) s.pass.last.ops
    low_last =
        let m = newest_number 0 kept told.newest last in
        subst (λ o. IsUpToBefore o kept s.pass.last.ops) (sym (last_before s.pass.met r.begun r.notes s.pass.last))
        (omega (arith, m, now.told_rises), le_refl s.pass.last.ops)

    rise : RiseStrictly kept
    rise = told_rise told.newest low (newest_of low) refl (up_to_strict told.newest.ops all
        (last_rise s.pass.met r.begun r.notes s.pass.last was.rise (up_to_later r.notes.before r.notes.kept _ _ was.up_to now.rises)))

-- it learned, and then looked
pub learned : (told : Showing) (r s : Reading) (mid : Watching) → IsPrefix r.pass.seen mid.seen → IsPrefix told.looks mid.seen
    → (r.pass.last.ops ≤ mid.last.ops) × (told.newest.ops ≤ mid.last.ops) → IsHistory s.pass.seen → IsPrefix mid.seen s.pass.seen
    → newest_of s.pass.seen ≡ Some s.pass.last → mid.last.ops ≤ s.pass.last.ops → Learned told r s
learned told r s mid seen begins rises history more newest last = record {
  history = history;
  seen = prefix_trans r.pass.seen mid.seen s.pass.seen seen more;
  begins = prefix_trans told.looks mid.seen s.pass.seen begins more;
  newest = newest;
  rises = le_trans rises.0 last;
  told_rises = le_trans rises.1 last;
}

pub same_end : (met met' : Bool) (begun : ℕ) (told told' : Look) (notes : Notes) (last last' : Look) → met ≡ met' → told ≡ told' → last ≡ last'
    → episode_noted met begun told notes last ≡ episode_noted met' begun told' notes last'
same_end met met' begun told told' notes last last' m t l =
    ap (λ x. episode_noted x begun told notes last) m ∙ ap (λ x. episode_noted met' begun x notes last) t ∙ ap (λ x. episode_noted met' begun told' notes x) l

-- of a reader that is seen so
pub goes_on : (told : Showing) (q r s : Reading) → r ≡ q → IsReading r → newest_of told.looks ≡ Some told.newest → Learned told r s
    → s.notes ≡ episode_noted s.pass.met r.begun told.newest r.notes s.pass.last
    → (s.number ≡ r.number) × (s.consumer ≡ r.consumer) × (s.pass.cell ≡ r.pass.cell) → GoesOn q s
goes_on told q r s shown was newest now e same = subst (λ u. GoesOn u s) shown (record {
  same = same;
  seen = now.seen;
  rises = now.rises;
  rise = (ends_so told r s was newest now e).reads.rise;
})

pub ends : (told : Showing) (q r s : Reading) → r ≡ q → IsReading r → newest_of told.looks ≡ Some told.newest → Learned told r s
    → s.notes ≡ episode_noted s.pass.met r.begun told.newest r.notes s.pass.last → s.begun ≡ length s.notes.kept → r.wanting ≡ false → s.wanting ≡ r.wanting
    → Ends told q s
ends told q r s shown was newest now e begun well still =
    let so = ends_so told r s was newest now e in
    subst (λ u. Ends told u s) shown (record { kept = e; last = so.last; stand = so.stand; episode = begun; went_well = (well, still ∙ well) })
