-- Each step of a pass keeps the rule of the desk, and tells what it says.
use Rattle.std.proofs.Common.{◌≡◌, ◌≢◌, ℕ, ◌+◌, ◌<◌, ◌≤◌, true, false, true≢false, List, [], ◌∷◌, ◌++◌, length, set, sym, refl, ap, ◌∙◌, ⊎_elim, append_assoc, lt_of_not-le, arith}
use native.Mathlib.Decide.{dec_le}
use Rattle.std.specs.List.{AllByRecursion}
use mathlib.Core.Option.{Option, some, none, some-injective, some-ne-none}
use lib.ListN.{get_elem?}
use Rattle.crossbeam_queue.specs.Fifo.{Pushes, Pops, Forks, Merges, Learns}
use Rattle.crossbeam_queue.proofs.Lists.{at_set}
use Rattle.submit_desk.specs.declared.item.DeskItem.{DeskItem}
use Rattle.submit_desk.specs.declared.knows.Closed.{Closed}
use Rattle.submit_desk.specs.declared.knows.Knows.{Knows}
use Rattle.submit_desk.specs.Passes.{items_of, taker, submitter, seated, closed_by, spent}
use Rattle.submit_desk.specs.Rule.{DeskHistory, Fits, IsUnused, IsClosed, Each, Delivers, Puts, Gets, EndsWith, Accounts}
use Rattle.submit_desk.proofs.Items.{items_of_append, items_of_grow, items_of_stay, IsCounted_push, IsCounted_at, items_of_some}
use Rattle.submit_desk.proofs.Views.{each_set, each_snoc, placed, placed_here, placed_else, all_weaker}

-- a pass that has no part of the history, but for what is said of it
never : {A : Type 0} → false ≡ true → A
never e = absurd (true≢false (sym e))

abbrev submitted : DeskHistory → DeskItem → DeskHistory
submitted h x = record { all = h.all ++ x ∷ []; got = h.got; seat = h.seat; taking = h.taking }

abbrev taken : DeskHistory → DeskItem → DeskHistory
taken h x = record { all = h.all; got = h.got ++ x ∷ []; seat = h.seat; taking = h.taking }

abbrev seats : DeskHistory → ℕ → Option ℕ → DeskHistory
seats h by value = record { all = h.all; got = h.got; seat = placed by value h.seat; taking = h.taking }

-- a submitter with a pass is not one without, nor one with another pass
apart_none : (h : DeskHistory) (a b pass : ℕ) → h.seat a ≡ some pass → h.seat b ≡ none → a ≢ b
apart_none h a b pass at none_at same = some-ne-none pass (sym at ∙ ap h.seat same ∙ none_at)

apart_pass : (h : DeskHistory) (a b pass other : ℕ) → h.seat a ≡ some pass → h.seat b ≡ some other → other ≢ pass → a ≢ b
apart_pass h a b pass other at at' differ same = differ (some-injective other pass (sym at' ∙ ap h.seat (sym same) ∙ at))

abbrev begun : DeskHistory
begun = record { all = []; got = []; seat = λ _. none; taking = 0 }

pub begins : Delivers [] (taker [] 0 [] ∷ [])
begins = (
  begun,
  refl,
  (λ by. tt),
  each_snoc (Fits begun) [] (taker [] 0 []) (λ j u e. absurd (some-ne-none u (sym e)))
      (never, λ _. (refl, refl, (λ by le. (refl, refl)), tt)),
)

-- another pass's part of the history stays as an item is submitted
stays_submitted : (h : DeskHistory) (pass by : ℕ) (x : DeskItem) → h.seat by ≡ some pass → x.by ≡ by
    → (j : ℕ) (u : Knows) → j ≢ pass → Fits h j u → Fits (submitted h x) j u
stays_submitted h pass by x at own j u other fits = (
  (λ s. let o = fits.0 s in (o.0, o.1 ∙ sym (items_of_stay u.by h.all x (λ same. apart_pass h by u.by pass j at o.0 other (sym own ∙ same))))),
  λ t. let o = fits.1 t in (
    o.0,
    o.1,
    (λ b le. let f = o.2 b le in (f.0, items_of_stay b h.all x (λ same. apart_none h by b pass at f.0 (sym own ∙ same)) ∙ f.1)),
    all_weaker (IsClosed h u.next) (IsClosed (submitted h x) u.next)
        (λ c k. (k.0, k.1 ∙ sym (items_of_stay c.by h.all x (λ same. apart_none h by c.by pass at k.0 (sym own ∙ same))), k.2)) u.closed o.3,
  ),
)

pub submits : (n pass : ℕ) (v : Knows) (x : DeskItem) → v.submits ≡ true → x.by ≡ v.by → x.number ≡ length v.put → Pushes Delivers n pass v x (Puts v x)
submits n pass v x may own number items views _ holds at =
    let h = holds.0 in
    let mine = (holds.3 pass v at).0 may in
    let w : Knows = submitter v.by (v.put ++ x ∷ []) in (
      w,
      (
        submitted h x,
        ap (λ l. l ++ x ∷ []) holds.1 ∙ append_assoc h.got items (x ∷ []),
        IsCounted_push h.all x holds.2 (number ∙ ap length (mine.1 ∙ ap (λ b. items_of b h.all) (sym own))),
        each_set (Fits (submitted h x)) views pass w ((λ _. (mine.0, ap (λ l. l ++ x ∷ []) mine.1 ∙ sym (items_of_grow v.by h.all x own))), never)
            (λ j u other e. stays_submitted h pass v.by x mine.0 own j u other (holds.3 j u e)),
      ),
      refl,
    )

-- an item that is there is of a submitter below the numbers that are unused
of_used : (h : DeskHistory) (next : ℕ) (x : DeskItem) (items : List DeskItem) → IsUnused h next → h.all ≡ h.got ++ x ∷ items → x.by < next
of_used h next x items unused e = decided (dec_le next x.by)
  where
    decided : Dec (next ≤ x.by) → x.by < next
    decided (yes le) = absurd (items_of_some h.all h.got x items e (unused x.by le).1)
    decided (no not_le) = lt_of_not-le not_le

pub takes : (pass : ℕ) (v : Knows) → v.takes ≡ true → Pops Delivers pass v (Gets v)
takes pass v may x items views holds at =
    let h = holds.0 in
    let mine = (holds.3 pass v at).1 may in
    let w : Knows = taker (v.got ++ x ∷ []) v.next v.closed in (
      w,
      (
        taken h x,
        holds.1 ∙ sym (append_assoc h.got (x ∷ []) items),
        holds.2,
        each_set (Fits (taken h x)) views pass w (never, λ _. (mine.0, ap (λ l. l ++ x ∷ []) mine.1, mine.2, mine.3))
            (λ j u other e. ((holds.3 j u e).0, λ t. absurd (other (((holds.3 j u e).1 t).0 ∙ sym mine.0)))),
      ),
      (
        refl,
        IsCounted_at h.all h.got x items holds.2 holds.1 ∙ ap (λ l. length (items_of x.by l)) (sym mine.1),
        of_used h v.next x items mine.2 holds.1,
      ),
    )

-- the taking pass's part once a submitter that had no pass has one
seated_fits : (h : DeskHistory) (pass by new : ℕ) (v : Knows) → (h.taking ≡ pass) → v.next ≤ by → (v.got ≡ h.got) → IsUnused h v.next
    → AllByRecursion (IsClosed h v.next) v.closed → Fits (seats h by (some new)) pass (seated v by)
seated_fits h pass by new v is above got unused closed = (
  never,
  λ _. (
    sym is,
    got,
    (λ b le. let f = unused b (omega arith) in (placed_else by (some new) h.seat b (λ same. omega arith) ∙ f.0, f.1)),
    all_weaker (IsClosed h v.next) (IsClosed (seats h by (some new)) (by + 1))
        (λ c k. (placed_else by (some new) h.seat c.by (λ same. omega (arith, k.2)) ∙ k.0, k.1, omega (arith, k.2))) v.closed closed,
  ),
)

pub splits : (pass : ℕ) (v : Knows) (by : ℕ) → v.takes ≡ true → v.next ≤ by → Forks Delivers pass v (seated v by) (submitter by [])
splits pass v by may above items views holds at =
    let h = holds.0 in
    let mine = (holds.3 pass v at).1 may in
    let l : Knows = seated v by in
    let vs : List Knows = set views pass l in
    let h' : DeskHistory = seats h by (some (length vs)) in
    let kept : Each (Fits h') vs = each_set (Fits h') views pass l (seated_fits h pass by (length vs) v (sym mine.0) above mine.1 mine.2 mine.3)
    (λ j u other e. let fits = holds.3 j u e in (
      (λ s. let o = fits.0 s in (placed_else by (some (length vs)) h.seat u.by (apart_none h u.by by j o.0 (mine.2 by above).0) ∙ o.0, o.1)),
      λ t. absurd (other ((fits.1 t).0 ∙ sym mine.0)),
    )) in
    (h', holds.1, holds.2, each_snoc (Fits h') vs (submitter by []) kept ((λ _. (placed_here by (some (length vs)) h.seat, sym (mine.2 by above).1)), never))

-- the taking pass's part once a submitter's pass is back
closed_fits : (h : DeskHistory) (pass other : ℕ) (v w : Knows) → (pass ≡ h.taking) → (v.got ≡ h.got) → IsUnused h v.next
    → AllByRecursion (IsClosed h v.next) v.closed → h.seat w.by ≡ some other → w.put ≡ items_of w.by h.all → Fits (seats h w.by none) pass (closed_by v w)
closed_fits h pass other v w is got unused closed at put = (
  never,
  λ _. (
    is,
    got,
    (λ b le. let f = unused b le in (vacant b f.0, f.1)),
    (
      (placed_here w.by none h.seat, put, used (dec_le v.next w.by)),
      all_weaker (IsClosed h v.next) (IsClosed (seats h w.by none) v.next) (λ c k. (vacant c.by k.0, k.1, k.2)) v.closed closed,
    ),
  ),
)
  where
    vacant : (b : ℕ) → h.seat b ≡ none → placed w.by none h.seat b ≡ none
    vacant b e = placed_else w.by none h.seat b (λ same. apart_none h w.by b other at e (sym same)) ∙ e

    used : Dec (v.next ≤ w.by) → w.by < v.next
    used (yes le) = absurd (some-ne-none other (sym at ∙ (unused w.by le).0))
    used (no not_le) = lt_of_not-le not_le

pub joins : (pass : ℕ) (v : Knows) (other : ℕ) (w : Knows) → v.takes ≡ true → w.submits ≡ true → Merges Delivers pass v other w (closed_by v w) spent
joins pass v other w may theirs_may items views holds at two at' =
    let h = holds.0 in
    let mine = (holds.3 pass v at).1 may in
    let both : Knows = closed_by v w in
    let vs : List Knows = set views pass both in
    let h' : DeskHistory = seats h w.by none in
    let was : get_elem? views other ≡ some w = ⊎_elim (λ x. absurd (two x.0)) (λ x. x.1) (at_set views pass other both w at') in
    let theirs = (holds.3 other w was).0 theirs_may in
    let Now : ℕ → Knows → Type 0 = λ j u. j ≢ other → Fits h' j u in
    let now : Each Now vs = each_set Now views pass both (λ _. closed_fits h pass other v w mine.0 mine.1 mine.2 mine.3 theirs.0 theirs.1)
    (λ j u differs e away. let fits = holds.3 j u e in (
      (λ s. let o = fits.0 s in (placed_else w.by none h.seat u.by (λ same. apart_pass h w.by u.by other j theirs.0 o.0 away (sym same)) ∙ o.0, o.1)),
      λ t. absurd (differs ((fits.1 t).0 ∙ sym mine.0)),
    )) in
    (h', holds.1, holds.2, each_set (Fits h') vs other spent (never, never) (λ j u away e. now j u e away))

pub lies : (pass : ℕ) (v : Knows) → v.submits ≡ true → Learns Delivers pass v (EndsWith v)
lies pass v may items views holds at =
    let h = holds.0 in
    let mine = (holds.3 pass v at).0 may in
    (items_of v.by h.got, mine.1 ∙ ap (items_of v.by) holds.1 ∙ items_of_append v.by h.got items)

pub accounts : (pass : ℕ) (v : Knows) → v.takes ≡ true → Learns Delivers pass v (Accounts v)
accounts pass v may items views holds at =
    let h = holds.0 in
    let mine = (holds.3 pass v at).1 may in
    all_weaker (IsClosed h v.next) (λ (c : Closed). c.put ≡ items_of c.by v.got ++ items_of c.by items)
    (λ c k. k.1 ∙ ap (items_of c.by) holds.1 ∙ items_of_append c.by h.got items ∙ ap (λ l. items_of c.by l ++ items_of c.by items) (sym mine.1)) v.closed mine.3
