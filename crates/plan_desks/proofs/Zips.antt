-- What holds of desks and of their taking passes, place by place, and of submitters, as more of them are made.
use Rattle.std.proofs.Common.{◌≡◌, ℕ, zero, suc, ◌+◌, ◌<◌, List, [], ◌∷◌, ◌++◌, length}
use Rattle.std.proofs.Common.{length-append, map, take, get_or, set, Some, refl, sym, ap, ◌∙◌, subst, arith}
use Rattle.std.specs.Prelude.{slice_get}
use Rattle.std.specs.List.{AllByRecursion, AllZip}
use Rattle.atomic_table.specs.Seated.{TableId}
use Rattle.submit_desk.specs.Passes.{DeskView, seated, taker}
use Rattle.submit_desk.specs.declared.knows.Knows.{Knows}
use Rattle.msg_wire.specs.declared.plan.PlanLine.{PlanLine}
use Rattle.cluster_users.specs.Submitting.{Submitting, submitting}
use Rattle.plan_desks.specs.declared.begun.Taker.{Taker}
use Rattle.plan_desks.proofs.Lines.{take_next}
use Rattle.plan_desks.specs.Desks.{AreBegun, AreBodies, AreOfClients, IsTaking, bodies_for}

-- ---- lists

pub all_push : {X : Type 0} (P : X → Type 0) (xs : List X) (x : X) → AllByRecursion P xs → P x → AllByRecursion P (xs ++ x ∷ [])
all_push P [] x all last = (last, tt)
all_push P (y ∷ xs) x all last = (all.0, all_push P xs x all.1 last)

pub all_get : {X : Type 0} (P : X → Type 0) (xs : List X) (k : ℕ) (d : X) → AllByRecursion P xs → k < length xs → P (get_or xs k d)
all_get P [] k d all below = absurd (omega (arith, below))
all_get P (x ∷ xs) zero d all below = all.0
all_get P (x ∷ xs) (suc k) d all below = all_get P xs k d all.1 (omega (arith, below))

pub get_there : {X : Type 0} (xs : List X) (k : ℕ) (d : X) → k < length xs → slice_get xs k ≡ Some (get_or xs k d)
get_there [] k d below = absurd (omega (arith, below))
get_there (x ∷ xs) zero d below = refl
get_there (x ∷ xs) (suc k) d below = get_there xs k d (omega (arith, below))

pub counted : {X : Type 0} (xs : List X) (x : X) (n next : ℕ) → length xs ≡ n → next ≡ n + 1 → length (xs ++ x ∷ []) ≡ next
counted xs x n next is up = let more = length-append xs (x ∷ []) in omega (arith, more, is, up)

-- ---- two lists

pub zip_length : {A B : Type 0} (R : A → B → Type 0) (xs : List A) (ys : List B) → AllZip R xs ys → length xs ≡ length ys
zip_length R [] [] all = refl
zip_length R [] (y ∷ ys) all = absurd all
zip_length R (x ∷ xs) [] all = absurd all
zip_length R (x ∷ xs) (y ∷ ys) all = ap suc (zip_length R xs ys all.1)

pub zip_at : {A B : Type 0} (R : A → B → Type 0) (xs : List A) (ys : List B) (k : ℕ) (d : A) (e : B) → AllZip R xs ys → k < length xs
    → R (get_or xs k d) (get_or ys k e)
zip_at R [] [] k d e all below = absurd (omega (arith, below))
zip_at R [] (y ∷ ys) k d e all below = absurd all
zip_at R (x ∷ xs) [] k d e all below = absurd all
zip_at R (x ∷ xs) (y ∷ ys) zero d e all below = all.0
zip_at R (x ∷ xs) (y ∷ ys) (suc k) d e all below = zip_at R xs ys k d e all.1 (omega (arith, below))

zip_leads : {A B : Type 0} (R S : A → B → Type 0) (leads : (x : A) (y : B) → R x y → S x y) (xs : List A) (ys : List B) → AllZip R xs ys → AllZip S xs ys
zip_leads R S leads [] [] all = tt
zip_leads R S leads [] (y ∷ ys) all = absurd all
zip_leads R S leads (x ∷ xs) [] all = absurd all
zip_leads R S leads (x ∷ xs) (y ∷ ys) all = (leads x y all.0, zip_leads R S leads xs ys all.1)

zip_set : {A B : Type 0} (R S : A → B → Type 0) (leads : (x : A) (y : B) → R x y → S x y) (xs : List A) (ys : List B) (k : ℕ) (d : A) (z : B)
    → AllZip R xs ys
    → k < length xs → S (get_or xs k d) z → AllZip S xs (set ys k z)
zip_set R S leads [] [] k d z all below one = absurd (omega (arith, below))
zip_set R S leads [] (y ∷ ys) k d z all below one = absurd all
zip_set R S leads (x ∷ xs) [] k d z all below one = absurd all
zip_set R S leads (x ∷ xs) (y ∷ ys) zero d z all below one = (one, zip_leads R S leads xs ys all.1)
zip_set R S leads (x ∷ xs) (y ∷ ys) (suc k) d z all below one = (leads x y all.0, zip_set R S leads xs ys k d z all.1 (omega (arith, below)) one)

-- ---- taking passes

pub clients_push : (number : ℕ) (ts : List Taker) (t : Taker) → AreOfClients number ts → t.client ≡ number + length ts → AreOfClients number (ts ++ t ∷ [])
clients_push number [] t are is = (omega (arith, is), tt)
clients_push number (first ∷ ts) t are is = (are.0, clients_push (suc number) ts t are.1 (omega (arith, is)))

pub clients_set : (number : ℕ) (ts : List Taker) (k : ℕ) (d t : Taker) → t.client ≡ (get_or ts k d).client → AreOfClients number ts
    → AreOfClients number (set ts k t)
clients_set number [] k d t same are = tt
clients_set number (first ∷ ts) zero d t same are = (same ∙ are.0, are.1)
clients_set number (first ∷ ts) (suc k) d t same are = (are.0, clients_set (suc number) ts k d t same are.1)

pub taking_at : (number : ℕ) (desks : List DeskView) (ts : List Taker) (k : ℕ) (at : DeskView) (d : Taker) → AllZip (IsTaking number) desks ts
    → k < length desks
    → at ≡ get_or desks k at → IsTaking number at (get_or ts k d)
taking_at number desks ts k at d all below here =
    subst (λ (x : DeskView). IsTaking number x (get_or ts k d)) (sym here) (zip_at (IsTaking number) desks ts k at d all below)

seated_is : (by next : ℕ) (v w : Knows) → v ≡ taker [] next [] → w ≡ seated v by → w ≡ taker [] (by + 1) []
seated_is by next v w is made = made ∙ ap (λ (u : Knows). seated u by) is

-- a pass was made for a submitter
pub taking_set : (number by next : ℕ) (desks : List DeskView) (ts : List Taker) (k : ℕ) (at : DeskView) (d t : Taker) → AllZip (IsTaking number) desks ts
    → k < length desks → at ≡ get_or desks k at → by ≡ number → next ≡ number + 1 → t.pass.desk ≡ (get_or ts k d).pass.desk
    → t.pass.knows ≡ seated (get_or ts k d).pass.knows by → AllZip (IsTaking next) desks (set ts k t)
taking_set number by next desks ts k at d t all below here same up desk knows =
    let was = taking_at number desks ts k at d all below here in
    let is = seated_is by (get_or ts k d).pass.knows.next (get_or ts k d).pass.knows t.pass.knows was.knows knows in
    let above : t.pass.knows.next ≡ by + 1 = ap (λ (v : Knows). v.next) is in
    let new : IsTaking next at t =
    record { desk = desk ∙ was.desk; knows = is ∙ ap (λ n. taker [] n []) (sym above); below = omega (arith, above, same, up) } in
    let leads : (x : DeskView) (y : Taker) → IsTaking number x y → IsTaking next x y =
    λ x y r. record { desk = r.desk; knows = r.knows; below = let low = r.below in omega (arith, low, up) } in
    zip_set (IsTaking number) (IsTaking next) leads desks ts k at t all below
    (subst (λ (x : DeskView). IsTaking next x t) here new)

-- ---- submitters

pub bodies_split : {X : Type 0} (f : X → List (List ℕ)) (lines : List PlanLine) (from : ℕ) (xs : List X) (x : X)
    → AreBodies lines from (map f (xs ++ x ∷ []))
    → AreBodies lines from (map f xs) × (f x ≡ bodies_for (from + length xs) lines)
bodies_split f lines from [] x are = let at : from ≡ from + 0 = omega arith in (tt, are.0 ∙ ap (λ n. bodies_for n lines) at)
bodies_split f lines from (y ∷ xs) x are =
    let rest = bodies_split f lines (suc from) xs x are.1 in
    let at : suc from + length xs ≡ from + suc (length xs) = omega arith in
    ((are.0, rest.0), rest.1 ∙ ap (λ n. bodies_for n lines) at)

begun_push : (desks : List DeskView) (lines : List PlanLine) (from : ℕ) (clients : List ℕ) (all : List Submitting)
    (client : ℕ) (desk : DeskView) (s : Submitting)
    → AreBegun desks lines from clients all → slice_get desks client ≡ Some desk
    → s ≡ submitting (from + length all) client desk.desk (bodies_for (from + length all) lines)
    → AreBegun desks lines from (clients ++ client ∷ []) (all ++ s ∷ [])
begun_push desks lines from [] [] client desk s are there is =
    let at : from + 0 ≡ from = omega arith in (desk, there, is ∙ ap (λ n. submitting n client desk.desk (bodies_for n lines)) at, tt)
begun_push desks lines from [] (first ∷ all) client desk s are there is = absurd are
begun_push desks lines from (c ∷ clients) [] client desk s are there is = absurd are
begun_push desks lines from (c ∷ clients) (first ∷ all) client desk s are there is =
    let at : from + suc (length all) ≡ suc from + length all = omega arith in (
      are.0,
      are.1,
      are.2,
      begun_push desks lines (suc from) clients all client desk s are.3 there (is ∙ ap (λ n. submitting n client desk.desk (bodies_for n lines)) at),
    )

pub place_below : (desks : List DeskView) (clients : List ℕ) (number place : ℕ) → AllByRecursion (λ client. client < length desks) clients
    → number < length clients
    → place ≡ get_or clients number 0 → place < length desks
place_below desks clients number place all below is = let low = all_get (λ client. client < length desks) clients number 0 all below in omega (arith, low, is)

pub begun_next : (desks : List DeskView) (lines : List PlanLine) (clients : List ℕ) (n next : ℕ) (all more : List Submitting)
    (client : ℕ) (desk : DeskView) (s : Submitting)
    → AreBegun desks lines 0 (take n clients) all → n < length clients → length all ≡ n → next ≡ n + 1 → more ≡ all ++ s ∷ [] → client ≡ get_or clients n 0
    → desk ≡ get_or desks client desk → client < length desks → s ≡ submitting n client desk.desk (bodies_for n lines)
    → AreBegun desks lines 0 (take next clients) more
begun_next desks lines clients n next all more client desk s are below count up is of there within made =
    let one_up : next ≡ suc n = omega (arith, up) in
    let at : n ≡ 0 + length all = omega (arith, count) in
    let longer : take next clients ≡ take n clients ++ client ∷ [] =
    ap (λ m. take m clients) one_up ∙ take_next clients n 0 below ∙ ap (λ u. take n clients ++ u ∷ []) (sym of) in
    subst (AreBegun desks lines 0 (take next clients)) (sym is)
    (subst (λ (l : List ℕ). AreBegun desks lines 0 l (all ++ s ∷ [])) (sym longer)
    (begun_push desks lines 0 (take n clients) all client desk s are (get_there desks client desk within ∙ ap Some (sym there))
    (made ∙ ap (λ m. submitting m client desk.desk (bodies_for m lines)) at)))

pub submitting_is : (n m client of : ℕ) (d e : TableId) (held bodies : List (List ℕ)) → n ≡ m → client ≡ of → d ≡ e → held ≡ bodies
    → submitting n client d held ≡ submitting m of e bodies
submitting_is n m client of d e held bodies number who desk all =
    ap (λ i. submitting i client d held) number ∙ ap (λ i. submitting m i d held) who ∙ ap (λ t. submitting m of t held) desk
    ∙ ap (λ l. submitting m of e l) all
