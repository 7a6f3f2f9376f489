-- Lists of numbers that miss one another.
use Rattle.std.proofs.Common.{◌≡◌, ◌≢◌, ℕ, ◌<◌, List, [], ◌∷◌, ◌++◌, length, sym}
use Rattle.std.specs.List.{AllByRecursion}
use Rattle.record_pool.specs.inside.Kept.{Misses, Apart, Differ, Below}

all_append : (P : ℕ → Type 0) (ms ks : List ℕ) → AllByRecursion P ms → AllByRecursion P ks → AllByRecursion P (ms ++ ks)
all_append P [] ks h k = k
all_append P (m ∷ ms) ks h k = (h.0, all_append P ms ks h.1 k)

all_front : (P : ℕ → Type 0) (ms ks : List ℕ) → AllByRecursion P (ms ++ ks) → AllByRecursion P ms
all_front P [] ks h = tt
all_front P (m ∷ ms) ks h = (h.0, all_front P ms ks h.1)

all_back : (P : ℕ → Type 0) (ms ks : List ℕ) → AllByRecursion P (ms ++ ks) → AllByRecursion P ks
all_back P [] ks h = h
all_back P (m ∷ ms) ks h = all_back P ms ks h.1

Misses_append : (n : ℕ) (ms ks : List ℕ) → Misses n ms → Misses n ks → Misses n (ms ++ ks)
Misses_append n = all_append (λ m. m ≢ n)

Misses_front : (n : ℕ) (ms ks : List ℕ) → Misses n (ms ++ ks) → Misses n ms
Misses_front n = all_front (λ m. m ≢ n)

Misses_back : (n : ℕ) (ms ks : List ℕ) → Misses n (ms ++ ks) → Misses n ks
Misses_back n = all_back (λ m. m ≢ n)

-- a number of one list is none of another
pub Apart_at : (ms ks ns : List ℕ) (m : ℕ) → Apart (ms ++ m ∷ ks) ns → Misses m ns
Apart_at [] ks ns m h = h.0
Apart_at (n ∷ ms) ks ns m h = Apart_at ms ks ns m h.1

pub Apart_nil : (ms : List ℕ) → Apart ms []
Apart_nil [] = tt
Apart_nil (m ∷ ms) = (tt, Apart_nil ms)

pub Apart_append : (ms ns ks : List ℕ) → Apart ms ns → Apart ms ks → Apart ms (ns ++ ks)
Apart_append [] ns ks h k = tt
Apart_append (m ∷ ms) ns ks h k = (Misses_append m ns ks h.0 k.0, Apart_append ms ns ks h.1 k.1)

pub Apart_front : (ms ns ks : List ℕ) → Apart ms (ns ++ ks) → Apart ms ns
Apart_front [] ns ks h = tt
Apart_front (m ∷ ms) ns ks h = (Misses_front m ns ks h.0, Apart_front ms ns ks h.1)

pub Apart_back : (ms ns ks : List ℕ) → Apart ms (ns ++ ks) → Apart ms ks
Apart_back [] ns ks h = tt
Apart_back (m ∷ ms) ns ks h = (Misses_back m ns ks h.0, Apart_back ms ns ks h.1)

Apart_cons : (ms ns : List ℕ) (n : ℕ) → Misses n ms → Apart ms ns → Apart ms (n ∷ ns)
Apart_cons [] ns n h k = tt
Apart_cons (m ∷ ms) ns n h k = (((λ e. h.0 (sym e)), k.0), Apart_cons ms ns n h.1 k.1)

pub Apart_flip : (ms ns : List ℕ) → Apart ms ns → Apart ns ms
Apart_flip [] ns h = Apart_nil ns
Apart_flip (m ∷ ms) ns h = Apart_cons ns ms m h.0 (Apart_flip ms ns h.1)

pub Differ_append : (ms ns : List ℕ) → Differ ms → Differ ns → Apart ms ns → Differ (ms ++ ns)
Differ_append [] ns h k a = k
Differ_append (m ∷ ms) ns h k a = (Misses_append m ms ns h.0 a.0, Differ_append ms ns h.1 k a.1)

pub Differ_front : (ms ns : List ℕ) → Differ (ms ++ ns) → Differ ms
Differ_front [] ns h = tt
Differ_front (m ∷ ms) ns h = (Misses_front m ms ns h.0, Differ_front ms ns h.1)

pub Differ_back : (ms ns : List ℕ) → Differ (ms ++ ns) → Differ ns
Differ_back [] ns h = h
Differ_back (m ∷ ms) ns h = Differ_back ms ns h.1

pub Differ_apart : (ms ns : List ℕ) → Differ (ms ++ ns) → Apart ms ns
Differ_apart [] ns h = tt
Differ_apart (m ∷ ms) ns h = (Misses_back m ms ns h.0, Differ_apart ms ns h.1)

pub Below_append : (limit : ℕ) (ms ns : List ℕ) → Below limit ms → Below limit ns → Below limit (ms ++ ns)
Below_append limit = all_append (λ n. n < limit)

pub Below_front : (limit : ℕ) (ms ns : List ℕ) → Below limit (ms ++ ns) → Below limit ms
Below_front limit = all_front (λ n. n < limit)

pub Below_back : (limit : ℕ) (ms ns : List ℕ) → Below limit (ms ++ ns) → Below limit ns
Below_back limit = all_back (λ n. n < limit)
