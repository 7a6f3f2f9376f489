-- From the first bytes of a frame to what stands at its offset.
use Rattle.std.proofs.Common.{◌≡◌, inl, inr, sym, ap, ◌∙◌, subst, ℕ, ◌+◌, ◌/◌, ◌%◌, ◌≤◌, ◌<◌, List, [], ◌∷◌, ◌++◌, length, take, drop, arith, take-append-drop, append_assoc}
use Rattle.std.proofs.lemmas.List.{drop-drop, length-take}
use Rattle.gate_vault.specs.File.{payload, IsClosed}
use Rattle.gate_vault.specs.inside.Frames.{IsBadFrame, HasLength}
use Rattle.gate_vault.proofs.FrameBytes.{body, body_append}

pub closed_at : (bytes start : List ℕ) → start ≡ take 3 bytes → IsClosed start → IsClosed bytes
closed_at [] start is closed = tt
closed_at (x ∷ bytes) start is closed = subst IsClosed is closed

pub cut_at : (bytes start : List ℕ) → start ≡ take 3 bytes → (rest : List ℕ) → start ≡ 1 ∷ rest → length rest < 2 → IsBadFrame bytes
cut_at [] start is rest opens few = absurd (cc)
cut_at (x ∷ []) start is rest opens few = ([], ap (λ (n : ℕ). n ∷ []) x_is, tt)
  where
    x_is : x ≡ 1
    x_is = cc
cut_at (x ∷ y ∷ []) start is rest opens few = (y ∷ [], ap (λ (n : ℕ). n ∷ y ∷ []) x_is, tt)
  where
    x_is : x ≡ 1
    x_is = cc
cut_at (x ∷ y ∷ z ∷ bytes) start is rest opens few =
    let two : y ∷ z ∷ [] ≡ rest = cc in
    absurd (omega (arith, ap length two))

pub length_at : (bytes start : List ℕ) (len : ℕ) → start ≡ take 3 bytes → (has : HasLength start len) → bytes ≡ 1 ∷ has.high ∷ has.low ∷ drop 3 bytes
length_at bytes start len is has = sym (take-append-drop 3 bytes) ∙ ap (λ (l : List ℕ). l ++ drop 3 bytes) (sym is ∙ has.is)

-- a length above the limit
pub too_long_at : (bytes start : List ℕ) (len : ℕ) → start ≡ take 3 bytes → HasLength start len → 4096 < len → IsBadFrame bytes
too_long_at bytes start len is has long =
    (has.high ∷ has.low ∷ drop 3 bytes, length_at bytes start len is has, inl (omega (arith, has.value)))

-- fewer bytes than the length
pub too_few_at : (at : ℕ) (file start entry : List ℕ) (len : ℕ) → start ≡ take 3 (drop at file) → HasLength start len → entry ≡ take len (drop (at + 3) file)
    → length entry < len → IsBadFrame (drop at file)
too_few_at at file start entry len is has read few =
    let behind : drop 3 (drop at file) ≡ drop (at + 3) file = drop-drop 3 at file in
    let short : length (drop 3 (drop at file)) < len = omega (arith, ap length behind, ap length read, length-take len (drop (at + 3) file)) in
    (has.high ∷ has.low ∷ drop 3 (drop at file), length_at (drop at file) start len is has, inr (omega (arith, has.value)))

-- a whole frame
pub whole_at : (at : ℕ) (file start entry : List ℕ) (len : ℕ) → start ≡ take 3 (drop at file) → HasLength start len → entry ≡ take len (drop (at + 3) file)
    → len ≤ length entry
    → drop at file ≡ 1 ∷ payload entry ++ drop (at + 3 + length entry) file
whole_at at file start entry len is has read whole =
    let behind : drop 3 (drop at file) ≡ drop (at + 3) file = drop-drop 3 at file in
    let size : length entry ≡ len = omega (arith, ap length read, length-take len (drop (at + 3) file)) in
    let high : has.high ≡ length entry / 256 = omega (arith, has.value, has.low_byte) in
    let low : has.low ≡ length entry % 256 = omega (arith, has.value, has.low_byte) in
    let parts : drop (at + 3) file ≡ entry ++ drop (at + 3 + length entry) file =
    sym (take-append-drop len (drop (at + 3) file)) ∙ ap (λ (l : List ℕ). l ++ drop len (drop (at + 3) file)) (sym read)
    ∙ ap (λ (l : List ℕ). entry ++ l) (drop-drop len (at + 3) file ∙ ap (λ (n : ℕ). drop (at + 3 + n) file) (sym size)) in
    length_at (drop at file) start len is has
    ∙ ap (λ (l : List ℕ). 1 ∷ has.high ∷ has.low ∷ l) (behind ∙ parts)
    ∙ ap (λ (n : ℕ). 1 ∷ n ∷ has.low ∷ (entry ++ drop (at + 3 + length entry) file)) high
    ∙ ap (λ (n : ℕ). 1 ∷ (length entry / 256) ∷ n ∷ (entry ++ drop (at + 3 + length entry) file)) low

-- one frame more was read
pub next_read : (entries : List (List ℕ)) (entry file : List ℕ) (gate next : ℕ) → file ≡ body entries ++ drop gate file
    → drop gate file ≡ 1 ∷ payload entry ++ drop (gate + 3 + length entry) file
    → next ≡ gate + 3 + length entry → (all : List (List ℕ)) → all ≡ entries ++ entry ∷ [] → file ≡ body all ++ drop next file
next_read entries entry file gate next read frame is all grown =
    read ∙ ap (λ (l : List ℕ). body entries ++ l) frame
    ∙ sym (append_assoc (body entries) (1 ∷ payload entry) (drop (gate + 3 + length entry) file))
    ∙ ap (λ (l : List ℕ). l ++ drop (gate + 3 + length entry) file) (sym (body_append entries entry))
    ∙ ap (λ (es : List (List ℕ)). body es ++ drop (gate + 3 + length entry) file) (sym grown)
    ∙ ap (λ (n : ℕ). body all ++ drop n file) (sym is)
