-- Laws of readers, for each way to put them together: what is read is spelled so, what is spelled so is read, and a
-- text that is cut short is found short.
use Rattle.std.proofs.Common.{◌≡◌, ℕ, suc, ◌+◌, ◌-◌, ◌^◌, ◌<◌, ◌≤◌, Bool, true, false, cond, ◌&&◌, nat_le, ltb, List, [], ◌∷◌, ◌++◌, length, get_or, take, drop, Option, Some, None, Result, Ok, Err, ◌⊎◌, refl, sym, ap, subst, ◌∙◌, append_assoc, arith, inl, inr}
use Rattle.std.specs.Int.{Width, w16, w32, w64, byte_len, from_be_bytes, to_be_bytes}
use Rattle.std.proofs.lemmas.Bool.{cases_lt, ltb-false, le-ltb, lt-ltb}
use Rattle.std.proofs.lemmas.Bool.Decides.{nat_tests}
use Rattle.std.proofs.lemmas.List.{take_at, drop_at, drop-drop, take-append-drop, length-append, length-take, length-drop, get_or-drop, get_or-take, get_or_past, append-nil, append_cancel_left}
use Rattle.std.proofs.lemmas.Nat.{be_bytes_2, be_bytes_4, be_bytes_8, from_be_bytes-to_be_bytes_2, from_be_bytes-to_be_bytes_4, from_be_bytes-to_be_bytes_8}
use Rattle.record_codec.specs.Fields.{two, four, eight}
use Rattle.record_codec.specs.Reading.{Reader, ◌>>=◌, byte_at, number_at, two_at, four_at, eight_at, field, piece, announced, one, two_of, three_of}

abbrev pub IsBytes : List ℕ → Type 0
IsBytes bytes = (i : ℕ) → get_or bytes i 0 < 256

pub IsBytes_drop : (n : ℕ) (bytes : List ℕ) → IsBytes bytes → IsBytes (drop n bytes)
IsBytes_drop n bytes h i = rw get_or-drop (h (n + i))

IsBytes_take : (n : ℕ) (bytes : List ℕ) → IsBytes bytes → IsBytes (take n bytes)
IsBytes_take n bytes h i =
    elim (cases_lt i n) [
      | inl lt ↦ rw (get_or-take n bytes i 0 lt) (h i)
      | inr le ↦ rw (get_or_past (take n bytes) i 0 (omega (arith, length-take n bytes))) (omega arith)
    ]

-- ---- tests and steps that did not fail

pub bind_ok : {A B E : Type 0} (r : Result A E) (f : A → Result B E) (y : B) → (r >>= f) ≡ Ok y → (x : A) × (r ≡ Ok x) × (f x ≡ Ok y)
bind_ok (Ok x) f y e = (x, refl, e)
bind_ok (Err d) f y e = absurd cc

pub guard_ok : {A E : Type 0} (b : Bool) (d : E) (x y : A) → cond b (Err d) (Ok x) ≡ Ok y → (b ≡ false) × (x ≡ y)
guard_ok true d x y e = absurd cc
guard_ok false d x y e = (refl, cc)

pub guard_ended : {A E : Type 0} (b : Bool) (d : E) (x y : A) → cond b (Ok x) (Err d) ≡ Ok y → (b ≡ true) × (x ≡ y)
guard_ended true d x y e = (refl, cc)
guard_ended false d x y e = absurd cc

-- which way a test went
pub chosen : {A : Type 0} (b : Bool) (x y z : A) → cond b x y ≡ z → ((b ≡ true) × (x ≡ z)) ⊎ ((b ≡ false) × (y ≡ z))
chosen true x y z e = inl (refl, e)
chosen false x y z e = inr (refl, e)

guard_some : {A : Type 0} (b : Bool) (x y : A) → cond b None (Some x) ≡ Some y → (b ≡ false) × (x ≡ y)
guard_some true x y e = absurd cc
guard_some false x y e = (refl, cc)

abbrev pub done : {A : Type 0} (E : Type 0) → A → Result A E
done E x = Ok x

pub ok_is : {A : Type 0} (E : Type 0) (x y : A) → done E x ≡ done E y → x ≡ y
ok_is E x y e = cc

-- ---- what a reader took

pub record Took (bytes : List ℕ) (at : ℕ) (text : List ℕ) (after : ℕ) : Type 0 where
  pub parts : drop at bytes ≡ text ++ drop after bytes
  pub place : after ≡ at + length text

pub Took_then : (bytes : List ℕ) (at mid after : ℕ) (x y : List ℕ) → Took bytes at x mid → Took bytes mid y after → Took bytes at (x ++ y) after
Took_then bytes at mid after x y p q = record {
  parts = p.parts ∙ ap (λ (t : List ℕ). x ++ t) q.parts ∙ sym (append_assoc x y (drop after bytes));
  place = omega (arith, p.place, q.place, length-append x y);
}

pub drop_past : (bytes : List ℕ) (at : ℕ) (x rest : List ℕ) → drop at bytes ≡ x ++ rest → drop (at + length x) bytes ≡ rest
drop_past bytes at x rest e = sym (drop-drop (length x) at bytes) ∙ ap (drop (length x)) e ∙ drop_at x rest (length x) refl

-- all that a reader takes is spelled so
pub record Takes {A E : Type 0} (spell : A → List ℕ) (Valid : A → Type 0) (r : Reader A E) : Type 0 where
  pub took : (bytes : List ℕ) (at : ℕ) (x : A × ℕ) → IsBytes bytes → r bytes at ≡ Ok x → Took bytes at (spell x.0) x.1 × Valid x.0

-- a reader takes this text for this value, and nothing shorter
pub record Reads {A E : Type 0} (short : E) (value : A) (text : List ℕ) (r : Reader A E) : Type 0 where
  pub again : (bytes : List ℕ) (at : ℕ) (rest : List ℕ) → drop at bytes ≡ text ++ rest → r bytes at ≡ Ok (value, at + length text)
  pub cut : (bytes : List ℕ) (at : ℕ) (more : List ℕ) → drop at bytes ++ more ≡ text → 0 < length more → r bytes at ≡ Err short

-- ---- numbers

pub record AreNumbers (spell : ℕ → List ℕ) (limit : ℕ) (read : List ℕ → ℕ → Option (ℕ × ℕ)) : Type 0 where
  pub took : (bytes : List ℕ) (at : ℕ) (x : ℕ × ℕ) → IsBytes bytes → read bytes at ≡ Some x → Took bytes at (spell x.0) x.1 × (x.0 < limit)
  pub again : (n : ℕ) → n < limit → (bytes : List ℕ) (at : ℕ) (rest : List ℕ) → drop at bytes ≡ spell n ++ rest
      → read bytes at ≡ Some (n, at + length (spell n))
  pub cut : (n : ℕ) (bytes : List ℕ) (at : ℕ) (more : List ℕ) → drop at bytes ++ more ≡ spell n → 0 < length more → read bytes at ≡ None

record IsWide (w : Width) (limit : ℕ) : Type 0 where
  len : (n : ℕ) → length (to_be_bytes w n) ≡ byte_len w
  back : (bytes : List ℕ) → length bytes ≡ byte_len w → IsBytes bytes → to_be_bytes w (from_be_bytes w bytes) ≡ bytes
  again : (n : ℕ) → n < limit → from_be_bytes w (to_be_bytes w n) ≡ n
  below : (bytes : List ℕ) → IsBytes bytes → from_be_bytes w bytes < limit

wide16 : IsWide w16 (2 ^ 16)
wide16 = record {
  len = λ n. refl;
  back = λ bytes len fits. be_bytes_2 bytes _ len fits refl;
  again = λ n lt. from_be_bytes-to_be_bytes_2 n lt;
  below = λ bytes fits. omega (arith, fits 0, fits 1);
}

wide32 : IsWide w32 (2 ^ 32)
wide32 = record {
  len = λ n. refl;
  back = λ bytes len fits. be_bytes_4 bytes _ len fits refl;
  again = λ n lt. from_be_bytes-to_be_bytes_4 n lt;
  below = λ bytes fits. omega (arith, fits 0, fits 1, fits 2, fits 3);
}

wide64 : IsWide w64 (2 ^ 64)
wide64 = record {
  len = λ n. refl;
  back = λ bytes len fits. be_bytes_8 bytes _ len fits refl;
  again = λ n lt. from_be_bytes-to_be_bytes_8 n lt;
  below = λ bytes fits. omega (arith, fits 0, fits 1, fits 2, fits 3, fits 4, fits 5, fits 6, fits 7);
}

number_took : (w : Width) (limit : ℕ) (wide : IsWide w limit) (bytes : List ℕ) (at : ℕ) (x : ℕ × ℕ) → IsBytes bytes → number_at w bytes at ≡ Some x
    → Took bytes at (to_be_bytes w x.0) x.1 × (x.0 < limit)
number_took w limit wide bytes at x fits e =
    let tail = drop at bytes in
    let g = guard_some (ltb (length bytes - at) (byte_len w)) (from_be_bytes w (take (byte_len w) (drop at bytes)), at + byte_len w) x e in
    let long : byte_len w ≤ length bytes - at = ltb-false _ _ g.0 in
    let tail_fits : IsBytes (drop at bytes) = IsBytes_drop at bytes fits in
    let front_fits : IsBytes (take (byte_len w) (drop at bytes)) = IsBytes_take (byte_len w) (drop at bytes) tail_fits in
    let n_is : from_be_bytes w (take (byte_len w) (drop at bytes)) ≡ x.0 = ap (λ (p : ℕ × ℕ). p.0) g.1 in
    let after_is : at + byte_len w ≡ x.1 = ap (λ (p : ℕ × ℕ). p.1) g.1 in
    let front : to_be_bytes w x.0 ≡ take (byte_len w) (drop at bytes) = rw (← n_is) (wide.back (take (byte_len w) (drop at bytes)) (omega (arith, length-take (byte_len w) (drop at bytes), length-drop at bytes)) front_fits) in
    let split : drop at bytes ≡ take (byte_len w) (drop at bytes) ++ drop (at + byte_len w) bytes = sym (take-append-drop (byte_len w) (drop at bytes)) ∙ ap (λ (t : List ℕ). take (byte_len w) (drop at bytes) ++ t) (drop-drop (byte_len w) at bytes) in
    (record { parts = rw (front, ← after_is) split; place = omega (arith, after_is, wide.len x.0) }, rw (← n_is) (wide.below (take (byte_len w) (drop at bytes)) front_fits))

number_again : (w : Width) (limit : ℕ) (wide : IsWide w limit) (n : ℕ) → n < limit → (bytes : List ℕ) (at : ℕ) (rest : List ℕ)
    → drop at bytes ≡ to_be_bytes w n ++ rest → number_at w bytes at ≡ Some (n, at + length (to_be_bytes w n))
number_again w limit wide n lt bytes at rest e =
    let len = wide.len n in
    let long : ltb (length bytes - at) (byte_len w) ≡ false = le-ltb _ _ (omega (arith, length-drop at bytes, ap length e, length-append (to_be_bytes w n) rest)) in
    rw (long, e, take_at (to_be_bytes w n) rest (byte_len w) len, wide.again n lt, len) refl

number_cut : (w : Width) (limit : ℕ) (wide : IsWide w limit) (n : ℕ) (bytes : List ℕ) (at : ℕ) (more : List ℕ) → drop at bytes ++ more ≡ to_be_bytes w n
    → 0 < length more → number_at w bytes at ≡ None
number_cut w limit wide n bytes at more e some =
    let len = wide.len n in
    let short : ltb (length bytes - at) (byte_len w) ≡ true = lt-ltb _ _ (omega (arith, length-drop at bytes, ap length e, length-append (drop at bytes) more)) in
    rw short refl

numbers : (w : Width) (limit : ℕ) → IsWide w limit → AreNumbers (to_be_bytes w) limit (number_at w)
numbers w limit wide = record { took = number_took w limit wide; again = number_again w limit wide; cut = number_cut w limit wide }

pub twos : AreNumbers two (2 ^ 16) two_at
unfolding two two_at
twos = numbers w16 (2 ^ 16) wide16

pub fours : AreNumbers four (2 ^ 32) four_at
unfolding four four_at
fours = numbers w32 (2 ^ 32) wide32

pub eights : AreNumbers eight (2 ^ 64) eight_at
unfolding eight eight_at
eights = numbers w64 (2 ^ 64) wide64

one_byte : (bytes : List ℕ) → 1 ≤ length bytes → bytes ≡ get_or bytes 0 0 ∷ drop 1 bytes
one_byte [] le = absurd (omega arith)
one_byte (b ∷ bytes) le = refl

byte_took : (bytes : List ℕ) (at : ℕ) (x : ℕ × ℕ) → IsBytes bytes → byte_at bytes at ≡ Some x → Took bytes at (x.0 ∷ []) x.1 × (x.0 < 2 ^ 8)
unfolding byte_at
byte_took bytes at x fits e =
    let g = guard_some (ltb (length bytes - at) 1) (get_or bytes at 0, at + 1) x e in
    let long : 1 ≤ length bytes - at = ltb-false _ _ g.0 in
    let n_is : get_or bytes at 0 ≡ x.0 = ap (λ (p : ℕ × ℕ). p.0) g.1 in
    let after_is : at + 1 ≡ x.1 = ap (λ (p : ℕ × ℕ). p.1) g.1 in
    let whole : drop at bytes ≡ get_or (drop at bytes) 0 0 ∷ drop 1 (drop at bytes) = one_byte (drop at bytes) (omega (arith, length-drop at bytes)) in
    let first : get_or (drop at bytes) 0 0 ≡ get_or bytes at 0 = get_or-drop at bytes 0 0 ∙ ap (λ (k : ℕ). get_or bytes k 0) (omega arith) in
    let split : drop at bytes ≡ get_or bytes at 0 ∷ drop (at + 1) bytes = whole ∙ ap (λ (b : ℕ). b ∷ drop 1 (drop at bytes)) first ∙ ap (λ (t : List ℕ). get_or bytes at 0 ∷ t) (drop-drop 1 at bytes) in
    (record { parts = rw (← n_is, ← after_is) split; place = omega (arith, after_is) }, rw (← n_is) (fits at))

byte_again : (n : ℕ) → n < 2 ^ 8 → (bytes : List ℕ) (at : ℕ) (rest : List ℕ) → drop at bytes ≡ (n ∷ []) ++ rest → byte_at bytes at ≡ Some (n, at + 1)
unfolding byte_at
byte_again n lt bytes at rest e =
    let size : length (drop at bytes) ≡ suc (length rest) = ap length e in
    let long : ltb (length bytes - at) 1 ≡ false = le-ltb _ _ (omega (arith, length-drop at bytes, size)) in
    let first : get_or bytes at 0 ≡ n = ap (λ (k : ℕ). get_or bytes k 0) (omega arith) ∙ sym (get_or-drop at bytes 0 0) ∙ ap (λ (t : List ℕ). get_or t 0 0) e in
    rw (long, first) refl

byte_cut : (n : ℕ) (bytes : List ℕ) (at : ℕ) (more : List ℕ) → drop at bytes ++ more ≡ n ∷ [] → 0 < length more → byte_at bytes at ≡ None
unfolding byte_at
byte_cut n bytes at more e some =
    let size : length (drop at bytes ++ more) ≡ 1 = ap length e in
    let short : ltb (length bytes - at) 1 ≡ true = lt-ltb _ _ (omega (arith, length-drop at bytes, size, length-append (drop at bytes) more)) in
    rw short refl

abbrev pub single : ℕ → List ℕ
single n = n ∷ []

pub bytes_are_numbers : AreNumbers single (2 ^ 8) byte_at
bytes_are_numbers = record { took = byte_took; again = byte_again; cut = byte_cut }

-- ---- a field in its range

within : (least most n : ℕ) → (nat_le least n && nat_le n most) ≡ true → (least ≤ n) × (n ≤ most)
within least most n e = grind (arith, nat_tests)

is_within : (least most n : ℕ) → least ≤ n → n ≤ most → (nat_le least n && nat_le n most) ≡ true
is_within least most n le ge = grind (arith, nat_tests)

field_ok : {E : Type 0} (short : E) (wrong : ℕ → E) (least most : ℕ) (o : Option (ℕ × ℕ)) (x : ℕ × ℕ) → field short wrong least most o ≡ Ok x
    → (o ≡ Some x) × (least ≤ x.0) × (x.0 ≤ most)
field_ok short wrong least most None x e = absurd cc
field_ok short wrong least most (Some n) x e =
    let g = guard_ended (nat_le least n.0 && nat_le n.0 most) (wrong n.0) n x e in
    let bounds = within least most n.0 g.0 in
    (ap (λ (y : ℕ × ℕ). Some y) g.1, subst (λ (y : ℕ × ℕ). least ≤ y.0) g.1 bounds.0, subst (λ (y : ℕ × ℕ). y.0 ≤ most) g.1 bounds.1)

pub field_takes : {E : Type 0} (short : E) (wrong : ℕ → ℕ → E) (least most : ℕ) (spell : ℕ → List ℕ) (limit : ℕ) (read : List ℕ → ℕ → Option (ℕ × ℕ))
    → AreNumbers spell limit read
    → Takes spell (λ n. (least ≤ n) × (n ≤ most)) (λ bytes at. field short (wrong at) least most (read bytes at))
field_takes short wrong least most spell limit read numbers = record {
  took = λ bytes at x fits e.
      let ok = field_ok short (wrong at) least most (read bytes at) x e in
      let t = numbers.took bytes at x fits ok.0 in
      (t.0, (ok.1, ok.2));
}

pub field_reads : {E : Type 0} (short : E) (wrong : ℕ → ℕ → E) (least most : ℕ) (spell : ℕ → List ℕ) (limit : ℕ) (read : List ℕ → ℕ → Option (ℕ × ℕ))
    → AreNumbers spell limit read
    → (n : ℕ) → least ≤ n → n ≤ most → most < limit → Reads short n (spell n) (λ bytes at. field short (wrong at) least most (read bytes at))
field_reads short wrong least most spell limit read numbers n ge le lt = record {
  again = λ bytes at rest e. rw (numbers.again n (omega arith) bytes at rest e, is_within least most n ge le) refl;
  cut = λ bytes at more e some. rw (numbers.cut n bytes at more e some) refl;
}

-- ---- what is spelled so is read

-- two ways to cut one text
split : (x y a b : List ℕ) → x ++ y ≡ a ++ b → ((m : List ℕ) × (x ++ m ≡ a) × (0 < length m)) ⊎ ((m : List ℕ) × (x ≡ a ++ m) × (m ++ y ≡ b))
split x y [] b e = inr (x, refl, e)
split [] y (c ∷ a) b e = inl (c ∷ a, refl, omega arith)
split (c ∷ x) y (d ∷ a) b e =
    let heads : c ≡ d = cc in
    let tails : x ++ y ≡ a ++ b = cc in
    elim (split x y a b tails) [
      | inl m ↦ inl (m.0, cc, m.2)
      | inr m ↦ inr (m.0, cc, m.2)
    ]

abbrev pub then_of : {A D E : Type 0} → Reader A E → (A → Reader D E) → Reader D E
then_of r k bytes at = r bytes at >>= λ a. k a.0 bytes a.1

pub then_reads : {A D E : Type 0} (short : E) (r : Reader A E) (k : A → Reader D E) (a : A) (d : D) (x y : List ℕ) → Reads short a x r → Reads short d y (k a)
    → Reads short d (x ++ y) (then_of r k)
then_reads short r k a d x y p q = record {
  again = λ bytes at rest e.
      let e1 : drop at bytes ≡ x ++ (y ++ rest) = e ∙ append_assoc x y rest in
      let ra = p.again bytes at (y ++ rest) e1 in
      let rb = q.again bytes (at + length x) rest (drop_past bytes at x (y ++ rest) e1) in
      rw ra (rb ∙ ap (λ (n : ℕ). Ok (d, n)) (omega (arith, length-append x y)));
  cut = λ bytes at more e some.
      elim (split (drop at bytes) more x y e) [
        | inl m ↦ rw (p.cut bytes at m.0 m.1 m.2) refl
        | inr m ↦ rw (p.again bytes at m.0 m.1) (q.cut bytes (at + length x) more (ap (λ (t : List ℕ). t ++ more) (drop_past bytes at x m.0 m.1) ∙ m.2) some)
      ];
}

abbrev pub give : {A E : Type 0} → A → Reader A E
give a bytes at = Ok (a, at)

pub give_reads : {A E : Type 0} (short : E) (a : A) → Reads short a [] (give a)
give_reads short a = record {
  again = λ bytes at rest e. ap (λ (n : ℕ). Ok (a, n)) (omega arith);
  cut = λ bytes at more e some. let size : length (drop at bytes ++ more) ≡ 0 = ap length e in absurd (omega (arith, size, length-append (drop at bytes) more));
}

piece_reads : {E : Type 0} (short : E) (body : List ℕ) → Reads short body body (piece short (length body))
piece_reads short body = record {
  again = λ bytes at rest e.
      let long : ltb (length bytes - at) (length body) ≡ false = le-ltb _ _ (omega (arith, length-drop at bytes, ap length e, length-append body rest)) in
      rw (long, e, take_at body rest (length body) refl) refl;
  cut = λ bytes at more e some.
      let cut_off : ltb (length bytes - at) (length body) ≡ true = lt-ltb _ _ (omega (arith, length-drop at bytes, ap length e, length-append (drop at bytes) more)) in
      rw cut_off refl;
}

pub announced_reads : {E : Type 0} (short : E) (r : Reader ℕ E) (front : ℕ → List ℕ) (body : List ℕ) → Reads short (length body) (front (length body)) r
    → Reads short body (front (length body) ++ body) (announced short r)
announced_reads short r front body p = then_reads short r (piece short) (length body) body (front (length body)) body p (piece_reads short body)

pub one_reads : {A D E : Type 0} (short : E) (r : Reader A E) (make : A → D) (a : A) (x : List ℕ) → Reads short a x r → Reads short (make a) x (one r make)
one_reads short r make a x p =
    subst (λ (t : List ℕ). Reads short (make a) t (one r make)) (append-nil x) (then_reads short r (λ b. give (make b)) a (make a) x [] p (give_reads short (make a)))

pub two_reads : {A B D E : Type 0} (short : E) (r : Reader A E) (s : Reader B E) (make : A → B → D) (a : A) (b : B) (x y : List ℕ) → Reads short a x r
    → Reads short b y s → Reads short (make a b) (x ++ y) (two_of r s make)
two_reads short r s make a b x y p q = then_reads short r (λ c. one s (make c)) a (make a b) x y p (one_reads short s (make a) b y q)

pub three_reads : {A B C D E : Type 0} (short : E) (r : Reader A E) (s : Reader B E) (t : Reader C E) (make : A → B → C → D) (a : A) (b : B) (c : C) (x y z : List ℕ)
    → Reads short a x r → Reads short b y s → Reads short c z t → Reads short (make a b c) (x ++ y ++ z) (three_of r s t make)
three_reads short r s t make a b c x y z p q o =
    subst (λ (text : List ℕ). Reads short (make a b c) text (three_of r s t make)) (sym (append_assoc x y z)) (then_reads short r (λ d. two_of s t (make d)) a (make a b c) x (y ++ z) p (two_reads short s t (make a) b c y z q o))

-- ---- what is read is spelled so

pub announced_takes : {E : Type 0} (short : E) (r : Reader ℕ E) (front : ℕ → List ℕ) (Valid : ℕ → Type 0) → Takes front Valid r
    → Takes (λ body. front (length body) ++ body) (λ body. Valid (length body)) (announced short r)
announced_takes {E} short r front Valid p = record {
  took = λ bytes at x fits e.
      let b = bind_ok (r bytes at) (λ len. piece short len.0 bytes len.1) x e in
      let n = b.0 in
      let body = take b.0.0 (drop b.0.1 bytes) in
      let t = p.took bytes at b.0 fits b.1 in
      let g = guard_ok (ltb (length bytes - b.0.1) b.0.0) short (take b.0.0 (drop b.0.1 bytes), b.0.1 + b.0.0) x b.2 in
      let long : b.0.0 ≤ length bytes - b.0.1 = ltb-false _ _ g.0 in
      let len : length (take b.0.0 (drop b.0.1 bytes)) ≡ b.0.0 = omega (arith, length-take b.0.0 (drop b.0.1 bytes), length-drop b.0.1 bytes) in
      let second : Took bytes b.0.1 (take b.0.0 (drop b.0.1 bytes)) (b.0.1 + b.0.0) = record {
        parts = sym (take-append-drop b.0.0 (drop b.0.1 bytes)) ∙ ap (λ (u : List ℕ). take b.0.0 (drop b.0.1 bytes) ++ u) (drop-drop b.0.0 b.0.1 bytes);
        place = omega (arith, len);
      } in
      let both = Took_then bytes at b.0.1 (b.0.1 + b.0.0) (front b.0.0) (take b.0.0 (drop b.0.1 bytes)) t.0 second in
      let whole : Took bytes at (front (length (take b.0.0 (drop b.0.1 bytes))) ++ take b.0.0 (drop b.0.1 bytes)) (b.0.1 + b.0.0) = subst (λ (k : ℕ). Took bytes at (front k ++ take b.0.0 (drop b.0.1 bytes)) (b.0.1 + b.0.0)) (sym len) both in
      subst (λ (y : List ℕ × ℕ). Took bytes at (front (length y.0) ++ y.0) y.1 × Valid (length y.0)) g.1 (whole, subst Valid (sym len) t.1);
}

pub one_takes : {A D E : Type 0} (r : Reader A E) (make : A → D) (spell : A → List ℕ) (Valid : A → Type 0) (spell_d : D → List ℕ) (Valid_d : D → Type 0)
    → Takes spell Valid r
    → ((a : A) → Valid a → (spell_d (make a) ≡ spell a) × Valid_d (make a)) → Takes spell_d Valid_d (one r make)
one_takes {A} {D} {E} r make spell Valid spell_d Valid_d p made = record {
  took = λ bytes at x fits e.
      let a = bind_ok (r bytes at) (λ a. Ok (make a.0, a.1)) x e in
      let ta = p.took bytes at a.0 fits a.1 in
      let m = made a.0.0 ta.1 in
      let text : Took bytes at (spell_d (make a.0.0)) a.0.1 = rw m.0 ta.0 in
      subst (λ (y : D × ℕ). Took bytes at (spell_d y.0) y.1 × Valid_d y.0) (ok_is E (make a.0.0, a.0.1) x a.2) (text, m.1);
}

pub two_takes : {A B D E : Type 0} (r : Reader A E) (s : Reader B E) (make : A → B → D) (spell_a : A → List ℕ) (Valid_a : A → Type 0) (spell_b : B → List ℕ) (Valid_b : B → Type 0) (spell_d : D → List ℕ) (Valid_d : D → Type 0)
    → Takes spell_a Valid_a r → Takes spell_b Valid_b s
    → ((a : A) (b : B) → Valid_a a → Valid_b b → (spell_d (make a b) ≡ spell_a a ++ spell_b b) × Valid_d (make a b)) → Takes spell_d Valid_d (two_of r s make)
two_takes {A} {B} {D} {E} r s make spell_a Valid_a spell_b Valid_b spell_d Valid_d p q made = record {
  took = λ bytes at x fits e.
      let a = bind_ok (r bytes at) (λ a. s bytes a.1 >>= λ b. Ok (make a.0 b.0, b.1)) x e in
      let b = bind_ok (s bytes a.0.1) (λ b. Ok (make a.0.0 b.0, b.1)) x a.2 in
      let ta = p.took bytes at a.0 fits a.1 in
      let tb = q.took bytes a.0.1 b.0 fits b.1 in
      let m = made a.0.0 b.0.0 ta.1 tb.1 in
      let text : Took bytes at (spell_d (make a.0.0 b.0.0)) b.0.1 = rw m.0 (Took_then bytes at a.0.1 b.0.1 (spell_a a.0.0) (spell_b b.0.0) ta.0 tb.0) in
      subst (λ (y : D × ℕ). Took bytes at (spell_d y.0) y.1 × Valid_d y.0) (ok_is E (make a.0.0 b.0.0, b.0.1) x b.2) (text, m.1);
}

pub three_takes : {A B C D E : Type 0} (r : Reader A E) (s : Reader B E) (t : Reader C E) (make : A → B → C → D) (spell_a : A → List ℕ) (Valid_a : A → Type 0) (spell_b : B → List ℕ) (Valid_b : B → Type 0) (spell_c : C → List ℕ) (Valid_c : C → Type 0) (spell_d : D → List ℕ) (Valid_d : D → Type 0)
    → Takes spell_a Valid_a r → Takes spell_b Valid_b s → Takes spell_c Valid_c t
    → ((a : A) (b : B) (c : C) → Valid_a a → Valid_b b → Valid_c c → (spell_d (make a b c) ≡ spell_a a ++ spell_b b ++ spell_c c) × Valid_d (make a b c)) → Takes spell_d Valid_d (three_of r s t make)
three_takes {A} {B} {C} {D} {E} r s t make spell_a Valid_a spell_b Valid_b spell_c Valid_c spell_d Valid_d p q o made = record {
  took = λ bytes at x fits e.
      let a = bind_ok (r bytes at) (λ a. s bytes a.1 >>= λ b. t bytes b.1 >>= λ c. Ok (make a.0 b.0 c.0, c.1)) x e in
      let b = bind_ok (s bytes a.0.1) (λ b. t bytes b.1 >>= λ c. Ok (make a.0.0 b.0 c.0, c.1)) x a.2 in
      let c = bind_ok (t bytes b.0.1) (λ c. Ok (make a.0.0 b.0.0 c.0, c.1)) x b.2 in
      let ta = p.took bytes at a.0 fits a.1 in
      let tb = q.took bytes a.0.1 b.0 fits b.1 in
      let tc = o.took bytes b.0.1 c.0 fits c.1 in
      let m = made a.0.0 b.0.0 c.0.0 ta.1 tb.1 tc.1 in
      let front = Took_then bytes at a.0.1 b.0.1 (spell_a a.0.0) (spell_b b.0.0) ta.0 tb.0 in
      let text : Took bytes at (spell_d (make a.0.0 b.0.0 c.0.0)) c.0.1 = rw m.0 (Took_then bytes at b.0.1 c.0.1 (spell_a a.0.0 ++ spell_b b.0.0) (spell_c c.0.0) front tc.0) in
      subst (λ (y : D × ℕ). Took bytes at (spell_d y.0) y.1 × Valid_d y.0) (ok_is E (make a.0.0 b.0.0 c.0.0, c.0.1) x c.2) (text, m.1);
}

-- ---- two texts of which neither begins the other

pairs_same : {A : Type 0} (E : Type 0) (p q : A × ℕ) → done E p ≡ done E q → (p.0 ≡ q.0) × (p.1 ≡ q.1)
pairs_same {A} E p q e = let same = ok_is E p q e in (ap (λ (z : A × ℕ). z.0) same, ap (λ (z : A × ℕ). z.1) same)

pub one_value : {A E : Type 0} (short : E) (r : Reader A E) (a b : A) (x y u v : List ℕ) → Reads short a x r → Reads short b y r → x ++ u ≡ y ++ v
    → (a ≡ b) × (length x ≡ length y)
one_value {A} {E} short r a b x y u v p q e =
    let same = pairs_same E (a, 0 + length x) (b, 0 + length y) (sym (p.again (x ++ u) 0 u refl) ∙ q.again (x ++ u) 0 v e) in
    (same.0, omega (arith, same.1))

-- a spelling behind which anything may stand: of two in the same text both values and both rests are the same
pub apart : {A E : Type 0} (short : E) (r : Reader A E) (spell : A → List ℕ) (a b : A) (x y : List ℕ) → Reads short a (spell a) r → Reads short b (spell b) r
    → spell a ++ x ≡ spell b ++ y → (a ≡ b) × (x ≡ y)
apart {A} short r spell a b x y p q e =
    let same = one_value short r a b (spell a) (spell b) x y p q e in
    let e1 : spell b ++ x ≡ spell b ++ y = ap (λ (v : A). spell v ++ x) (sym same.0) ∙ e in
    (same.0, append_cancel_left (spell b) x y e1)
