-- The four lines of a plan's head after those of its cluster: what is judged is what they spell, both ways.
use Rattle.std.proofs.Common.{◌≡◌, ℕ, ◌+◌, ◌<◌, ◌≤◌, ◌^◌, false, nat_lt, IsTrue, List, [], ◌∷◌, length, Ok, Err, codes, refl, ap, subst, ◌∙◌, inl, inr, arith}
use Rattle.std.specs.List.{AllZip, AllByRecursion}
use Rattle.std.proofs.lemmas.Bool.Decides.{nat_tests}
use Rattle.std.proofs.lemmas.Slice.Zip.{AllZip-long}
use Rattle.record_codec.specs.Reading.{◌>>=◌}
use Rattle.record_codec.proofs.Reading.{bind_ok, chosen, ok_is}
use Rattle.script_text.specs.Names.{ScriptKind}
use Rattle.script_text.specs.Names.kinds
use Rattle.script_text.specs.declared.plan_head.Faults.{Faults}
use Rattle.script_text.specs.Words.{is_printable, words_of, SpellsDecimal}
use Rattle.script_text.specs.SpelledPlans.{SpellsNumbers}
use Rattle.script_text.specs.Judged.{Judged, each, from_to, number_where, number_below, first_of, both_of, due_in}
use Rattle.script_text.specs.JudgedPlans.{few_of, readers_in, submitters_in, percent_in, whole_of, faults_of, faults_in, limits_in}
use Rattle.script_text.proofs.NumberLemmas.{first_of_ok, both_of_ok, due_in_ok, due_in_back, number_where_ok, number_where_back, number_below_ok, number_below_back, from_to_is, from_to_true, each_ok, each_back}

-- ---- readers and submitters

abbrev pub AreBelow : ℕ → List ℕ → Type 0
AreBelow limit = AllByRecursion (λ n. n < limit)

abbrev SpellsBelow : ℕ → List ℕ → ℕ → Type 0
SpellsBelow limit word n = SpellsDecimal word n × (n < limit)

apart : (limit : ℕ) (words : List (List ℕ)) (ns : List ℕ) → AllZip (SpellsBelow limit) words ns → AllZip SpellsDecimal words ns × AreBelow limit ns
apart limit [] [] z = (tt, tt)
apart limit [] (n ∷ ns) z = absurd z
apart limit (word ∷ words) [] z = absurd z
apart limit (word ∷ words) (n ∷ ns) z = let rest = apart limit words ns z.1 in ((z.0.0, rest.0), (z.0.1, rest.1))

together : (limit : ℕ) (words : List (List ℕ)) (ns : List ℕ) → AllZip SpellsDecimal words ns → AreBelow limit ns → AllZip (SpellsBelow limit) words ns
together limit [] [] z h = tt
together limit [] (n ∷ ns) z h = absurd z
together limit (word ∷ words) [] z h = absurd z
together limit (word ∷ words) (n ∷ ns) z h = ((z.0, h.0), together limit words ns z.1 h.1)

few_of_ok : (limit : ℕ) (words : List (List ℕ)) (ns : List ℕ) → few_of limit words ≡ Ok ns → AllZip SpellsDecimal words ns × AreBelow limit ns × (length ns ≤ 8)
unfolding few_of
few_of_ok limit words ns e =
    elim (chosen (nat_lt 8 (length words)) (Err kinds.Word) (each (number_below limit) words) (Ok ns) e) [
      | inl h ↦ absurd (let bad = h.1 in cc)
      | inr h ↦
          let z = apart limit words ns (each_ok (number_below limit) (SpellsBelow limit) (number_below_ok limit) words ns h.1) in
          let size : length ns ≡ length words = AllZip-long SpellsDecimal words ns z.0 in
          let few : length words ≤ 8 = grind (arith, nat_tests, h.0) in
          (z.0, z.1, omega (arith, few))
    ]

few_of_back : (limit : ℕ) (words : List (List ℕ)) (ns : List ℕ) → AllZip SpellsDecimal words ns → AreBelow limit ns → length ns ≤ 8 → few_of limit words ≡ Ok ns
unfolding few_of
few_of_back limit words ns z h few =
    let size : length ns ≡ length words = AllZip-long SpellsDecimal words ns z in
    let fits : nat_lt 8 (length words) ≡ false = grind (arith, nat_tests) in
    rw fits (each_back (number_below limit) (SpellsBelow limit) (λ word n s. number_below_back limit word n s.0 s.1) words ns (together limit words ns z h))

-- a line of the due word and a few numbers
abbrev pub few_line : List ℕ → ℕ → List ℕ → Judged (List ℕ)
few_line due limit line = due_in due line >>= λ words. few_of limit words

pub few_line_ok : (due : List ℕ) (limit : ℕ) (line ns : List ℕ) → few_line due limit line ≡ Ok ns
    → IsTrue (is_printable line) × SpellsNumbers due (words_of line) ns × AreBelow limit ns × (length ns ≤ 8)
few_line_ok due limit line ns e =
    let a = bind_ok (due_in due line) (λ words. few_of limit words) ns e in
    let d = due_in_ok due line a.0 a.1 in
    let f = few_of_ok limit a.0 ns a.2 in
    (d.0, (a.0, d.1, f.0), f.1, f.2)

few_line_back : (due : List ℕ) (limit : ℕ) (line ns : List ℕ) → IsTrue (is_printable line) → SpellsNumbers due (words_of line) ns → AreBelow limit ns
    → length ns ≤ 8 → few_line due limit line ≡ Ok ns
few_line_back due limit line ns p s h few = rw (due_in_back due line s.0 p s.1) (few_of_back limit s.0 ns s.2 h few)

pub readers_in_back : (limit : ℕ) (line ns : List ℕ) → IsTrue (is_printable line) → SpellsNumbers (codes "readers") (words_of line) ns → AreBelow limit ns
    → length ns ≤ 8 → readers_in limit line ≡ Ok ns
unfolding readers_in
readers_in_back limit line ns p s h few = few_line_back (codes "readers") limit line ns p s h few

pub submitters_in_back : (limit : ℕ) (line ns : List ℕ) → IsTrue (is_printable line) → SpellsNumbers (codes "submitters") (words_of line) ns → AreBelow limit ns
    → length ns ≤ 8 → submitters_in limit line ≡ Ok ns
unfolding submitters_in
submitters_in_back limit line ns p s h few = few_line_back (codes "submitters") limit line ns p s h few

-- ---- faults

percent_in_ok : (word : List ℕ) (n : ℕ) → percent_in word ≡ Ok n → SpellsDecimal word n
unfolding percent_in
percent_in_ok word n e = (number_where_ok (from_to 0 100) word n e).0

percent_in_back : (word : List ℕ) (n : ℕ) → SpellsDecimal word n → n ≤ 100 → percent_in word ≡ Ok n
unfolding percent_in
percent_in_back word n s h = number_where_back (from_to 0 100) word n s (from_to_true 0 100 n (omega arith) h)

abbrev pub total : Faults → ℕ
total f = f.lose + f.repeat + f.late + f.cut

whole_of_ok : (f g : Faults) → whole_of f ≡ Ok g → (f ≡ g) × (total g ≤ 100)
whole_of_ok f g e =
    elim (chosen (nat_lt 100 (total f)) (Err kinds.Range) (Ok f) (Ok g) e) [
      | inl h ↦ absurd (let bad = h.1 in cc)
      | inr h ↦
          let same : f ≡ g = ok_is ScriptKind f g h.1 in
          let few : total f ≤ 100 = grind (arith, nat_tests, h.0) in
          (same, subst (λ (x : Faults). total x ≤ 100) same few)
    ]

abbrev pub fault_numbers : Faults → List ℕ
fault_numbers f = f.seed ∷ f.lose ∷ f.repeat ∷ f.late ∷ f.cut ∷ []

abbrev faults_are : ℕ → ℕ → ℕ → ℕ → ℕ → Faults
faults_are seed lose repeated late cut = record { seed = seed; lose = lose; repeat = repeated; late = late; cut = cut }

-- the numbers of the five words
abbrev from_numbers : List ℕ → List ℕ → List ℕ → List ℕ → List ℕ → Judged Faults
from_numbers w1 w2 w3 w4 w5 =
    number_where (from_to 0 4294967295) w1 >>= λ seed. percent_in w2 >>= λ lose. percent_in w3 >>= λ repeated. percent_in w4 >>= λ late. percent_in w5 >>= λ cut. whole_of (faults_are seed lose repeated late cut)

record SpellsFaults (w1 w2 w3 w4 w5 : List ℕ) (f : Faults) : Type 0 where
  seed : SpellsDecimal w1 f.seed
  lose : SpellsDecimal w2 f.lose
  repeated : SpellsDecimal w3 f.repeat
  late : SpellsDecimal w4 f.late
  cut : SpellsDecimal w5 f.cut
  few : f.seed ≤ 4294967295

from_numbers_ok : (w1 w2 w3 w4 w5 : List ℕ) (f : Faults) → from_numbers w1 w2 w3 w4 w5 ≡ Ok f → SpellsFaults w1 w2 w3 w4 w5 f × (total f ≤ 100)
from_numbers_ok w1 w2 w3 w4 w5 f e =
    let n1 = bind_ok (number_where (from_to 0 4294967295) w1) (λ seed. percent_in w2 >>= λ lose. percent_in w3 >>= λ repeated. percent_in w4 >>= λ late. percent_in w5 >>= λ cut. whole_of (faults_are seed lose repeated late cut)) f e in
    let n2 = bind_ok (percent_in w2) (λ lose. percent_in w3 >>= λ repeated. percent_in w4 >>= λ late. percent_in w5 >>= λ cut. whole_of (faults_are n1.0 lose repeated late cut)) f n1.2 in
    let n3 = bind_ok (percent_in w3) (λ repeated. percent_in w4 >>= λ late. percent_in w5 >>= λ cut. whole_of (faults_are n1.0 n2.0 repeated late cut)) f n2.2 in
    let n4 = bind_ok (percent_in w4) (λ late. percent_in w5 >>= λ cut. whole_of (faults_are n1.0 n2.0 n3.0 late cut)) f n3.2 in
    let n5 = bind_ok (percent_in w5) (λ cut. whole_of (faults_are n1.0 n2.0 n3.0 n4.0 cut)) f n4.2 in
    let end = whole_of_ok (faults_are n1.0 n2.0 n3.0 n4.0 n5.0) f n5.2 in
    let s = number_where_ok (from_to 0 4294967295) w1 n1.0 n1.1 in (
      subst (SpellsFaults w1 w2 w3 w4 w5) end.0 (record {
        seed = s.0;
        lose = percent_in_ok w2 n2.0 n2.1;
        repeated = percent_in_ok w3 n3.0 n3.1;
        late = percent_in_ok w4 n4.0 n4.1;
        cut = percent_in_ok w5 n5.0 n5.1;
        few = (from_to_is 0 4294967295 n1.0 s.1).1;
      }),
      end.1,
    )

-- the five words
abbrev after_third : List ℕ → List ℕ → List ℕ → List (List ℕ) → Judged Faults
after_third w1 w2 w3 words = both_of words >>= λ last. from_numbers w1 w2 w3 last.0 last.1

abbrev after_second : List ℕ → List ℕ → List (List ℕ) → Judged Faults
after_second w1 w2 words = first_of words >>= λ third. after_third w1 w2 third.0 third.1

abbrev after_first : List ℕ → List (List ℕ) → Judged Faults
after_first w1 words = first_of words >>= λ second. after_second w1 second.0 second.1

record HasFaults (words : List (List ℕ)) (f : Faults) : Type 0 where
  w1 : List ℕ
  w2 : List ℕ
  w3 : List ℕ
  w4 : List ℕ
  w5 : List ℕ
  words_are : words ≡ w1 ∷ w2 ∷ w3 ∷ w4 ∷ w5 ∷ []
  numbers : from_numbers w1 w2 w3 w4 w5 ≡ Ok f

five_words : (words : List (List ℕ)) (f : Faults) → faults_of words ≡ Ok f → HasFaults words f
unfolding faults_of
five_words words f e =
    let a = bind_ok (first_of words) (λ first. after_first first.0 first.1) f e in
    let b = bind_ok (first_of a.0.1) (λ second. after_second a.0.0 second.0 second.1) f a.2 in
    let c = bind_ok (first_of b.0.1) (λ third. after_third a.0.0 b.0.0 third.0 third.1) f b.2 in
    let d = bind_ok (both_of c.0.1) (λ last. from_numbers a.0.0 b.0.0 c.0.0 last.0 last.1) f c.2 in
    record {
      w1 = a.0.0;
      w2 = b.0.0;
      w3 = c.0.0;
      w4 = d.0.0;
      w5 = d.0.1;
      words_are = first_of_ok words a.0 a.1 ∙ ap (λ (ws : List (List ℕ)). a.0.0 ∷ ws) (first_of_ok a.0.1 b.0 b.1 ∙ ap (λ (ws : List (List ℕ)). b.0.0 ∷ ws) (first_of_ok b.0.1 c.0 c.1 ∙ ap (λ (ws : List (List ℕ)). c.0.0 ∷ ws) (both_of_ok c.0.1 d.0 d.1)));
      numbers = d.2;
    }

pub faults_in_ok : (line : List ℕ) (f : Faults) → faults_in line ≡ Ok f
    → IsTrue (is_printable line) × SpellsNumbers (codes "faults") (words_of line) (fault_numbers f) × (f.seed < 2 ^ 32) × (total f ≤ 100)
unfolding faults_in
faults_in_ok line f e =
    let a = bind_ok (due_in (codes "faults") line) (λ words. faults_of words) f e in
    let d = due_in_ok (codes "faults") line a.0 a.1 in
    let w = five_words a.0 f a.2 in
    let s = from_numbers_ok w.w1 w.w2 w.w3 w.w4 w.w5 f w.numbers in
    let seed : f.seed < 2 ^ 32 = omega (arith, s.0.few) in
    let words_are : words_of line ≡ codes "faults" ∷ w.w1 ∷ w.w2 ∷ w.w3 ∷ w.w4 ∷ w.w5 ∷ [] = d.1 ∙ ap (λ (ws : List (List ℕ)). codes "faults" ∷ ws) w.words_are in
    (d.0, (w.w1 ∷ w.w2 ∷ w.w3 ∷ w.w4 ∷ w.w5 ∷ [], words_are, (s.0.seed, (s.0.lose, (s.0.repeated, (s.0.late, (s.0.cut, tt)))))), seed, s.1)

pub faults_in_back : (line : List ℕ) (f : Faults) → IsTrue (is_printable line) → SpellsNumbers (codes "faults") (words_of line) (fault_numbers f)
    → f.seed < 2 ^ 32 → total f ≤ 100 → faults_in line ≡ Ok f
unfolding faults_in faults_of
faults_in_back line f p ([], words_are, z) seed few = absurd z
faults_in_back line f p (w1 ∷ [], words_are, z) seed few = absurd z.1
faults_in_back line f p (w1 ∷ w2 ∷ [], words_are, z) seed few = absurd z.1.1
faults_in_back line f p (w1 ∷ w2 ∷ w3 ∷ [], words_are, z) seed few = absurd z.1.1.1
faults_in_back line f p (w1 ∷ w2 ∷ w3 ∷ w4 ∷ [], words_are, z) seed few = absurd z.1.1.1.1
faults_in_back line f p (w1 ∷ w2 ∷ w3 ∷ w4 ∷ w5 ∷ w6 ∷ ws, words_are, z) seed few = absurd z.1.1.1.1.1
faults_in_back line f p (w1 ∷ w2 ∷ w3 ∷ w4 ∷ w5 ∷ [], words_are, z) seed few =
    let fits : nat_lt 100 (total f) ≡ false = grind (arith, nat_tests, few) in
    rw (
      due_in_back (codes "faults") line (w1 ∷ w2 ∷ w3 ∷ w4 ∷ w5 ∷ []) p words_are,
      number_where_back (from_to 0 4294967295) w1 f.seed z.0 (from_to_true 0 4294967295 f.seed (omega arith) (omega (arith, seed))),
      percent_in_back w2 f.lose z.1.0 (omega (arith, few)),
      percent_in_back w3 f.repeat z.1.1.0 (omega (arith, few)),
      percent_in_back w4 f.late z.1.1.1.0 (omega (arith, few)),
      percent_in_back w5 f.cut z.1.1.1.1.0 (omega (arith, few)),
      fits,
    ) refl

-- ---- the drain

pub limits_in_ok : (line : List ℕ) (k : ℕ × ℕ) → limits_in line ≡ Ok k
    → IsTrue (is_printable line) × SpellsNumbers (codes "drain") (words_of line) (k.0 ∷ k.1 ∷ []) × (k.0 ≤ 200000) × (k.1 ≤ 10000)
unfolding limits_in
limits_in_ok line k e =
    let a = bind_ok (due_in (codes "drain") line) (λ words. both_of words >>= λ both. number_where (from_to 0 200000) both.0 >>= λ limit. number_where (from_to 0 10000) both.1 >>= λ settle. Ok (limit, settle)) k e in
    let b = bind_ok (both_of a.0) (λ both. number_where (from_to 0 200000) both.0 >>= λ limit. number_where (from_to 0 10000) both.1 >>= λ settle. Ok (limit, settle)) k a.2 in
    let m = bind_ok (number_where (from_to 0 200000) b.0.0) (λ limit. number_where (from_to 0 10000) b.0.1 >>= λ settle. Ok (limit, settle)) k b.2 in
    let n = bind_ok (number_where (from_to 0 10000) b.0.1) (λ settle. Ok (m.0, settle)) k m.2 in
    let d = due_in_ok (codes "drain") line a.0 a.1 in
    let s = number_where_ok (from_to 0 200000) b.0.0 m.0 m.1 in
    let t = number_where_ok (from_to 0 10000) b.0.1 n.0 n.1 in
    let words_are : words_of line ≡ codes "drain" ∷ b.0.0 ∷ b.0.1 ∷ [] = d.1 ∙ ap (λ (ws : List (List ℕ)). codes "drain" ∷ ws) (both_of_ok a.0 b.0 b.1) in
    let P : ℕ × ℕ → Type 0 = λ q. IsTrue (is_printable line) × SpellsNumbers (codes "drain") (words_of line) (q.0 ∷ q.1 ∷ []) × (q.0 ≤ 200000) × (q.1 ≤ 10000) in
    subst P (ok_is ScriptKind (m.0, n.0) k n.2)
    (d.0, (b.0.0 ∷ b.0.1 ∷ [], words_are, (s.0, (t.0, tt))), (from_to_is 0 200000 m.0 s.1).1, (from_to_is 0 10000 n.0 t.1).1)

pub limits_in_back : (line : List ℕ) (limit settle : ℕ) → IsTrue (is_printable line) → SpellsNumbers (codes "drain") (words_of line) (limit ∷ settle ∷ [])
    → limit ≤ 200000 → settle ≤ 10000 → limits_in line ≡ Ok (limit, settle)
unfolding limits_in
limits_in_back line limit settle p ([], words_are, z) h k = absurd z
limits_in_back line limit settle p (w1 ∷ [], words_are, z) h k = absurd z.1
limits_in_back line limit settle p (w1 ∷ w2 ∷ w3 ∷ ws, words_are, z) h k = absurd z.1.1
limits_in_back line limit settle p (w1 ∷ w2 ∷ [], words_are, z) h k =
    rw (
      due_in_back (codes "drain") line (w1 ∷ w2 ∷ []) p words_are,
      number_where_back (from_to 0 200000) w1 limit z.0 (from_to_true 0 200000 limit (omega arith) h),
      number_where_back (from_to 0 10000) w2 settle z.1.0 (from_to_true 0 10000 settle (omega arith) k),
    ) refl
