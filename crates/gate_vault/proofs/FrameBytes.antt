-- What an append does to the file, byte by byte.
use Rattle.std.proofs.Common.{◌≡◌, inl, inr, refl, sym, ap, ◌∙◌, ℕ, ◌+◌, ◌-◌, ◌≤◌, min, List, [], ◌∷◌, ◌++◌, length, take, drop, get_or, arith, append_assoc, append-nil, length-append, take-append-drop}
use Rattle.std.proofs.lemmas.List.{take_at, drop_at, drop_all, drop_more, take-take, take-append-le, length-take}
use Rattle.std.proofs.lemmas.Bool.{cases_eq}
use Rattle.spec_base.specs.Disk.{Torn}
use Rattle.gate_vault.specs.File.{head, payload, frames, gate_after, StandsFor, StandsWithGate, StandsClosed, AreShort, IsBeforeOrAfter}
use Rattle.gate_vault.specs.inside.Writes.{WrittenOver}

-- the head and the frames of these entries
abbrev pub body : List (List ℕ) → List ℕ
body entries = head ++ frames entries

pub length_body : (entries : List (List ℕ)) → length (body entries) ≡ gate_after entries
length_body entries = length-append head (frames entries)

pub length_payload : (entry : List ℕ) → length (payload entry) ≡ 2 + length entry
length_payload entry = omega arith

frames_append : (entries : List (List ℕ)) (entry : List ℕ) → frames (entries ++ entry ∷ []) ≡ frames entries ++ 1 ∷ payload entry
frames_append [] entry = append-nil (1 ∷ payload entry)
frames_append (first ∷ entries) entry = ap (λ (l : List ℕ). 1 ∷ payload first ++ l) (frames_append entries entry) ∙ sym (append_assoc (1 ∷ payload first) (frames entries) (1 ∷ payload entry))

pub body_append : (entries : List (List ℕ)) (entry : List ℕ) → body (entries ++ entry ∷ []) ≡ body entries ++ 1 ∷ payload entry
body_append entries entry = ap (λ (l : List ℕ). head ++ l) (frames_append entries entry) ∙ sym (append_assoc head (frames entries) (1 ∷ payload entry))

pub gate_after_append : (entries : List (List ℕ)) (entry : List ℕ) → gate_after (entries ++ entry ∷ []) ≡ gate_after entries + (3 + length entry)
gate_after_append entries entry =
    omega (arith, ap length (frames_append entries entry), length-append (frames entries) (1 ∷ payload entry))

pub areshort_append : (entries : List (List ℕ)) (entry : List ℕ) → AreShort entries → length entry ≤ 4096 → AreShort (entries ++ entry ∷ [])
areshort_append [] entry short le = (le, tt)
areshort_append (first ∷ entries) entry short le = (short.0, areshort_append entries entry short.1 le)

-- a file with the gate stands for the entries
pub stands_with : (file : List ℕ) (entries : List (List ℕ)) → StandsWithGate file entries → StandsFor file entries
stands_with file entries stands = record { rest = stands.gate ∷ stands.rest; split = stands.split; closed = stands.closed }

-- and so does one with 00 at its last gate
pub closed_stands : (file : List ℕ) (entries : List (List ℕ)) → StandsClosed file entries → StandsWithGate file entries
closed_stands file entries stands = record { gate = 0; rest = stands.rest; split = stands.split; closed = omega arith }

-- a gate, the payload and a closed gate behind the frames
pub record IsStaged (entries : List (List ℕ)) (entry file : List ℕ) : Type 0 where
  pub gate : ℕ
  pub rest : List ℕ
  pub split : file ≡ body entries ++ (gate ∷ (payload entry ++ (0 ∷ rest)))

nil_of_length : (l : List ℕ) → length l ≡ 0 → l ≡ []
nil_of_length [] e = refl
nil_of_length (x ∷ l) e = absurd (omega arith)

pub staged_stands : (entries : List (List ℕ)) (entry c : List ℕ) → IsStaged entries entry c → IsBeforeOrAfter entries entry c
staged_stands entries entry c staged = elim (cases_eq staged.gate 1) [
  | inl is_open ↦ inr (record {
    gate = 0;
    rest = staged.rest;
    split =
        staged.split
        ∙ ap (λ (g : ℕ). body entries ++ (g ∷ (payload entry ++ (0 ∷ staged.rest)))) is_open
        ∙ sym (append_assoc (body entries) (1 ∷ payload entry) (0 ∷ staged.rest))
        ∙ ap (λ (l : List ℕ). l ++ (0 ∷ staged.rest)) (sym (body_append entries entry));
    closed = omega arith;
  })
  | inr shut ↦ inl (record { gate = staged.gate; rest = payload entry ++ (0 ∷ staged.rest); split = staged.split; closed = shut })
]

module _ (entries : List (List ℕ)) (entry : List ℕ) (at : ℕ) (place : at ≡ gate_after entries) where
  size : length (body entries) ≡ at
  size = length_body entries ∙ sym place

  -- the closed gate stands in each torn image of the first write
  pub torn_behind : (n : ℕ) (file c : List ℕ) → StandsWithGate file entries → Torn (at + 1) n file c → StandsWithGate c entries
  torn_behind n file c stands torn =
      let front_file : List ℕ = body entries ++ (stands.gate ∷ []) in
      let whole : file ≡ front_file ++ stands.rest = stands.split ∙ sym (append_assoc (body entries) (stands.gate ∷ []) stands.rest) in
      let long : length front_file ≡ at + 1 = omega (arith, length-append (body entries) (stands.gate ∷ []), size) in
      let within : min (at + 1) (length file) ≡ at + 1 = omega (arith, ap length whole, length-append front_file stands.rest, long) in
      let front : take (at + 1) c ≡ front_file =
      ap (λ (k : ℕ). take k c) (sym within) ∙ torn.before ∙ ap (λ (k : ℕ). take k file) within ∙ ap (take (at + 1)) whole ∙ take_at front_file stands.rest (at + 1) long in
      record {
        gate = stands.gate;
        rest = drop (at + 1) c;
        split = sym (take-append-drop (at + 1) c) ∙ ap (λ (l : List ℕ). l ++ drop (at + 1) c) front ∙ append_assoc (body entries) (stands.gate ∷ []) (drop (at + 1) c);
        closed = stands.closed;
      }

  -- what stands up to the gate, where a list begins with the frames and ends one byte behind them
  one_behind : (front : List ℕ) → length front ≡ at + 1 → take at front ≡ body entries → front ≡ body entries ++ (get_or front at 0 ∷ [])
  one_behind front long begins =
      sym (take-append-drop at front) ∙ ap (λ (l : List ℕ). l ++ drop at front) begins
      ∙ ap (λ (l : List ℕ). body entries ++ l) (drop_more front at 0 (omega arith) ∙ ap (λ (l : List ℕ). get_or front at 0 ∷ l) (drop_all (at + 1) front (omega arith)))

  -- the first write, whole
  pub written_behind : (file c : List ℕ) → StandsFor file entries → WrittenOver (at + 1) (payload entry ++ (0 ∷ [])) file c → IsStaged entries entry c
  written_behind file c stands over =
      let mid : List ℕ = over.0 in
      let torn = over.1 in
      let written = over.2 in
      let there : at ≤ length file = omega (arith, ap length stands.split, length-append (body entries) stands.rest, size) in
      let far : at ≤ min (at + 1) (length file) = omega arith in
      let begins : take at mid ≡ body entries =
      sym (take-take at (min (at + 1) (length file)) mid far) ∙ ap (take at) torn.before ∙ take-take at (min (at + 1) (length file)) file far
      ∙ ap (take at) stands.split ∙ take_at (body entries) stands.rest at size in
      let front : List ℕ = take (at + 1) mid ++ written.gap in
      let rest : List ℕ = drop (at + 1 + length (payload entry ++ (0 ∷ []))) mid in
      let front_long : length front ≡ at + 1 = omega (arith, length-append (take (at + 1) mid) written.gap, length-take (at + 1) mid, written.reaches) in
      let front_begins : take at front ≡ body entries =
      take-append-le at (take (at + 1) mid) written.gap (omega (arith, length-take (at + 1) mid, torn.no_shorter)) ∙ take-take at (at + 1) mid (omega arith) ∙ begins in
      let gate = get_or front at 0 in
      record {
        gate = gate;
        rest = rest;
        split =
            written.result
            ∙ ap (λ (l : List ℕ). l ++ (payload entry ++ (0 ∷ [])) ++ rest) (one_behind front front_long front_begins)
            ∙ append_assoc (body entries ++ (gate ∷ [])) (payload entry ++ (0 ∷ [])) rest
            ∙ append_assoc (body entries) (gate ∷ []) ((payload entry ++ (0 ∷ [])) ++ rest)
            ∙ ap (λ (l : List ℕ). body entries ++ (gate ∷ l)) (append_assoc (payload entry) (0 ∷ []) rest);
      }

  -- in each torn image of the second write the gate is open or closed, and all else stands
  pub torn_gate : (file c : List ℕ) → IsStaged entries entry file → Torn at 1 file c → IsStaged entries entry c
  torn_gate file c staged torn =
      let tail : List ℕ = payload entry ++ (0 ∷ staged.rest) in
      let front_file : List ℕ = body entries ++ (staged.gate ∷ []) in
      let whole : file ≡ front_file ++ tail = staged.split ∙ sym (append_assoc (body entries) (staged.gate ∷ []) tail) in
      let long : length front_file ≡ at + 1 = omega (arith, length-append (body entries) (staged.gate ∷ []), size) in
      let reaches : at + 1 ≤ length file = omega (arith, ap length whole, length-append front_file tail, long) in
      let within : min at (length file) ≡ at = omega arith in
      let begins : take at c ≡ body entries =
      ap (λ (k : ℕ). take k c) (sym within) ∙ torn.before ∙ ap (λ (k : ℕ). take k file) within ∙ ap (take at) staged.split ∙ take_at (body entries) (staged.gate ∷ tail) at size in
      let behind : take (length file - (at + 1)) (drop (at + 1) c) ≡ tail = torn.after ∙ ap (drop (at + 1)) whole ∙ drop_at front_file tail (at + 1) long in
      let junk : List ℕ = drop (length file - (at + 1)) (drop (at + 1) c) in
      let gate = get_or c at 0 in
      let tail_and_junk : drop (at + 1) c ≡ payload entry ++ (0 ∷ (staged.rest ++ junk)) =
      sym (take-append-drop (length file - (at + 1)) (drop (at + 1) c)) ∙ ap (λ (l : List ℕ). l ++ junk) behind ∙ append_assoc (payload entry) (0 ∷ staged.rest) junk in
      record {
        gate = gate;
        rest = staged.rest ++ junk;
        split =
            sym (take-append-drop at c) ∙ ap (λ (l : List ℕ). l ++ drop at c) begins
            ∙ ap (λ (l : List ℕ). body entries ++ l) (drop_more c at 0 (omega (arith, torn.no_shorter)) ∙ ap (λ (l : List ℕ). gate ∷ l) tail_and_junk);
      }

  -- the second write, whole
  pub written_gate : (file c : List ℕ) → IsStaged entries entry file → WrittenOver at (1 ∷ []) file c → StandsClosed c (entries ++ entry ∷ [])
  written_gate file c staged over =
      let mid : List ℕ = over.0 in
      let written = over.2 in
      let after : IsStaged entries entry mid = torn_gate file mid staged over.1 in
      let tail : List ℕ = payload entry ++ (0 ∷ after.rest) in
      let front_mid : List ℕ = body entries ++ (after.gate ∷ []) in
      let whole : mid ≡ front_mid ++ tail = after.split ∙ sym (append_assoc (body entries) (after.gate ∷ []) tail) in
      let long : length front_mid ≡ at + 1 = omega (arith, length-append (body entries) (after.gate ∷ []), size) in
      let there : at + 1 ≤ length mid = omega (arith, ap length whole, length-append front_mid tail, long) in
      let begins : take at mid ≡ body entries = ap (take at) after.split ∙ take_at (body entries) (after.gate ∷ tail) at size in
      let ends : drop (at + 1) mid ≡ tail = ap (drop (at + 1)) whole ∙ drop_at front_mid tail (at + 1) long in
      let no_gap : written.gap ≡ [] = nil_of_length written.gap (omega (arith, written.reaches)) in
      record {
        rest = after.rest;
        split =
            written.result
            ∙ ap (λ (l : List ℕ). l ++ written.gap ++ (1 ∷ []) ++ drop (at + 1) mid) begins
            ∙ ap (λ (l : List ℕ). body entries ++ l ++ (1 ∷ []) ++ drop (at + 1) mid) no_gap
            ∙ ap (λ (l : List ℕ). l ++ (1 ∷ []) ++ drop (at + 1) mid) (append-nil (body entries))
            ∙ ap (λ (l : List ℕ). body entries ++ (1 ∷ []) ++ l) ends
            ∙ append_assoc (body entries) (1 ∷ []) tail
            ∙ sym (append_assoc (body entries) (1 ∷ payload entry) (0 ∷ after.rest))
            ∙ ap (λ (l : List ℕ). l ++ (0 ∷ after.rest)) (sym (body_append entries entry));
      }

-- the head and a closed gate over whatever stood there
pub formatted : (file c : List ℕ) → WrittenOver 0 (head ++ (0 ∷ [])) file c → StandsClosed c []
formatted file c over =
    let mid : List ℕ = over.0 in
    let written = over.2 in
    let no_gap : written.gap ≡ [] = nil_of_length written.gap (omega (arith, written.reaches)) in
    record {
      rest = drop 9 mid;
      split = written.result ∙ ap (λ (l : List ℕ). l ++ (head ++ (0 ∷ [])) ++ drop 9 mid) no_gap;
    }
