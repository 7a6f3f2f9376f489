-- The six lines of the head together.
use Rattle.std.proofs.Common.{◌≡◌, ℕ, IsTrue, List, [], ◌∷◌, map, take, drop, Result, Ok, Err, refl, sym, ap, subst, ◌∙◌}
use Rattle.std.specs.List.{AllByRecursion}
use Rattle.record_codec.specs.Reading.{◌>>=◌}
use Rattle.record_codec.proofs.Reading.{bind_ok, ok_is}
use Rattle.msg_wire.specs.Valid.{IsValidConfig}
use Rattle.script_text.specs.Names.{Row, AppKind, Config}
use Rattle.script_text.specs.Lines.{Line}
use Rattle.script_text.specs.Words.{is_printable, words_of}
use Rattle.script_text.specs.Spelled.{SpellsHead}
use Rattle.script_text.specs.Judged.{Judged, version_in, seqs_in, shards_in, window_in, clients_in, consumers_in}
use Rattle.script_text.specs.Reading.{Refusal, on_line, due_line, head_in}
use Rattle.script_text.proofs.NumberLemmas.{from_to_is, from_to_true}
use Rattle.script_text.proofs.HeadSpelled.{version_in_ok, version_in_back, seqs_in_ok, seqs_in_back, majority_is, majority_true, shards_in_ok, shards_in_back, window_in_ok, window_in_back, clients_in_ok, clients_in_back, consumers_in_ok, consumers_in_back}

-- a line is printable
abbrev pub IsPlain : Line → Type 0
IsPlain l = IsTrue (is_printable l.bytes)

-- lines that begin with the head of a cluster, and the rest of them
pub record HasHead (due : List ℕ) (lines : List Line) (c : Config) (rest : List Line) : Type 0 where
  pub rest_is : rest ≡ drop 6 lines
  pub plain : AllByRecursion IsPlain (take 6 lines)
  pub head : SpellsHead due (map (λ (l : Line). words_of l.bytes) (take 6 lines)) c
  pub valid : IsValidConfig c

module _ {A : Type 0} (end : ℕ) (judge : List ℕ → Judged A) where
  pub on_line_ok : (number : ℕ) (j : Judged A) (x : A) → on_line number j ≡ Ok x → j ≡ Ok x
  on_line_ok number (Ok y) x e = ap Ok (ok_is Refusal y x e)
  on_line_ok number (Err kind) x e = absurd cc

  pub due_line_ok : (lines : List Line) (p : A × List Line) → due_line end judge lines ≡ Ok p → (l : Line) × (lines ≡ l ∷ p.1) × (judge l.bytes ≡ Ok p.0)
  due_line_ok [] p e = absurd cc
  due_line_ok (l ∷ ls) p e =
      let a = bind_ok (on_line l.number (judge l.bytes)) (λ value. Ok (value, ls)) p e in
      let same : (a.0, ls) ≡ p = ok_is Refusal (a.0, ls) p a.2 in
      (l, ap (λ (q : A × List Line). l ∷ q.1) same, on_line_ok l.number (judge l.bytes) a.0 a.1 ∙ ap (λ (q : A × List Line). Ok q.0) same)

-- what is left of the head, from a line on
abbrev pub cluster : ℕ → ℕ → ℕ × List Row → List ℕ → ℕ × AppKind → Config
cluster seqs shards window homes consumers =
    record { seqs = seqs; shards = shards; rounds = window.0; table = window.1; homes = homes; consumers = consumers.0; app = consumers.1 }

abbrev pub from_sixth : ℕ → ℕ → ℕ → ℕ × List Row → List ℕ → List Line → Result (Config × List Line) Refusal
from_sixth end seqs shards window homes lines = due_line end consumers_in lines >>= λ x. Ok (cluster seqs shards window homes x.0, x.1)

abbrev pub from_fifth : ℕ → ℕ → ℕ → ℕ × List Row → List Line → Result (Config × List Line) Refusal
from_fifth end seqs shards window lines = due_line end (clients_in window.1) lines >>= λ x. from_sixth end seqs shards window x.0 x.1

abbrev pub from_fourth : ℕ → ℕ → ℕ → List Line → Result (Config × List Line) Refusal
from_fourth end seqs shards lines = due_line end (window_in shards) lines >>= λ x. from_fifth end seqs shards x.0 x.1

abbrev pub from_third : ℕ → ℕ → List Line → Result (Config × List Line) Refusal
from_third end seqs lines = due_line end shards_in lines >>= λ x. from_fourth end seqs x.0 x.1

abbrev pub from_second : ℕ → List Line → Result (Config × List Line) Refusal
from_second end lines = due_line end seqs_in lines >>= λ x. from_third end x.0 x.1

six_lines : (due : List ℕ) (l1 l2 l3 l4 l5 l6 : Line) (rest : List Line) (version seqs shards : ℕ) (window : ℕ × List Row) (homes : List ℕ) (consumers : ℕ × AppKind)
    → version_in due l1.bytes ≡ Ok version → seqs_in l2.bytes ≡ Ok seqs → shards_in l3.bytes ≡ Ok shards → window_in shards l4.bytes ≡ Ok window
    → clients_in window.1 l5.bytes ≡ Ok homes → consumers_in l6.bytes ≡ Ok consumers
    → HasHead due (l1 ∷ l2 ∷ l3 ∷ l4 ∷ l5 ∷ l6 ∷ rest) (cluster seqs shards window homes consumers) rest
six_lines due l1 l2 l3 l4 l5 l6 rest version seqs shards window homes consumers e1 e2 e3 e4 e5 e6 =
    let h1 = version_in_ok due l1.bytes version e1 in
    let h2 = seqs_in_ok l2.bytes seqs e2 in
    let h3 = shards_in_ok l3.bytes shards e3 in
    let h4 = window_in_ok shards l4.bytes window e4 in
    let h5 = clients_in_ok window.1 l5.bytes homes e5 in
    let h6 = consumers_in_ok l6.bytes consumers e6 in
    let b3 = from_to_is 1 6 shards h3.2 in
    let b6 = from_to_is 1 4 consumers.0 h6.2 in
    record {
      rest_is = refl;
      plain = (h1.0, (h2.0, (h3.0, (h4.0, (h5.0, (h6.0, tt))))));
      head = (h1.1, h2.1, h3.1, h4.1, h5.1, h6.1);
      valid = record {
        seqs = majority_is seqs h2.2;
        some_shard = b3.0;
        most_shards = b3.1;
        rounds = h4.2;
        rows = h4.3;
        some_client = h5.3;
        most_clients = h5.4;
        homes = h5.2;
        some_consumer = b6.0;
        most_consumers = b6.1;
      };
    }

-- what is judged a head is the head of a cluster
pub head_in_ok : (due : List ℕ) (end : ℕ) (lines : List Line) (p : Config × List Line) → head_in due end lines ≡ Ok p → HasHead due lines p.0 p.1
unfolding head_in
head_in_ok due end lines p e =
    let b1 = bind_ok (due_line end (version_in due) lines) (λ x. from_second end x.1) p e in
    let b2 = bind_ok (due_line end seqs_in b1.0.1) (λ x. from_third end x.0 x.1) p b1.2 in
    let b3 = bind_ok (due_line end shards_in b2.0.1) (λ x. from_fourth end b2.0.0 x.0 x.1) p b2.2 in
    let b4 = bind_ok (due_line end (window_in b3.0.0) b3.0.1) (λ x. from_fifth end b2.0.0 b3.0.0 x.0 x.1) p b3.2 in
    let b5 = bind_ok (due_line end (clients_in b4.0.0.1) b4.0.1) (λ x. from_sixth end b2.0.0 b3.0.0 b4.0.0 x.0 x.1) p b4.2 in
    let b6 = bind_ok (due_line end consumers_in b5.0.1) (λ x. Ok (cluster b2.0.0 b3.0.0 b4.0.0 b5.0.0 x.0, x.1)) p b5.2 in
    let l1 = due_line_ok end (version_in due) lines b1.0 b1.1 in
    let l2 = due_line_ok end seqs_in b1.0.1 b2.0 b2.1 in
    let l3 = due_line_ok end shards_in b2.0.1 b3.0 b3.1 in
    let l4 = due_line_ok end (window_in b3.0.0) b3.0.1 b4.0 b4.1 in
    let l5 = due_line_ok end (clients_in b4.0.0.1) b4.0.1 b5.0 b5.1 in
    let l6 = due_line_ok end consumers_in b5.0.1 b6.0 b6.1 in
    let lines_are : lines ≡ l1.0 ∷ l2.0 ∷ l3.0 ∷ l4.0 ∷ l5.0 ∷ l6.0 ∷ b6.0.1 = l1.1 ∙ ap (λ (t : List Line). l1.0 ∷ t) (l2.1 ∙ ap (λ (t : List Line). l2.0 ∷ t) (l3.1 ∙ ap (λ (t : List Line). l3.0 ∷ t) (l4.1 ∙ ap (λ (t : List Line). l4.0 ∷ t) (l5.1 ∙ ap (λ (t : List Line). l5.0 ∷ t) l6.1)))) in
    let facts : HasHead due (l1.0 ∷ l2.0 ∷ l3.0 ∷ l4.0 ∷ l5.0 ∷ l6.0 ∷ b6.0.1) (cluster b2.0.0 b3.0.0 b4.0.0 b5.0.0 b6.0.0) b6.0.1 =
    six_lines due l1.0 l2.0 l3.0 l4.0 l5.0 l6.0 b6.0.1 b1.0.0 b2.0.0 b3.0.0 b4.0.0 b5.0.0 b6.0.0 l1.2 l2.2 l3.2 l4.2 l5.2 l6.2 in
    let P : List Line → Type 0 = λ t. HasHead due t (cluster b2.0.0 b3.0.0 b4.0.0 b5.0.0 b6.0.0) b6.0.1 in
    let Q : Config × List Line → Type 0 = λ q. HasHead due lines q.0 q.1 in
    subst Q (ok_is Refusal (cluster b2.0.0 b3.0.0 b4.0.0 b5.0.0 b6.0.0, b6.0.1) p b6.2) (subst P (sym lines_are) facts)

-- the head of a cluster is judged one
pub head_in_back : (due : List ℕ) (end : ℕ) (lines : List Line) (c : Config) → AllByRecursion IsPlain (take 6 lines)
    → SpellsHead due (map (λ (l : Line). words_of l.bytes) (take 6 lines)) c → IsValidConfig c → head_in due end lines ≡ Ok (c, drop 6 lines)
unfolding head_in
head_in_back due end [] c p h v = absurd h
head_in_back due end (l1 ∷ []) c p h v = absurd h
head_in_back due end (l1 ∷ l2 ∷ []) c p h v = absurd h
head_in_back due end (l1 ∷ l2 ∷ l3 ∷ []) c p h v = absurd h
head_in_back due end (l1 ∷ l2 ∷ l3 ∷ l4 ∷ []) c p h v = absurd h
head_in_back due end (l1 ∷ l2 ∷ l3 ∷ l4 ∷ l5 ∷ []) c p h v = absurd h
head_in_back due end (l1 ∷ l2 ∷ l3 ∷ l4 ∷ l5 ∷ l6 ∷ rest) c p h v =
    rw (
      version_in_back due l1.bytes p.0 h.0,
      seqs_in_back l2.bytes c.seqs p.1.0 h.1 (majority_true c.seqs v.seqs),
      shards_in_back l3.bytes c.shards p.1.1.0 h.2 (from_to_true 1 6 c.shards v.some_shard v.most_shards),
      window_in_back c.shards l4.bytes c.rounds c.table p.1.1.1.0 h.3 v.rounds v.rows,
      clients_in_back c.table l5.bytes c.homes p.1.1.1.1.0 h.4 v.homes v.some_client v.most_clients,
      consumers_in_back l6.bytes c.consumers c.app p.1.1.1.1.1.0 h.5 (from_to_true 1 4 c.consumers v.some_consumer v.most_consumers),
    ) refl
