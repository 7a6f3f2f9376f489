-- Lines of inputs: what is judged is what the line spells, both ways.
use Rattle.std.proofs.Common.{◌≡◌, ℕ, ◌<◌, ◌≤◌, true, false, cond, not, nat_lt, IsTrue, List, [], ◌∷◌, length, Ok, Err, codes, refl, ap, subst, ◌∙◌, inl, inr, arith}
use Rattle.std.proofs.lemmas.Bool.Decides.{nat_tests}
use Rattle.spec_base.specs.Spelling.{node_name}
use Rattle.record_codec.specs.Reading.{◌>>=◌}
use Rattle.record_codec.proofs.Reading.{bind_ok, chosen, ok_is}
use Rattle.msg_wire.specs.Valid.{IsBody, IsNodeOf, IsSequencerOf, IsCommandOf}
use Rattle.msg_wire.specs.Inputs.{IsInputOf}
use Rattle.msg_wire.specs.Nodes.{nodes_of, sequencers_of}
use Rattle.script_text.specs.Names.{NodeId, Row, Command, Config, Input, ScriptKind}
use Rattle.script_text.specs.Names.inputs
use Rattle.script_text.specs.Names.commands
use Rattle.script_text.specs.Names.kinds
use Rattle.script_text.specs.Words.{is_printable, words_of, is_word, SpellsDecimal}
use Rattle.script_text.specs.Spelled.{SpellsWindow, SpellsSubmit, SpellsCommand, SpellsInput}
use Rattle.script_text.specs.Judged.{Judged, from_to, number_where, number_below, node_in, first_of, only_of, both_of, window_of, body_in, of_both, submit_of, message_of, of_message, drain_of, only_node_of, of_node, table_of, remove_of, form_of, body_of, input_in}
use Rattle.script_text.proofs.NumberLemmas.{first_of_ok, only_of_ok, both_of_ok, is_word_same, number_where_ok, number_where_back, number_below_ok, number_below_back, from_to_is, from_to_true}
use Rattle.script_text.proofs.NodeLemmas.{node_in_ok, among_nodes, among_sequencers, node_found, sequencer_found}
use Rattle.script_text.proofs.RowSpelled.{window_of_ok, window_of_back}
use Rattle.script_text.proofs.SubmitLemmas.{submit_ok, submission_back}

-- what a line says is an input of the cluster
abbrev Holds : Config → List ℕ → Input → Type 0
Holds c line input = SpellsInput line input × IsInputOf c input

-- a line's words, of which the first is known
abbrev pub Begins : List ℕ → List ℕ → List (List ℕ) → Type 0
Begins line due words = words_of line ≡ due ∷ words

after : (line due : List ℕ) (words others : List (List ℕ)) → Begins line due words → words ≡ others → words_of line ≡ due ∷ others
after line due words others b e = b ∙ ap (λ (ws : List (List ℕ)). due ∷ ws) e

-- ---- submit

body_in_ok : (bytes body : List ℕ) → body_in bytes ≡ Ok body → (bytes ≡ body) × IsBody bytes
body_in_ok bytes body e =
    elim (chosen (nat_lt 1024 (length bytes)) (Err (kinds.Body (length bytes))) (Ok bytes) (Ok body) e) [
      | inl h ↦ absurd (let bad = h.1 in cc)
      | inr h ↦ (ok_is ScriptKind bytes body h.1, grind (arith, nat_tests, h.0))
    ]

-- what is made of two parts that are judged
pub of_both_ok : {A B C : Type 0} (make : A → B → C) (j : Judged (A × B)) (x : C) → of_both make j ≡ Ok x → (both : A × B) × (j ≡ Ok both) × (make both.0 both.1 ≡ x)
of_both_ok make (Ok both) x e = (both, refl, ok_is ScriptKind (make both.0 both.1) x e)
of_both_ok make (Err kind) x e = absurd cc

-- one of so many, and a body
pub submit_of_ok : (count : ℕ) (line : List ℕ) (words : List (List ℕ)) (both : ℕ × List ℕ) → Begins line (codes "submit") words
    → submit_of count (body_of line) words ≡ Ok both → SpellsSubmit line both.0 both.1 × (both.0 < count) × IsBody both.1
unfolding submit_of
submit_of_ok count line words both b e =
    let f = bind_ok (first_of words) (λ first. number_below count first.0 >>= λ number. body_in (body_of line) >>= λ body. Ok (number, body)) both e in
    let n = bind_ok (number_below count f.0.0) (λ number. body_in (body_of line) >>= λ body. Ok (number, body)) both f.2 in
    let y = bind_ok (body_in (body_of line)) (λ body. Ok (n.0, body)) both n.2 in
    let s = number_below_ok count f.0.0 n.0 n.1 in
    let body = body_in_ok (body_of line) y.0 y.1 in
    let spelled = submit_ok line f.0.0 f.0.1 n.0 (after line (codes "submit") words (f.0.0 ∷ f.0.1) b (first_of_ok words f.0 f.1)) s.0 in
    let both_is : (n.0, body_of line) ≡ both = ap (λ (t : List ℕ). (n.0, t)) body.0 ∙ ok_is ScriptKind (n.0, y.0) both y.2 in
    let P : ℕ × List ℕ → Type 0 = λ q. SpellsSubmit line q.0 q.1 × (q.0 < count) × IsBody q.1 in
    subst P both_is (spelled, s.1, body.1)

submitted : (c : Config) (line : List ℕ) (words : List (List ℕ)) (input : Input) → Begins line (codes "submit") words
    → of_both inputs.Submit (submit_of (length c.homes) (body_of line) words) ≡ Ok input → Holds c line input
submitted c line words input b e =
    let m = of_both_ok inputs.Submit (submit_of (length c.homes) (body_of line) words) input e in
    let s = submit_of_ok (length c.homes) line words m.0 b m.1 in
    subst (Holds c line) m.2 (s.0, (s.1, s.2))

-- ---- numbers

message_of_ok : (words : List (List ℕ)) (n : ℕ) → message_of words ≡ Ok n → (word : List ℕ) × (words ≡ word ∷ []) × SpellsDecimal word n
unfolding message_of
message_of_ok words n e =
    let w = bind_ok (only_of words) (λ word. number_where (λ _. true) word) n e in
    (w.0, only_of_ok words w.0 w.1, (number_where_ok (λ _. true) w.0 n w.2).0)

of_message_ok : (make : ℕ → Input) (words : List (List ℕ)) (input : Input) → of_message make words ≡ Ok input
    → (n : ℕ) × (word : List ℕ) × (words ≡ word ∷ []) × SpellsDecimal word n × (make n ≡ input)
unfolding of_message
of_message_ok make words input e =
    let n = bind_ok (message_of words) (λ number. Ok (make number)) input e in
    let w = message_of_ok words n.0 n.1 in
    (n.0, w.0, w.1, w.2, ok_is ScriptKind (make n.0) input n.2)

deliver_ok : (c : Config) (line : List ℕ) (words : List (List ℕ)) (input : Input) → Begins line (codes "deliver") words → of_message inputs.Deliver words ≡ Ok input
    → Holds c line input
deliver_ok c line words input b e =
    let m = of_message_ok inputs.Deliver words input e in
    subst (Holds c line) m.4 ((m.1, after line (codes "deliver") words (m.1 ∷ []) b m.2, m.3), tt)

lose_ok : (c : Config) (line : List ℕ) (words : List (List ℕ)) (input : Input) → Begins line (codes "lose") words → of_message inputs.Lose words ≡ Ok input
    → Holds c line input
lose_ok c line words input b e =
    let m = of_message_ok inputs.Lose words input e in
    subst (Holds c line) m.4 ((m.1, after line (codes "lose") words (m.1 ∷ []) b m.2, m.3), tt)

drain_of_ok : (c : Config) (line : List ℕ) (words : List (List ℕ)) (input : Input) → Begins line (codes "drain") words → drain_of words ≡ Ok input
    → Holds c line input
unfolding drain_of
drain_of_ok c line words input b e =
    let w = bind_ok (only_of words) (λ word. number_where (from_to 0 200000) word >>= λ count. Ok (inputs.Drain count)) input e in
    let n = bind_ok (number_where (from_to 0 200000) w.0) (λ count. Ok (inputs.Drain count)) input w.2 in
    let s = number_where_ok (from_to 0 200000) w.0 n.0 n.1 in
    subst (Holds c line) (ok_is ScriptKind (inputs.Drain n.0) input n.2) (((w.0, after line (codes "drain") words (w.0 ∷ []) b (only_of_ok words w.0 w.1), s.0), (from_to_is 0 200000 n.0 s.1).1), tt)

-- ---- nodes

pub of_node_ok : {A : Type 0} (c : Config) (make : NodeId → A) (words : List (List ℕ)) (input : A) → of_node make c words ≡ Ok input
    → (node : NodeId) × (words ≡ node_name node ∷ []) × IsNodeOf c node × (make node ≡ input)
unfolding of_node only_node_of
of_node_ok c make words input e =
    let n = bind_ok (only_node_of c words) (λ node. Ok (make node)) input e in
    let w = bind_ok (only_of words) (node_in (nodes_of c)) n.0 n.1 in
    let h = node_in_ok w.0 n.0 (nodes_of c) w.2 in (
      n.0,
      only_of_ok words w.0 w.1 ∙ ap (λ (x : List ℕ). x ∷ []) h.0,
      among_nodes c n.0 h.1,
      ok_is ScriptKind (make n.0) input n.2,
    )

tick_ok : (c : Config) (line : List ℕ) (words : List (List ℕ)) (input : Input) → Begins line (codes "tick") words → of_node inputs.Tick c words ≡ Ok input
    → Holds c line input
tick_ok c line words input b e =
    let n = of_node_ok c inputs.Tick words input e in
    subst (Holds c line) n.3 (after line (codes "tick") words (node_name n.0 ∷ []) b n.1, n.2)

restart_ok : (c : Config) (line : List ℕ) (words : List (List ℕ)) (input : Input) → Begins line (codes "restart") words → of_node inputs.Restart c words ≡ Ok input
    → Holds c line input
restart_ok c line words input b e =
    let n = of_node_ok c inputs.Restart words input e in
    subst (Holds c line) n.3 (after line (codes "restart") words (node_name n.0 ∷ []) b n.1, n.2)

-- ---- commands

-- what a sequencer of the cluster is told
abbrev pub IsTold : Config → List ℕ → NodeId × Command → Type 0
IsTold c line told = SpellsCommand (words_of line) told.0 told.1 × IsSequencerOf c told.0 × IsCommandOf c told.1

pub table_of_ok : (c : Config) (line : List ℕ) (words : List (List ℕ)) (told : NodeId × Command) → Begins line (codes "table") words → table_of c words ≡ Ok told
    → IsTold c line told
unfolding table_of
table_of_ok c line words told b e =
    let f = bind_ok (first_of words) (λ first. first_of first.1 >>= λ second. node_in (sequencers_of c) first.0 >>= λ node. window_of c.shards second.0 second.1 >>= λ window. Ok (node, commands.Table window.0 window.1)) told e in
    let g = bind_ok (first_of f.0.1) (λ second. node_in (sequencers_of c) f.0.0 >>= λ node. window_of c.shards second.0 second.1 >>= λ window. Ok (node, commands.Table window.0 window.1)) told f.2 in
    let n = bind_ok (node_in (sequencers_of c) f.0.0) (λ node. window_of c.shards g.0.0 g.0.1 >>= λ window. Ok (node, commands.Table window.0 window.1)) told g.2 in
    let w = bind_ok (window_of c.shards g.0.0 g.0.1) (λ window. Ok (n.0, commands.Table window.0 window.1)) told n.2 in
    let h = node_in_ok f.0.0 n.0 (sequencers_of c) n.1 in
    let s = window_of_ok c.shards g.0.0 g.0.1 w.0 w.1 in
    let words_are : words ≡ node_name n.0 ∷ g.0.0 ∷ g.0.1 =
    first_of_ok words f.0 f.1 ∙ (ap (λ (ws : List (List ℕ)). f.0.0 ∷ ws) (first_of_ok f.0.1 g.0 g.1) ∙ ap (λ (x : List ℕ). x ∷ g.0.0 ∷ g.0.1) h.0) in
    subst (IsTold c line) (ok_is ScriptKind (n.0, commands.Table w.0.0 w.0.1) told w.2)
    ((g.0.0 ∷ g.0.1, after line (codes "table") words (node_name n.0 ∷ g.0.0 ∷ g.0.1) b words_are, s.0), among_sequencers c n.0 h.1, (s.1, s.2))

pub remove_of_ok : (c : Config) (line : List ℕ) (words : List (List ℕ)) (told : NodeId × Command) → Begins line (codes "remove") words → remove_of c words ≡ Ok told
    → IsTold c line told
unfolding remove_of
remove_of_ok c line words told b e =
    let f = bind_ok (both_of words) (λ both. node_in (sequencers_of c) both.0 >>= λ node. number_below c.shards both.1 >>= λ shard. Ok (node, commands.Remove shard)) told e in
    let n = bind_ok (node_in (sequencers_of c) f.0.0) (λ node. number_below c.shards f.0.1 >>= λ shard. Ok (node, commands.Remove shard)) told f.2 in
    let k = bind_ok (number_below c.shards f.0.1) (λ shard. Ok (n.0, commands.Remove shard)) told n.2 in
    let h = node_in_ok f.0.0 n.0 (sequencers_of c) n.1 in
    let s = number_below_ok c.shards f.0.1 k.0 k.1 in
    let words_are : words ≡ node_name n.0 ∷ f.0.1 ∷ [] = both_of_ok words f.0 f.1 ∙ ap (λ (x : List ℕ). x ∷ f.0.1 ∷ []) h.0 in
    subst (IsTold c line) (ok_is ScriptKind (n.0, commands.Remove k.0) told k.2)
    ((f.0.1, after line (codes "remove") words (node_name n.0 ∷ f.0.1 ∷ []) b words_are, s.0), among_sequencers c n.0 h.1, s.1)

commanded : (c : Config) (line : List ℕ) (j : Judged (NodeId × Command)) (input : Input) → ((told : NodeId × Command) → j ≡ Ok told → IsTold c line told)
    → of_both inputs.Command j ≡ Ok input → Holds c line input
commanded c line j input h e =
    let m = of_both_ok inputs.Command j input e in
    let s = h m.0 m.1 in
    subst (Holds c line) m.2 (s.0, (s.1, s.2))

-- ---- by the first word

abbrev from_eighth : List ℕ → List (List ℕ) → Judged Input
from_eighth word words = cond (is_word (codes "drain") word) (drain_of words) (Err kinds.Word)

abbrev from_seventh : Config → List ℕ → List (List ℕ) → Judged Input
from_seventh c word words = cond (is_word (codes "remove") word) (of_both inputs.Command (remove_of c words)) (from_eighth word words)

abbrev from_sixth : Config → List ℕ → List (List ℕ) → Judged Input
from_sixth c word words = cond (is_word (codes "table") word) (of_both inputs.Command (table_of c words)) (from_seventh c word words)

abbrev from_fifth : Config → List ℕ → List (List ℕ) → Judged Input
from_fifth c word words = cond (is_word (codes "restart") word) (of_node inputs.Restart c words) (from_sixth c word words)

abbrev from_fourth : Config → List ℕ → List (List ℕ) → Judged Input
from_fourth c word words = cond (is_word (codes "tick") word) (of_node inputs.Tick c words) (from_fifth c word words)

abbrev from_third : Config → List ℕ → List (List ℕ) → Judged Input
from_third c word words = cond (is_word (codes "lose") word) (of_message inputs.Lose words) (from_fourth c word words)

abbrev from_second : Config → List ℕ → List (List ℕ) → Judged Input
from_second c word words = cond (is_word (codes "deliver") word) (of_message inputs.Deliver words) (from_third c word words)

pub begins : (line due word : List ℕ) (words : List (List ℕ)) → words_of line ≡ word ∷ words → is_word due word ≡ true → Begins line due words
begins line due word words e same = e ∙ ap (λ (x : List ℕ). x ∷ words) (is_word_same due word same)

module _ (c : Config) (line word : List ℕ) (words : List (List ℕ)) (input : Input) (words_are : words_of line ≡ word ∷ words) where
  eighth : from_eighth word words ≡ Ok input → Holds c line input
  eighth e = elim (chosen (is_word (codes "drain") word) (drain_of words) (Err kinds.Word) (Ok input) e) [
    | inl h ↦ drain_of_ok c line words input (begins line (codes "drain") word words words_are h.0) h.1
    | inr h ↦ absurd (let bad = h.1 in cc)
  ]

  seventh : from_seventh c word words ≡ Ok input → Holds c line input
  seventh e = elim (chosen (is_word (codes "remove") word) (of_both inputs.Command (remove_of c words)) (from_eighth word words) (Ok input) e) [
    | inl h ↦ commanded c line (remove_of c words) input (λ told. remove_of_ok c line words told (begins line (codes "remove") word words words_are h.0)) h.1
    | inr h ↦ eighth h.1
  ]

  sixth : from_sixth c word words ≡ Ok input → Holds c line input
  sixth e = elim (chosen (is_word (codes "table") word) (of_both inputs.Command (table_of c words)) (from_seventh c word words) (Ok input) e) [
    | inl h ↦ commanded c line (table_of c words) input (λ told. table_of_ok c line words told (begins line (codes "table") word words words_are h.0)) h.1
    | inr h ↦ seventh h.1
  ]

  fifth : from_fifth c word words ≡ Ok input → Holds c line input
  fifth e = elim (chosen (is_word (codes "restart") word) (of_node inputs.Restart c words) (from_sixth c word words) (Ok input) e) [
    | inl h ↦ restart_ok c line words input (begins line (codes "restart") word words words_are h.0) h.1
    | inr h ↦ sixth h.1
  ]

  fourth : from_fourth c word words ≡ Ok input → Holds c line input
  fourth e = elim (chosen (is_word (codes "tick") word) (of_node inputs.Tick c words) (from_fifth c word words) (Ok input) e) [
    | inl h ↦ tick_ok c line words input (begins line (codes "tick") word words words_are h.0) h.1
    | inr h ↦ fifth h.1
  ]

  third : from_third c word words ≡ Ok input → Holds c line input
  third e = elim (chosen (is_word (codes "lose") word) (of_message inputs.Lose words) (from_fourth c word words) (Ok input) e) [
    | inl h ↦ lose_ok c line words input (begins line (codes "lose") word words words_are h.0) h.1
    | inr h ↦ fourth h.1
  ]

  second : from_second c word words ≡ Ok input → Holds c line input
  second e = elim (chosen (is_word (codes "deliver") word) (of_message inputs.Deliver words) (from_third c word words) (Ok input) e) [
    | inl h ↦ deliver_ok c line words input (begins line (codes "deliver") word words words_are h.0) h.1
    | inr h ↦ third h.1
  ]

  first : form_of c (body_of line) (word ∷ words) ≡ Ok input → Holds c line input
  first e = elim (chosen (is_word (codes "submit") word) (of_both inputs.Submit (submit_of (length c.homes) (body_of line) words)) (from_second c word words) (Ok input) e) [
    | inl h ↦ submitted c line words input (begins line (codes "submit") word words words_are h.0) h.1
    | inr h ↦ second h.1
  ]

form_of_ok : (c : Config) (line : List ℕ) (words : List (List ℕ)) (input : Input) → words_of line ≡ words → form_of c (body_of line) words ≡ Ok input
    → Holds c line input
form_of_ok c line [] input w e = absurd cc
form_of_ok c line (word ∷ words) input w e = first c line word words input w e

pub input_in_ok : (c : Config) (line : List ℕ) (input : Input) → input_in c line ≡ Ok input
    → IsTrue (is_printable line) × SpellsInput line input × IsInputOf c input
unfolding input_in
input_in_ok c line input e =
    elim (chosen (not (is_printable line)) (Err kinds.Byte) (form_of c (body_of line) (words_of line)) (Ok input) e) [
      | inl h ↦ absurd (let bad = h.1 in cc)
      | inr h ↦ let s = form_of_ok c line (words_of line) input refl h.1 in (grind (arith, nat_tests, h.0), s.0, s.1)
    ]

-- ---- and back

spelled : (c : Config) (line : List ℕ) (words : List (List ℕ)) (input : Input) → IsTrue (is_printable line) → words_of line ≡ words
    → form_of c (body_of line) words ≡ Ok input → input_in c line ≡ Ok input
unfolding input_in
spelled c line words input p w f = rw (p, w) f

any_number : (word : List ℕ) (n : ℕ) → SpellsDecimal word n → message_of (word ∷ []) ≡ Ok n
unfolding message_of
any_number word n s = number_where_back (λ _. true) word n s refl

pub submit_back : (count : ℕ) (bytes word : List ℕ) (words : List (List ℕ)) (number : ℕ) (body : List ℕ) → SpellsDecimal word number → number < count
    → bytes ≡ body → IsBody body → submit_of count bytes (word ∷ words) ≡ Ok (number, body)
unfolding submit_of
submit_back count bytes word words number body s h same b =
    let fits : nat_lt 1024 (length bytes) ≡ false = grind (arith, nat_tests, ap length same) in
    rw (number_below_back count word number s h, fits) (ap (λ (t : List ℕ). Ok (number, t)) same)

message_back : (make : ℕ → Input) (word : List ℕ) (n : ℕ) → SpellsDecimal word n → of_message make (word ∷ []) ≡ Ok (make n)
unfolding of_message
message_back make word n s = rw (any_number word n s) refl

drain_back : (word : List ℕ) (n : ℕ) → SpellsDecimal word n → n ≤ 200000 → drain_of (word ∷ []) ≡ Ok (inputs.Drain n)
unfolding drain_of
drain_back word n s h = rw (number_where_back (from_to 0 200000) word n s (from_to_true 0 200000 n (omega arith) h)) refl

pub node_back : {A : Type 0} (c : Config) (make : NodeId → A) (node : NodeId) → IsNodeOf c node → of_node make c (node_name node ∷ []) ≡ Ok (make node)
unfolding of_node only_node_of
node_back c make node h = rw (node_found c (node_name node) node refl h) refl

pub table_back : (c : Config) (node : NodeId) (words : List (List ℕ)) (rounds : ℕ) (rows : List Row) → SpellsWindow words rounds rows → IsSequencerOf c node
    → IsCommandOf c (commands.Table rounds rows) → table_of c (node_name node ∷ words) ≡ Ok (node, commands.Table rounds rows)
unfolding table_of
table_back c node words rounds rows w q k =
    rw (w.2, sequencer_found c (node_name node) node refl q, window_of_back c.shards w.0 w.1 rounds rows w.3 w.4 k.0 k.1) refl

pub remove_back : (c : Config) (node : NodeId) (word : List ℕ) (shard : ℕ) → SpellsDecimal word shard → IsSequencerOf c node → shard < c.shards
    → remove_of c (node_name node ∷ word ∷ []) ≡ Ok (node, commands.Remove shard)
unfolding remove_of
remove_back c node word shard s q k = rw (sequencer_found c (node_name node) node refl q, number_below_back c.shards word shard s k) refl

pub input_in_back : (c : Config) (line : List ℕ) (input : Input) → IsTrue (is_printable line) → SpellsInput line input → IsInputOf c input
    → input_in c line ≡ Ok input
input_in_back c line (inputs.Submit client body) p s h =
    let b = submission_back line client body s in
    spelled c line (codes "submit" ∷ b.word ∷ b.words) (inputs.Submit client body) p b.words_are (ap (of_both inputs.Submit) (submit_back (length c.homes) (body_of line) b.word b.words client body b.client_is h.0 b.body_is h.1))
input_in_back c line (inputs.Deliver n) p s h = spelled c line (codes "deliver" ∷ s.0 ∷ []) (inputs.Deliver n) p s.1 (message_back inputs.Deliver s.0 n s.2)
input_in_back c line (inputs.Lose n) p s h = spelled c line (codes "lose" ∷ s.0 ∷ []) (inputs.Lose n) p s.1 (message_back inputs.Lose s.0 n s.2)
input_in_back c line (inputs.Tick node) p s h = spelled c line (codes "tick" ∷ node_name node ∷ []) (inputs.Tick node) p s (node_back c inputs.Tick node h)
input_in_back c line (inputs.Restart node) p s h = spelled c line (codes "restart" ∷ node_name node ∷ []) (inputs.Restart node) p s (node_back c inputs.Restart node h)
input_in_back c line (inputs.Command node (commands.Table rounds rows)) p s h =
    spelled c line (codes "table" ∷ node_name node ∷ s.0) (inputs.Command node (commands.Table rounds rows)) p s.1 (ap (of_both inputs.Command) (table_back c node s.0 rounds rows s.2 h.0 h.1))
input_in_back c line (inputs.Command node (commands.Remove shard)) p s h =
    spelled c line (codes "remove" ∷ node_name node ∷ s.0 ∷ []) (inputs.Command node (commands.Remove shard)) p s.1 (ap (of_both inputs.Command) (remove_back c node s.0 shard s.2 h.0 h.1))
input_in_back c line (inputs.Drain n) p s h = spelled c line (codes "drain" ∷ s.0.0 ∷ []) (inputs.Drain n) p s.0.1 (drain_back s.0.0 n s.0.2 s.1)
