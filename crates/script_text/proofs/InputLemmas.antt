-- Lines judged one after another: the inputs so far, and the lines that are left.
use Rattle.std.proofs.Common.{◌≡◌, ℕ, List, [], ◌∷◌, ◌++◌, Result, Ok, Err, refl, ap, sym, append_assoc, append-nil}
use Rattle.record_codec.specs.Reading.{◌>>=◌}
use Rattle.script_text.specs.Names.{Config, Input, ScriptKind}
use Rattle.script_text.specs.Lines.{Line, numbers_of}
use Rattle.script_text.specs.Judged.{input_in}
use Rattle.script_text.specs.Reading.{Refusal, inputs_in}

-- inputs in front of those of the lines that are left
abbrev pub onto : List Input → Result (List Input) Refusal → Result (List Input) Refusal
onto front (Ok rest) = Ok (front ++ rest)
onto front (Err refusal) = Err refusal

joined : (front : List Input) (x : Input) (r : Result (List Input) Refusal) → onto front (r >>= λ rest. Ok (x ∷ rest)) ≡ onto (front ++ x ∷ []) r
joined front x (Ok rest) = ap Ok (sym (append_assoc front (x ∷ []) rest))
joined front x (Err refusal) = refl

pub inputs_next : (c : Config) (front : List Input) (line : Line) (rest all : List Line) (x : Input) → all ≡ line ∷ rest → input_in c line.bytes ≡ Ok x
    → onto front (inputs_in c all) ≡ onto (front ++ x ∷ []) (inputs_in c rest)
inputs_next c front line rest all x all_is e = rw (all_is, e) (joined front x (inputs_in c rest))

pub inputs_stop : (c : Config) (front : List Input) (line : Line) (rest all : List Line) (kind : ScriptKind) → all ≡ line ∷ rest
    → input_in c line.bytes ≡ Err kind → onto front (inputs_in c all) ≡ Err (line.number, kind)
inputs_stop c front line rest all kind all_is e = rw (all_is, e) refl

pub inputs_end : (c : Config) (front : List Input) (all : List Line) → all ≡ [] → onto front (inputs_in c all) ≡ Ok front
inputs_end c front all all_is = rw (all_is, append-nil) refl

pub numbers_next : (front : List ℕ) (line : Line) (rest all : List Line) → all ≡ line ∷ rest
    → front ++ numbers_of all ≡ (front ++ line.number ∷ []) ++ numbers_of rest
numbers_next front line rest all all_is = rw all_is (sym (append_assoc front (line.number ∷ []) (numbers_of rest)))
