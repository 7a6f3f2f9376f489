-- A plain text of each script: nothing in it is passed over.
use Rattle.std.proofs.Common.{◌≡◌, ℕ, true, List, ◌++◌, length, map, refl, sym, ap, subst, ◌∙◌, arith}
use Rattle.std.specs.List.{range_with_len, AllByRecursion}
use Rattle.msg_wire.specs.Valid.{IsValidConfig}
use Rattle.msg_wire.specs.Inputs.{IsInputOf}
use Rattle.script_text.specs.Names.{Config, Input}
use Rattle.script_text.specs.Lines.{Line, counts}
use Rattle.script_text.specs.Words.{is_printable}
use Rattle.script_text.specs.Spelled.{script_word, SpellsInput}
use Rattle.script_text.specs.Scripts.{SpellsLines, SpellsScript, IsSpellable}
use Rattle.script_text.proofs.PlainWords.{IsPlainWord}
use Rattle.script_text.proofs.PlainTexts.{text_of, plain_numbered, numbers_numbered, counted_lines_text_of, all_append, each_line}
use Rattle.script_text.proofs.PlainInputs.{input_text, input_lines}
use Rattle.script_text.proofs.PlainClusters.{head_rows, plain_head}

belfast_word : IsPlainWord script_word
belfast_word = record { some = omega arith; letters = (refl, (refl, (refl, (refl, (refl, (refl, (refl, tt))))))); printable = refl }

pub plain_script : (c : Config) (xs : List Input) → IsValidConfig c → AllByRecursion (IsInputOf c) xs → AllByRecursion IsSpellable xs
    → (text : List ℕ) × SpellsScript text c xs (range_with_len 7 (length xs))
plain_script c xs v h s =
    let front = head_rows script_word c in
    let inputs = map input_text xs in
    let rows = front ++ inputs in
    let head = plain_head script_word c belfast_word refl v in
    let tail = each_line SpellsInput input_text 7 xs (input_lines c v xs h s) in
    let printable = all_append (λ line. is_printable line ≡ true) front inputs head.printable tail.printable in
    let counted = all_append (λ line. counts line ≡ true) front inputs head.counted tail.counted in
    let P : List Line → Type 0 = λ ls. SpellsLines ls c xs (range_with_len 7 (length xs)) in (
      text_of rows,
      subst P (sym (counted_lines_text_of rows printable counted)) (record {
        printable = plain_numbered 1 rows printable;
        head = head.spelled;
        config = v;
        inputs_are = tail.spelled;
        within = h;
        numbers_are = sym (numbers_numbered 7 inputs ∙ ap (range_with_len 7) tail.size);
      }),
    )
