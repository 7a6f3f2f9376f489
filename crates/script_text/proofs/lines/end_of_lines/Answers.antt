use Rattle.std.proofs.Common.{◌≡◌, ℕ, sym, ap, subst, ◌∙◌, arith, take}
use Rattle.std.specs.List.{position}
use Rattle.std.specs.Str.Lines.{lines}
use Rattle.script_text.proofs.Splits.{to_end}
use Rattle.script_text.proofs.CutLemmas.{is_newline, no_lines, next_line, lines_cut, lines_all}
use Rattle.script_text.proofs.lines.end_of_lines.Goals as goal

pub loop-line-init : goal.loop-line-init
loop-line-init c = no_lines c.args.text.now

pub loop-line-preserved : goal.loop-line-preserved
loop-line-preserved c =
    let text = c.args.text.now in
    next_line text c.loop-line.at c.in-Some.end c.loop-line._line c.loop-line.invariant (ap (position is_newline) (sym (to_end text c.loop-line.at)) ∙ sym c.in-Some.ensures)

pub returns-in-None-clause-lines : goal.returns-in-None-clause-lines
returns-in-None-clause-lines c =
    let text = c.args.text.now in
    lines_all text c.loop-line.at c.loop-line._line c.args.count c.loop-line.invariant (ap (position is_newline) (sym (to_end text c.loop-line.at)) ∙ sym c.in-None.ensures) c.loop-line-test.true

pub returns-clause-lines : goal.returns-clause-lines
returns-clause-lines c =
    let text = c.args.text.now in
    let all : c.loop-line._line ≡ c.args.count = omega arith in
    let P : ℕ → Type 0 = λ n. lines (take c.loop-line.at text) ≡ take n (lines text) in
    subst P all (lines_cut text c.loop-line.at c.loop-line._line c.loop-line.invariant)
