use Rattle.std.proofs.Common.{◌≡◌, ◌++◌, ℕ, List, OnOk, ap, subst, ◌∙◌}
use Rattle.script_text.proofs.GeneratedLemmas.{head_back, head_text}
use Rattle.script_text.proofs.generated.put_head.Goals as goal

pub returns : goal.returns
returns c =
    let whole = ap (λ (t : List ℕ). t ++ head_back) c.in_ok-put_number.ensures ∙ head_text c.args.text.now c.args.seed in
    let P : List ℕ → Type 0 = λ t. OnOk c.extend_from_slice.result (c.extend_from_slice.new.self ≡ t) in
    subst P whole c.extend_from_slice.ensures.ok
