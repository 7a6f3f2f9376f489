use Rattle.std.proofs.Common.{◌≡◌, ◌≤◌, ◌∙◌, refl, drop, take, arith}
use Rattle.gate_vault.proofs.FrameReads.{too_long_at, too_few_at, whole_at}
use Rattle.gate_vault.proofs.load.read_frame.Goals as goal

pub returns-then-len-gt-MOST_BYTES-clause-frame : goal.returns-then-len-gt-MOST_BYTES-clause-frame
returns-then-len-gt-MOST_BYTES-clause-frame g c = λ file told.
    let start : c.as_slice.result.now ≡ take 3 (drop c.args.at file) = c.as_slice.ensures ∙ c.in_ok-start.ensures.bytes file told in
    (refl, too_long_at (drop c.args.at file) c.as_slice.result.now c.in-Payload.len start c.in-Payload.ensures.start (omega arith))

pub returns-then-len-clause-frame : goal.returns-then-len-clause-frame
returns-then-len-clause-frame g c = λ file told.
    let start : c.as_slice.result.now ≡ take 3 (drop c.args.at file) = c.as_slice.ensures ∙ c.in_ok-start.ensures.bytes file told in (
      refl,
      too_few_at c.args.at file c.as_slice.result.now c.in_ok-entry.entry c.in-Payload.len start c.in-Payload.ensures.start
          (c.in_ok-entry.ensures.bytes file (c.in_ok-start.ensures.seen ∙ told)) (omega arith),
    )

pub returns-clause-frame : goal.returns-clause-frame
returns-clause-frame g c = λ file told.
    let start : c.as_slice.result.now ≡ take 3 (drop c.args.at file) = c.as_slice.ensures ∙ c.in_ok-start.ensures.bytes file told in
    let few : c.in-Payload.len ≤ 4096 = omega arith in (
      omega (arith, c.in_ok-entry.ensures.few),
      whole_at c.args.at file c.as_slice.result.now c.in_ok-entry.entry c.in-Payload.len start c.in-Payload.ensures.start
          (c.in_ok-entry.ensures.bytes file (c.in_ok-start.ensures.seen ∙ told)) (omega arith),
    )
