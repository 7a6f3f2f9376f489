use Rattle.std.proofs.Common.{◌≡◌, ◌<◌, arith, refl, sym, ap, ◌∙◌, length, None}
use Rattle.std.proofs.lemmas.List.{get_or_default}
use Rattle.cluster_drain.proofs.Running.{all_going, one_more_going}
use Rattle.cluster_drain.proofs.draining.are_going.Goals as goal

pub loop-place-init : goal.loop-place-init
loop-place-init g c = (λ k d low. absurd (omega (arith, low)), refl)

pub returns-clause-going : goal.returns-clause-going
returns-clause-going g c = λ is. all_going c.args.actors.now (λ k d low. c.loop-place.invariant.0 k d
    (omega (arith, low, c.loop-place-test.false, c.loop-place.invariant.1)))

pub loop-place-preserved : goal.loop-place-preserved
loop-place-preserved g c =
    let xs = c.args.actors.now in
    let k = c.loop-place.place in
    let d = c.index-actors-place.result in
    let calm : d.stopped ≡ None = sym c.stopped.ensures ∙ c.in-None.is in
    let within : k < length xs = omega (arith, c.loop-place-test.true, c.loop-place.invariant.1) in (
      one_more_going k xs c.loop-place.invariant.0 (λ e. ap (λ a. a.stopped) (get_or_default xs k e d within ∙ sym c.index-actors-place.is) ∙ calm),
      c.loop-place.invariant.1,
    )
