use Rattle.std.proofs.Common.{◌≡◌, ℕ, ◌<◌, length, Option, Some, None, Result, refl, sym, ap, ◌∙◌}
use Rattle.std.specs.Prelude.{IfOk}
use Rattle.std.specs.List.{slice_get}
use Rattle.std.specs.Option.{option_map_or}
use Rattle.std.proofs.lemmas.Result.{IfOk-weaker}
use Rattle.net_model.specs.Pasts.{sent}
use Rattle.runs.specs.Names.{Message}
use Rattle.runs.specs.Names.events
use Rattle.world.specs.inside.PlayerSteps.{PlayerState, happens, settles, delivers}
use Rattle.world.proofs.Lists.{none_there}
use Rattle.world.proofs.player.Player.deliver.Goals as goal

delivered : {E : Type 0} → (r : Result PlayerState E) (number : ℕ) (s t : PlayerState) (message : Option Message) → slice_get (sent s.past) number ≡ message
    → number < length (sent s.past) → t ≡ settles number s
    → ((m : Message) → slice_get (sent t.past) number ≡ Some m → IfOk r (λ p. p ≡ happens m.to (events.Deliver m) t)) → IfOk r (λ p. p ≡ delivers number s)
delivered r number s t None there within is made = absurd (none_there (sent s.past) number within there)
delivered r number s t (Some m) there within is made =
    let named : delivers number s ≡ happens m.to (events.Deliver m) (settles number s) =
    ap (λ (o : Option Message). option_map_or (λ (x : Message). happens x.to (events.Deliver x) (settles number s)) o s) there in
    IfOk-weaker r (λ p. p ≡ happens m.to (events.Deliver m) t) (λ p. p ≡ delivers number s) (λ p e. e ∙ ap (happens m.to (events.Deliver m)) is ∙ sym named)
    (made m (ap (λ (k : PlayerState). slice_get (sent k.past) number) is ∙ there))

pub returns : goal.returns
returns c = delivered c.take_message.result c.args.number c.args.self c.settle.result (slice_get (sent c.args.self.past) c.args.number) refl c.requires c.settle.ensures c.take_message.ensures
