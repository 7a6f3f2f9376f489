use Rattle.std.proofs.Common.{◌≡◌, ◌<◌, [], ◌∷◌, ◌++◌, length, subst, sym, ap, ◌∙◌}
use Rattle.std.specs.List.{slice_get}
use Rattle.std.specs.Option.{option_map_or}
use Rattle.net_model.specs.declared.steps.Taken.TheVariants as kept
use Rattle.net_model.specs.Names.{Event, HistoryEntry}
use Rattle.net_model.specs.Names.events
use Rattle.net_model.specs.inside.Kept.{entries_of, event_in}
use Rattle.net_model.proofs.Growing.{whole_put, entries_put}
use Rattle.net_model.proofs.Reading.{sent_all}
use Rattle.net_model.proofs.history.History.push_delivery.Goals as goal

pub invariant_of-self-2 : goal.invariant_of-self-2
invariant_of-self-2 c =
    let all = sent_all c.self.inside.columns c.args.self.now c.self.invariant c.self.view_is in
    whole_put c.self.inside.columns c.put.new.self c.args.node (kept.Message c.args.number) c.args.step.now.sends c.args.step.now.marks c.self.invariant
    (subst (λ messages. c.args.number < length messages) (sym all) c.requires.number) c.in_ok-put.ensures.ok

pub returns-clause-ok : goal.returns-clause-ok
returns-clause-ok c message there =
    let all = sent_all c.self.inside.columns c.args.self.now c.self.invariant c.self.view_is in
    let last : Event → HistoryEntry = λ event. record { node = c.args.node; event = event; sends = c.args.step.now.sends; marks = c.args.step.now.marks } in
    let event : event_in c.self.inside.columns (kept.Message c.args.number) ≡ events.Deliver message =
    ap (λ m. option_map_or events.Deliver m events.Tick) (ap (λ messages. slice_get messages c.args.number) all ∙ there) in
    entries_put c.self.inside.columns c.put.new.self c.args.node (kept.Message c.args.number) c.args.step.now.sends c.args.step.now.marks c.self.invariant
    (subst (λ messages. c.args.number < length messages) (sym all) c.requires.number) c.in_ok-put.ensures.ok
    ∙ ap (λ e. entries_of c.self.inside.columns ++ last e ∷ []) event
    ∙ ap (λ history. history ++ last (events.Deliver message) ∷ []) c.self.view_is
