use Rattle.std.proofs.Common.{◌≡◌, ◌++◌, ◌∷◌, [], length, get_or, ap, ◌∙◌, arith}
use Rattle.std.specs.Option.{option_to_list}
use Rattle.shard_log.specs.inside.Places.{place_by}
use Rattle.shard_log.proofs.LogLemmas.{IsIndexed_push, places_of_below}
use Rattle.shard_log.proofs.log.ShardLog.push.Goals as goal

pub note_place-requires-clause-above : goal.note_place-requires-clause-above
note_place-requires-clause-above c = λ client h.
    let log = c.self.inside.records.items in
    let local : c.len-local.result ≡ length log = omega (arith, ap length c.reserve.ensures.items) in
    rw (c.self.invariant.places client h, local) (places_of_below client log)

pub invariant_of-self-2 : goal.invariant_of-self-2
invariant_of-self-2 c =
    let log = c.self.inside.records.items in
    let local : c.len-local.result ≡ length log = omega (arith, ap length c.reserve.ensures.items) in
    let items : c.push.new.self.items ≡ log ++ c.args.rec ∷ [] =
    c.in-Ok.ensures.items ∙ ap (λ items. items ++ c.args.rec ∷ []) c.reserve.ensures.items in
    rw items (IsIndexed_push log c.args.rec c.self.inside.clients c.note_place.new.clients c.self.invariant c.requires
    (λ client h. c.in_ok-note_place.ensures.ok client h ∙ ap (λ n. get_or c.self.inside.clients client [] ++ option_to_list (place_by client n c.args.rec)) local))
