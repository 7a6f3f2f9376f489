use Rattle.std.proofs.Common.{◌≡◌, map, ap, ◌∙◌}
use Rattle.msg_wire.specs.Items.{items_spelling}
use Rattle.node_actor.specs.Chunks.{all_items}
use Rattle.node_actor.proofs.Keeping.{kept_file}
use Rattle.node_actor.proofs.Results.{map_if}
use Rattle.node_actor.proofs.store.reload.Goals as goal

pub returns-in-Ok-clause-ok : goal.returns-in-Ok-clause-ok
returns-in-Ok-clause-ok g c = λ chunks keeps.
    let kept = kept_file g.D.Disk c.args.store chunks keeps in
    let told = ap g.D.Disk.seen c.into_disk.ensures ∙ kept.told in
    let gate = c.in-Ok.ensures.with_gate kept.file (map items_spelling chunks) told kept.stands in
    map_if c.items_in-items.result (λ items. items ≡ all_items chunks) _ (λ items is. (is, (gate.1, kept.entries)))
    (c.items_in-items.ensures.ok chunks kept.entries (c.as_slice.ensures ∙ gate.0))
