use Rattle.std.proofs.Common.{arith, ◌≡◌, ◌≤◌, ◌++◌, length, map, ap, ◌∙◌, subst}
use Rattle.gate_vault.specs.Put.{TellsBeforeOrAfter}
use Rattle.msg_wire.specs.Items.{items_spelling}
use Rattle.node_actor.specs.Stores.{KeepsChunks}
use Rattle.node_actor.proofs.Keeping.{gate_keeps, kept_tells, failed_tells}
use Rattle.node_actor.proofs.store.keep.Goals as goal

pub returns-in_err-append-clause-tells : goal.returns-in_err-append-clause-tells
returns-in_err-append-clause-tells g c = λ chunks keeps.
    let kept = subst (λ s. KeepsChunks g.D.Disk s chunks) c.in-Open.is keeps in
    let spelled : c.as_slice.result.now ≡ items_spelling c.args.items.now =
    c.as_slice.ensures ∙ c.in_ok-encode_items.ensures.ok ∙ ap (λ l. l ++ items_spelling c.args.items.now) c.clear.ensures in
    let some : 1 ≤ length c.args.items.now = grind (arith, c.is_empty.ensures, c.if-is_empty.false) in
    failed_tells _ chunks c.args.items.now kept.1 (record { some = some; each = c.requires })
    (subst (TellsBeforeOrAfter (g.D.Disk.seen _) (map items_spelling chunks)) spelled (c.in_err-append.ensures.failed (map items_spelling chunks) kept.0))

pub returns-clause-tells : goal.returns-clause-tells
returns-clause-tells g c = λ chunks keeps.
    let kept = subst (λ s. KeepsChunks g.D.Disk s chunks) c.in-Open.is keeps in
    let spelled : c.as_slice.result.now ≡ items_spelling c.args.items.now =
    c.as_slice.ensures ∙ c.in_ok-encode_items.ensures.ok ∙ ap (λ l. l ++ items_spelling c.args.items.now) c.clear.ensures in
    let some : 1 ≤ length c.args.items.now = grind (arith, c.is_empty.ensures, c.if-is_empty.false) in
    kept_tells g.D.Disk c.append.new.self chunks c.args.items.now c.as_slice.result.now spelled kept.1 (record { some = some; each = c.requires })
    (c.in_ok-append.ensures.acknowledged (map items_spelling chunks) (gate_keeps g.D.Disk c.in-Open.vault (map items_spelling chunks) kept.0))
