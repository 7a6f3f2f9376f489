use Rattle.std.proofs.Common.{◌≡◌, ◌≤◌, [], ◌∷◌, ◌++◌, drop, fold, ap, sym, ◌∙◌}
use Rattle.view_cell.proofs.Ends.{turns}
use Rattle.view_cell.proofs.cell.put.Goals as goal

pub publish_as-writer-requires : goal.publish_as-writer-requires
publish_as-writer-requires g c next is =
    let desk = c.in-Ok.ensures.desk in
    let was : drop c.append.new.self.behind c.append.new.self.log.items ≡ c.args.next ∷ [] = c.in-Ok.ensures.pending ∙ ap (λ l. l ++ c.args.next ∷ []) c.requires.idle in
    let it : next ≡ c.args.next = is ∙ ap (λ l. fold (λ p q. q) c.append.new.self.desk.shown.value l) was in
    let book : next.seen.book ≡ c.append.new.self.desk.shown.value.seen.book = ap (λ p. p.seen.book) it ∙ (c.requires.book ∙ sym (ap (λ d. d.shown.value.seen.book) desk)) in
    let rises : c.append.new.self.desk.shown.value.look.ops ≤ next.look.ops = rw (it, desk) c.requires.rises in
    turns _ _ c.append.new.self.desk.shown.value next book rises
