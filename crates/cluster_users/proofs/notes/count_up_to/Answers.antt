use Rattle.cluster_users.proofs.Rising.{counted, last_up_to}
use Rattle.cluster_users.proofs.notes.count_up_to.Goals as goal

pub returns-else-looks-left : goal.returns-else-looks-left
returns-else-looks-left c =
    let within = c.loop-left.invariant in
    counted c.args.number c.loop-left.left c.args.looks.now c.requires within.1
    (last_up_to c.args.number c.loop-left.left c.args.looks.now c.index-looks-left.result c.loop-left-test.true within.0 c.if-looks-left.false)
