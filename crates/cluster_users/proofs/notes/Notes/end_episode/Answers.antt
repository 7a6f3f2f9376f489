use Rattle.std.proofs.Common.{ap, sym, subst, ◌∙◌}
use Rattle.cluster_users.specs.Noting.{RiseStrictly}
use Rattle.cluster_users.proofs.Noted.{last_rise}
use Rattle.cluster_users.proofs.notes.Notes.end_episode.Goals as goal

pub count_up_to-requires : goal.count_up_to-requires
count_up_to-requires c =
    let same = c.as_slice.ensures ∙ ap (λ n. n.kept) c.in_ok-note_last.ensures in
    subst RiseStrictly (sym same) (last_rise c.args.met c.args.begun _ c.args.last c.requires.rise c.requires.up_to)
