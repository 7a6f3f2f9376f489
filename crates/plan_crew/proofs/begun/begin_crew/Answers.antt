use Rattle.std.proofs.Common.{◌≡◌, ◌+◌, ◌*◌, length, ap, ◌∙◌, arith}
use Rattle.plan_crew.proofs.Beginning.{crew_begins, as_many}
use Rattle.plan_crew.specs.Begins.{sides_of, members_of}
use Rattle.plan_crew.proofs.begun.begin_crew.Goals as goal

pub sides_of-sides-requires-clause-room : goal.sides_of-sides-requires-clause-room
sides_of-sides-requires-clause-room g c =
    let (desks, belong) = c.requires.belong in
    let each = as_many g.row.P.Denot c.args.plan.now desks c.args.actors.items c.args.takers.items c.args.publishers.items
    c.args.readers.items c.args.submitters.items c.requires.new belong in
    omega (arith, each, c.requires.room.sides, c.args.actors.ok, c.args.takers.ok, c.args.publishers.ok)

pub returns : goal.returns
returns g c = let bare : c.from.result + 2 * c.from-shards.result ≡ c.args.plan.now.cfg.seqs + 2 * c.args.plan.now.cfg.shards =
    omega (arith, c.from.ensures, c.from-shards.ensures) in record {
      at = λ desks seats belong seated.
          crew_begins g.N.NodeModel g.D.Disk c.args.plan.now desks seats c.args.actors.items c.args.takers.items c.args.publishers.items
          (record { members = c.members_of.result; readers = c.args.readers; submitters = c.args.submitters }) c.requires.valid c.requires.new belong seated
          (c.members_of.ensures
          ∙ ap (members_of c.args.actors.items) (c.sides_of-sides.ensures ∙ ap (λ n. sides_of n c.args.takers.items c.args.publishers.items) bare));
    }
