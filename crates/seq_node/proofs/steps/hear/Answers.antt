use Rattle.std.proofs.Common.{◌<◌, ℕ, refl, sym, subst}
use Rattle.seq_node.proofs.UnderWays.{number_from, among_replicas, sends_valid, has_its_slot}
use Rattle.seq_node.proofs.steps.hear.Goals as goal

pub returns-in-Report : goal.returns-in-Report
returns-in-Report c = rw c.in-Report.is (c.hear_report.ensures c.args.out.now)

pub hear_promise-requires : goal.hear_promise-requires
hear_promise-requires c =
    let n = c.args.seq.now in
    among_replicas n c.number_of.result c.requires.under_way
    (subst (λ (k : ℕ). k < n.base.cfg.seqs) (sym c.number_of.ensures) (number_from n.base.cfg n.base.me c.args.message.now _ c.requires.heeded c.in-Promise.is refl))

pub hear_acceptance-requires : goal.hear_acceptance-requires
hear_acceptance-requires c =
    let n = c.args.seq.now in
    record {
      from =
          among_replicas n c.number_of-in-Accepted.result c.requires.under_way
          (subst (λ (k : ℕ). k < n.base.cfg.seqs) (sym c.number_of-in-Accepted.ensures) (number_from n.base.cfg n.base.me c.args.message.now _ c.requires.heeded c.in-Accepted.is refl));
      valid = sends_valid n c.requires.under_way;
      slot = has_its_slot n c.requires.under_way;
    }
