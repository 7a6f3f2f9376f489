use Rattle.std.proofs.lemmas.Result.{on_ok_weaker}
use Rattle.report_text.proofs.Seen.{confirmed_put}
use Rattle.report_text.proofs.positions.ConfirmedLog.put.Goals as goal

pub returns : goal.returns
returns c =
    on_ok_weaker c.put.result (confirmed_put c.self.inside.positions c.put.new.self c.args.self.now c.args.position c.args.confirmed c.self.view_is) c.put.ensures
