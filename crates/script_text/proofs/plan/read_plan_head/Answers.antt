use Rattle.script_text.specs.Lines.{left_of, end_of}
use Rattle.script_text.proofs.PlanTaken.{head_config, head_few, head_limit}
use Rattle.script_text.proofs.plan.read_plan_head.Goals as goal

pub returns-clause-valid : goal.returns-clause-valid
returns-clause-valid c = head_config (end_of c.args.lines.now) (left_of c.args.lines.now) (left_of c.ten_lines.new.lines) c.ten_lines.result c.ten_lines.ensures

pub returns-clause-few : goal.returns-clause-few
returns-clause-few c = head_few (end_of c.args.lines.now) (left_of c.args.lines.now) (left_of c.ten_lines.new.lines) c.ten_lines.result c.ten_lines.ensures

pub returns-clause-limit : goal.returns-clause-limit
returns-clause-limit c = head_limit (end_of c.args.lines.now) (left_of c.args.lines.now) (left_of c.ten_lines.new.lines) c.ten_lines.result c.ten_lines.ensures
