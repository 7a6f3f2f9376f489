-- The types that scripts and plans speak of, and their variants: import from here.
pub use Rattle.msg_wire.specs.Names.{NodeId, Row, AppKind}
pub use Rattle.msg_wire.specs.Names.apps
pub use Rattle.msg_wire.specs.declared.config.Config.{Config}
pub use Rattle.msg_wire.specs.declared.event.Command.{Command}
pub use Rattle.msg_wire.specs.declared.input.Input.{Input}
pub use Rattle.msg_wire.specs.declared.event.Command.TheVariants as commands
pub use Rattle.msg_wire.specs.declared.input.Input.TheVariants as inputs
pub use Rattle.msg_wire.specs.declared.plan.Plan.{Plan}
pub use Rattle.msg_wire.specs.declared.plan.PlanLine.{PlanLine}
pub use Rattle.msg_wire.specs.declared.plan.PlanLine.TheVariants as plan_lines
pub use Rattle.quota_table.specs.declared.rows.Asked.{Asked}
pub use Rattle.quota_table.specs.declared.errors.TableError.{TableError}
pub use Rattle.script_text.specs.declared.kind.ScriptKind.{ScriptKind}
pub use Rattle.script_text.specs.declared.kind.ScriptKind.TheVariants as kinds
pub use Rattle.script_text.specs.declared.errors.ScriptError.{ScriptError}
pub use Rattle.script_text.specs.declared.errors.ScriptError.TheVariants as script_errors
