use Rattle.mlk_routine_arguments.proofs.Arguments.{bare_call, none_mapped}
use Rattle.mlk_routine_arguments.proofs.call.quiet_call.Goals as goal

pub returns-then-is_none : goal.returns-then-is_none
returns-then-is_none c = bare_call c.args.line.now c.args.at c.args.any.column c.args.any.callee _ c.args.next (none_mapped _ c.args.any.actuals c.if-is_none.ensures) c.requires.read
