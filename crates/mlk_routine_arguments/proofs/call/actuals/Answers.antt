use Rattle.std.proofs.Common.{refl}
use Rattle.mlk_routine_arguments.proofs.Calls.{no_given}
use Rattle.mlk_routine_arguments.proofs.call.actuals.Goals as goal

pub returns-then-not-has_byte : goal.returns-then-not-has_byte
returns-then-not-has_byte c = no_given c.args.allows c.args.passing c.args.line.now c.args.at c.requires (c.if-not-has_byte.ensures.no refl)
