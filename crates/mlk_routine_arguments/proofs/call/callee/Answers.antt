use Rattle.std.proofs.Common.{refl}
use Rattle.mlk_expr.specs.Grammar.{IsCalleeText}
use Rattle.mlk_expr.specs.Theorem.{CalleeEnds}
use Rattle.mlk_routine_arguments.proofs.Arguments.{lacking_found}
use Rattle.mlk_routine_arguments.proofs.call.callee.Goals as goal

pub returns-then-not-has_byte : goal.returns-then-not-has_byte
returns-then-not-has_byte c = lacking_found IsCalleeText CalleeEnds c.args.line.now c.args.at 43 c.in_ok-called.called c.in_ok-called.next c.in_ok-called.ensures (c.if-not-has_byte.ensures.no refl)
