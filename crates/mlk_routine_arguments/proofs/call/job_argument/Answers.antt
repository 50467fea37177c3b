use Rattle.std.proofs.Common.{refl}
use Rattle.mlk_routine_arguments.specs.Ends.{CallEnds, JobEnds}
use Rattle.mlk_syntax.specs.Views.{call_of}
use Rattle.mlk_routine_arguments.specs.CommandGrammar.{IsJob}
use Rattle.mlk_routine_arguments.proofs.Outcomes.{denies}
use Rattle.mlk_routine_arguments.proofs.Arguments.{lacking_nowhere}
use Rattle.mlk_routine_arguments.proofs.call.job_argument.Goals as goal

pub returns-then-has_byte : goal.returns-then-has_byte
returns-then-has_byte c =
    denies IsJob JobEnds c.args.line.now c.args.at c.leaves_out.result (c.leaves_out.ensures.fault c.args.line.now c.in_ok-called.ensures.0.within)
    (lacking_nowhere IsJob CallEnds c.args.line.now c.args.at 58 (call_of c.in_ok-called.called) c.in_ok-called.next c.in_ok-called.ensures (c.if-has_byte.ensures.yes refl))
